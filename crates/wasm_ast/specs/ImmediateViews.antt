-- What an `ImmediateRef` shows of an instruction (this project's own).
use Rattle.wasm_ast.specs.declared.instructions.WInstr.{WInstr}
use Rattle.wasm_ast.specs.declared.immediate.ImmediateRef.{ImmediateRef}
use Rattle.wasm_ast.specs.declared.immediate.ImmediateRef.TheVariants as ref
use Rattle.wasm_ast.specs.Immediates.{Immediate}

-- the immediates that a view borrows
abbrev pub immediate_seen : ImmediateRef → Immediate WInstr
immediate_seen ref.Bare = Immediate.Bare
immediate_seen (ref.Index n) = Immediate.Index n
immediate_seen (ref.Labels labels default) = Immediate.Labels labels.now default
immediate_seen (ref.IndexZero n) = Immediate.IndexZero n
immediate_seen ref.Zero = Immediate.Zero
immediate_seen (ref.MemArg align offset) = Immediate.MemArg align offset
immediate_seen (ref.Const32 n) = Immediate.Const32 n
immediate_seen (ref.Const64 n) = Immediate.Const64 n
immediate_seen (ref.Body t xs) = Immediate.Body t xs.now
immediate_seen (ref.Bodies t xs ys) = Immediate.Bodies t xs.now ys.now
