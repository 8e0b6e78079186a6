use Rattle.std.proofs.Common.{◌<◌, ◌≤◌, ◌^◌, ◌*◌, ℕ, zero, suc, arith}
use Rattle.wasm_ast.specs.declared.types.ValTy.{ValTy}
use Rattle.wasm_ast.specs.declared.types.ValTy.TheVariants.{I32, I64}
use Rattle.wasm_ast.specs.Operations.{log_bytes}
use Rattle.wasm_num.specs.Widths.{IsWithin}
use Rattle.wasm_execution.specs.Types.{width_of}
use Rattle.wasm_memory.proofs.bytes.with_sign.Goals as goal

-- a number of no more bits than a type has is of that type
fits : (t : ValTy) (k n : ℕ) → k ≤ log_bytes t → n < 2 ^ (8 * 2 ^ k) → IsWithin (width_of t) n
fits I32 zero n le lt = omega (arith, lt)
fits I32 (suc zero) n le lt = omega (arith, lt)
fits I32 (suc (suc zero)) n le lt = lt
fits I32 (suc (suc (suc k))) n le lt = absurd (omega arith)
fits I64 zero n le lt = omega (arith, lt)
fits I64 (suc zero) n le lt = omega (arith, lt)
fits I64 (suc (suc zero)) n le lt = omega (arith, lt)
fits I64 (suc (suc (suc zero))) n le lt = lt
fits I64 (suc (suc (suc (suc k)))) n le lt = absurd (omega arith)

pub returns-then-not-access-clause-small : goal.returns-then-not-access-clause-small
returns-then-not-access-clause-small c = fits c.args.ty c.args.access.log_width c.args.number c.requires.narrow c.requires.read
