-- The canonical bytes of instructions and expressions: each number in its least spelling
-- (WebAssembly Core Specification 1.0, section 5.4).
use Rattle.std.specs.Prelude.{ℕ, ◌^◌, List, [], ◌∷◌, ◌++◌}
use Rattle.std.specs.List.{flat_map}
use Rattle.wasm_leb.specs.Leb.{unsigned_least, signed_least}
use Rattle.wasm_ast.specs.declared.instructions.WInstr.{WInstr}
use Rattle.wasm_ast.specs.Immediates.{Immediate, Bare, Index, Labels, IndexZero, Zero, MemArg, Const32, Const64, Body, Bodies}
use Rattle.wasm_ast.specs.Folds.{fold_by}
use Rattle.wasm_grammar.specs.Tags.{block_type}
use Rattle.wasm_grammar.specs.CanonicalTypes.{vector_bytes}

-- what follows an opcode, where `nested` gives the bytes of a nested instruction
abbrev pub immediate_bytes : {A : Type 0} → (A → List ℕ) → Immediate A → List ℕ
immediate_bytes nested Bare = []
immediate_bytes nested (Index n) = unsigned_least 5 n
immediate_bytes nested (Labels labels default) = vector_bytes (unsigned_least 5) labels ++ unsigned_least 5 default
immediate_bytes nested (IndexZero n) = unsigned_least 5 n ++ 0x00 ∷ []
immediate_bytes nested Zero = 0x00 ∷ []
immediate_bytes nested (MemArg align offset) = unsigned_least 5 align ++ unsigned_least 5 offset
immediate_bytes nested (Const32 n) = signed_least 5 (2 ^ 32) n
immediate_bytes nested (Const64 n) = signed_least 10 (2 ^ 64) n
immediate_bytes nested (Body t xs) = block_type t ∷ (flat_map nested xs ++ 0x0B ∷ [])
immediate_bytes nested (Bodies t xs ys) = block_type t ∷ (flat_map nested xs ++ (0x05 ∷ (flat_map nested ys ++ 0x0B ∷ [])))

-- an instruction: its opcode and what follows it
abbrev pub instruction_bytes : WInstr → List ℕ
instruction_bytes = fold_by (λ opcode immediate. opcode ∷ immediate_bytes (λ bytes. bytes) immediate)

-- an expression: its instructions and the end
abbrev pub expression_bytes : List WInstr → List ℕ
expression_bytes xs = flat_map instruction_bytes xs ++ 0x0B ∷ []

-- a constant expression: its one instruction and the end
abbrev pub constant_bytes : WInstr → List ℕ
constant_bytes w = instruction_bytes w ++ 0x0B ∷ []
