-- The readers of instructions read exactly what the grammar spells (WebAssembly Core Specification 1.0, section 5.4),
-- within the nesting of the profile.
use Rattle.std.specs.Prelude.{◌≡◌, ℕ, ◌-◌, ◌≤◌, Bool, true, false, List, ◌++◌, Some}
use Rattle.wasm_ast.specs.declared.instructions.WInstr.{WInstr}
use Rattle.wasm_ast.specs.Opcodes.{opcode_of}
use Rattle.wasm_ast.specs.Immediates.{immediate_of}
use Rattle.wasm_grammar.specs.Nesting.{nesting, nesting_limit, NestsAtMost}
use Rattle.wasm_grammar.specs.ProfileInstructions.{ImmediateFits, IsConstant}
use Rattle.wasm_grammar.specs.GrammarValues.{◌followed_by◌, IsByte}
use Rattle.wasm_grammar.specs.GrammarInstructions.{IsImmediate, IsInstruction, IsInstructions}
use Rattle.wasm_reading.specs.ReadInstructions.{Listed, kind_of, plain_at, instructions_at}
use Rattle.wasm_reading_values.specs.Exactness.{ExactIn, Exact}

-- instructions that nest none, behind their opcode
abbrev pub PlainReadExactly : Type 0
PlainReadExactly =
    (place opcode : ℕ) → Exact (plain_at place opcode (kind_of opcode)) (λ w bytes. ((opcode_of w ≡ opcode) × ImmediateFits (immediate_of w)) × IsImmediate (immediate_of w) bytes)

-- the byte behind a list, by whether `else` may stand there and whether it does: `else`, or the end
abbrev pub IsCloser : Bool → Bool → List ℕ → Type 0
IsCloser with_else false = IsByte 0x0B
IsCloser true true = IsByte 0x05
IsCloser false true = λ bytes. ⊥

-- instructions within the nesting that is left with so many blocks open around them, and the byte behind them
abbrev pub IsListed : Bool → ℕ → Listed → List ℕ → Type 0
IsListed with_else depth listed bytes =
    NestsAtMost (nesting_limit - depth) listed.0 × (IsInstructions listed.0 followed_by IsCloser with_else listed.1) bytes

-- lists of instructions, where no more bytes follow than instructions may be read
abbrev pub ListsReadExactly : Type 0
ListsReadExactly =
    (fuel : ℕ) (with_else : Bool) (depth : ℕ) → ExactIn (Some fuel) (instructions_at fuel with_else depth) (IsListed with_else depth)

-- the instruction of a constant expression opens no block
abbrev pub ConstantsNestNone : Type 0
ConstantsNestNone = (w : WInstr) → IsConstant w → nesting w ≡ 0

-- no spelling of an instruction within the nesting of the profile begins another one, and each spells one instruction
abbrev pub InstructionsHaveOneForm : Type 0
InstructionsHaveOneForm =
    (w z : WInstr) (a b u v : List ℕ) → nesting w ≤ nesting_limit → nesting z ≤ nesting_limit → IsInstruction w a → IsInstruction z b → a ++ u ≡ b ++ v → (a ≡ b) × (w ≡ z)
