-- Immediates in the middle (WebAssembly Core Specification 1.0, section 5.4); the states are this project's own.
use Rattle.std.specs.Prelude.{ℕ, Option, Some, None}
use Rattle.wasm_ast.specs.declared.instructions.WInstr.{WInstr}
use Rattle.wasm_ast.specs.Immediates as ast
use Rattle.wasm_ast.specs.ByOpcode.{instruction_at}
use Rattle.wasm_reading.specs.declared.fault.DecodeFault.TheVariants.{BadTag}
use Rattle.wasm_reading.specs.Readers.{Reader, ◌>>=◌, give, fail}
use Rattle.wasm_reading.specs.ReadValues.{tag_at, only, u32_at}
use Rattle.wasm_reading.specs.ReadInstructions.{made}
use Rattle.wasm_items.specs.declared.immediates.Immediates.{Immediates}
use Rattle.wasm_items.specs.declared.immediates.Immediate.{Immediate}
use Rattle.wasm_items.specs.declared.immediates.Immediate.TheVariants.{Number, Labels, Const64, Zero, TypeZero}
use Rattle.wasm_items.specs.declared.immediates.NumberOf.{NumberOf}
use Rattle.wasm_items.specs.declared.immediates.NumberOf.TheVariants.{Index, Default, TypeIndex, Alignment, Offset, Const32}
use Rattle.wasm_items.specs.Residuals.{WantsAByte}
use Rattle.wasm_items.specs.WantsBytes.{wants_then, wants_leb, wants_tag}
use Rattle.wasm_items.specs.LebStates.{rest_of_leb}
use Rattle.wasm_items.specs.Vectors.{rest_of_vector, wants_vector}

-- what is read behind a number of 32 bits
abbrev pub behind_number : NumberOf → ℕ → Reader (ast.Immediate WInstr)
behind_number Index n = give (ast.Index n)
behind_number (Default labels) n = give (ast.Labels labels n)
behind_number TypeIndex n = do _ ← tag_at (only 0x00); give (ast.IndexZero n)
behind_number Alignment n = do offset ← u32_at; give (ast.MemArg n offset)
behind_number (Offset alignment) n = give (ast.MemArg alignment n)
behind_number Const32 n = give (ast.Const32 n)

-- the rest of the immediates
abbrev pub rest_of_immediate : Immediate → Reader (ast.Immediate WInstr)
rest_of_immediate (Number what number) = rest_of_leb number >>= behind_number what
rest_of_immediate (Labels labels) = do
  labels ← rest_of_vector u32_at rest_of_leb labels
  default ← u32_at
  give (ast.Labels labels default)
rest_of_immediate (Const64 number) = do n ← rest_of_leb number; give (ast.Const64 n)
rest_of_immediate Zero = do _ ← tag_at (only 0x00); give ast.Zero
rest_of_immediate (TypeZero n) = do _ ← tag_at (only 0x00); give (ast.IndexZero n)

-- immediates, and the instruction that the opcode makes with them
abbrev pub made_with : ℕ → ℕ → Reader (ast.Immediate WInstr) → Reader WInstr
made_with place opcode immediates = do
  immediate ← immediates
  made place (instruction_at opcode immediate)

-- immediates in the middle, up to the instruction
abbrev pub rest_of_immediates : Immediates → Reader WInstr
rest_of_immediates state = made_with state.place state.opcode (rest_of_immediate state.next)

-- an instruction, or no instruction of the opcode at `place`
abbrev pub made_of : ℕ → Option WInstr → Reader WInstr
made_of place (Some instruction) = give instruction
made_of place None = fail BadTag place

-- immediates want a byte
pub wants_immediate : (next : Immediate) → WantsAByte (rest_of_immediate next)
wants_immediate (Number what number) = wants_then (behind_number what) (wants_leb number)
wants_immediate (Labels labels) = wants_then (λ labels. u32_at >>= (λ default. give (ast.Labels labels default))) (wants_vector u32_at rest_of_leb wants_leb labels)
wants_immediate (Const64 number) = wants_then (λ n. give (ast.Const64 n)) (wants_leb number)
wants_immediate Zero = wants_then (λ _. give ast.Zero) (wants_tag (only 0x00))
wants_immediate (TypeZero n) = wants_then (λ _. give (ast.IndexZero n)) (wants_tag (only 0x00))

pub wants_immediates : (state : Immediates) → WantsAByte (rest_of_immediates state)
wants_immediates state = wants_then (λ immediate. made state.place (instruction_at state.opcode immediate)) (wants_immediate state.next)
