-- Reading instructions and expressions (WebAssembly Core Specification 1.0, section 5.4), in the integer profile.
use Rattle.std.specs.Prelude.{ℕ, zero, suc, ◌+◌, ◌==◌, ◌||◌, ◌&&◌, nat_le, Bool, true, false, if◌then◌else◌, List, [], ◌∷◌, length, Option, None, Some, is_some}
use Rattle.wasm_ast.specs.declared.types.ValTy.{ValTy}
use Rattle.wasm_ast.specs.declared.instructions.WInstr.{WInstr, roll-WInstr}
use Rattle.wasm_ast.specs.declared.instructions.WInstr.TheOpen.{WInstr-F}
use Rattle.wasm_ast.specs.Immediates.{Immediate, Bare, Index, Labels, IndexZero, Zero, MemArg, Const32, Const64, Body, Bodies}
use Rattle.wasm_ast.specs.ByOpcode.{instruction_at, look_up, bare_instructions, index_instructions, label_instructions, index_zero_instructions, zero_instructions, memory_instructions, const32_instructions, const64_instructions}
use Rattle.wasm_grammar.specs.Nesting.{nesting_limit}
use Rattle.wasm_reading.specs.declared.fault.DecodeFault.{DecodeFault}
use Rattle.wasm_reading.specs.declared.fault.DecodeFault.TheVariants.{BadTag, FloatOutside, LimitOutside}
use Rattle.wasm_reading.specs.declared.kinds.ImmediateKind.{ImmediateKind}
use Rattle.wasm_reading.specs.declared.kinds.ImmediateKind.TheVariants as kinds
use Rattle.wasm_reading.specs.Readers.{Reader, ◌>>=◌, give, fail, here, byte_at}
use Rattle.wasm_reading.specs.ReadValues.{tag_at, only, u32_at, s32_at, s64_at, vector_at}
use Rattle.wasm_reading.specs.ReadTypes.{block_type_of}

-- a byte from one number to another
abbrev pub is_from_to : ℕ → ℕ → ℕ → Bool
is_from_to first last b = nat_le first b && nat_le b last

-- the opcodes of floating point: loads and stores, constants, comparisons, operations and conversions
abbrev pub is_float_opcode : ℕ → Bool
is_float_opcode b =
    is_from_to 0x2A 0x2B b || is_from_to 0x38 0x39 b || is_from_to 0x43 0x44 b || is_from_to 0x5B 0x66 b
    || is_from_to 0x8B 0xA6 b || is_from_to 0xA8 0xAB b || is_from_to 0xAE 0xBF b

-- what is wrong with an opcode that is none of the profile
abbrev pub opcode_fault : ℕ → DecodeFault
opcode_fault b = if is_float_opcode b then FloatOutside else BadTag

-- a table has the opcode
abbrev pub has : {X : Type 0} → ℕ → List (ℕ × X) → Bool
has opcode table = is_some (look_up opcode table)

-- what follows an opcode that nests no instruction
abbrev pub kind_of : ℕ → Option ImmediateKind
kind_of opcode =
    if has opcode (bare_instructions {A = ℕ}) then Some kinds.Bare
    else (if has opcode (index_instructions {A = ℕ}) then Some kinds.Index
    else (if has opcode (label_instructions {A = ℕ}) then Some kinds.Labels
    else (if has opcode (index_zero_instructions {A = ℕ}) then Some kinds.IndexZero
    else (if has opcode (zero_instructions {A = ℕ}) then Some kinds.Zero
    else (if has opcode (memory_instructions {A = ℕ}) then Some kinds.MemArg
    else (if has opcode (const32_instructions {A = ℕ}) then Some kinds.Const32
    else (if has opcode (const64_instructions {A = ℕ}) then Some kinds.Const64
    else None)))))))

-- the immediates of a kind
abbrev pub immediate_at : ImmediateKind → Reader (Immediate WInstr)
immediate_at kinds.Bare = give Bare
immediate_at kinds.Index = do n ← u32_at; give (Index n)
immediate_at kinds.Labels = do labels ← vector_at u32_at; default ← u32_at; give (Labels labels default)
immediate_at kinds.IndexZero = do n ← u32_at; _ ← tag_at (only 0x00); give (IndexZero n)
immediate_at kinds.Zero = do _ ← tag_at (only 0x00); give Zero
immediate_at kinds.MemArg = do align ← u32_at; offset ← u32_at; give (MemArg align offset)
immediate_at kinds.Const32 = do n ← s32_at; give (Const32 n)
immediate_at kinds.Const64 = do n ← s64_at; give (Const64 n)

-- the instruction that an opcode and its immediates make
abbrev pub made : ℕ → Option (WInstr-F WInstr) → Reader WInstr
made place (Some w) = give (roll-WInstr w)
made place None = fail BadTag place

-- an instruction that nests none, behind its opcode, which stands at `place`
abbrev pub plain_at : ℕ → ℕ → Option ImmediateKind → Reader WInstr
plain_at place opcode (Some kind) = do
  immediate ← immediate_at kind
  made place (instruction_at opcode immediate)
plain_at place opcode None = fail (opcode_fault opcode) place

-- instructions of one list, and whether `else` and not the end stood behind them
abbrev pub Listed : Type 0
Listed = List WInstr × Bool

-- the instructions of one list
abbrev pub nested_at : ℕ → ℕ → Reader Listed → Reader WInstr
nested_at place opcode list = do
  t ← tag_at block_type_of
  xs ← list
  made place (instruction_at opcode (Body t xs.0))

-- an if whose first arm was read: the other arm, where there is one
abbrev pub other_arm_at : ℕ → Option ValTy → Listed → Reader Listed → Reader WInstr
other_arm_at place t (xs, false) list = made place (instruction_at 0x04 (Body t xs))
other_arm_at place t (xs, true) list = do
  ys ← list
  made place (instruction_at 0x04 (Bodies t xs ys.0))

-- an if, behind its opcode
abbrev pub if_at : ℕ → Reader Listed → Reader Listed → Reader WInstr
if_at place first second = do
  t ← tag_at block_type_of
  xs ← first
  other_arm_at place t xs second

-- an instruction behind its opcode, which stands at `place` with so many blocks open around it; `list` reads a list
-- of instructions in which `else` may stand or not, with so many blocks open around
abbrev pub instruction_from : (Bool → ℕ → Reader Listed) → ℕ → ℕ → ℕ → Reader WInstr
instruction_from list depth place opcode =
    if is_from_to 0x02 0x04 opcode then
    (if nat_le nesting_limit depth then fail LimitOutside place
    else (if opcode == 0x04 then if_at place (list true (depth + 1)) (list false (depth + 1))
    else nested_at place opcode (list false (depth + 1))))
    else plain_at place opcode (kind_of opcode)

-- what an opcode begins: the end of a list, `else` where one may stand, or an instruction and those behind it
abbrev pub listed_from : (Bool → ℕ → Reader Listed) → Bool → ℕ → ℕ → ℕ → Reader Listed
listed_from list with_else depth place opcode =
    if opcode == 0x0B then give ([], false)
    else (if opcode == 0x05 then (if with_else then give ([], true) else fail BadTag place)
    else (do
      x ← instruction_from list depth place opcode
      xs ← list with_else depth
      give (x ∷ xs.0, xs.1)))

-- a list of instructions, with so many blocks open around it, up to the end, or to `else` where one may stand. No
-- list has more instructions than `fuel`, which is how many bytes follow.
abbrev pub instructions_at : ℕ → Bool → ℕ → Reader Listed
instructions_at zero with_else depth = do
  place ← here
  _ ← byte_at
  fail BadTag place
instructions_at (suc fuel) with_else depth = do
  place ← here
  opcode ← byte_at
  listed_from (instructions_at fuel) with_else depth place opcode

-- an expression: instructions up to the end
abbrev pub expression_at : Reader (List WInstr)
expression_at = λ input. (do xs ← instructions_at (length input.rest) false 0; give xs.0) input

-- the immediates of an opcode that may stand in a constant expression: a constant, or the value of a global
abbrev pub constant_kind_of : ℕ → Option ImmediateKind
constant_kind_of opcode =
    if opcode == 0x41 then Some kinds.Const32
    else (if opcode == 0x42 then Some kinds.Const64
    else (if opcode == 0x23 then Some kinds.Index
    else None))

-- a constant expression: its one instruction and the end
abbrev pub constant_at : Reader WInstr
constant_at = do
  place ← here
  opcode ← byte_at
  w ← plain_at place opcode (constant_kind_of opcode)
  _ ← tag_at (only 0x0B)
  give w
