-- The instruction with an opcode and immediates, by one table for each kind of immediates, in the order of the
-- opcodes (WebAssembly Core Specification 1.0, section 5.4). `A` stands for the nested instructions.
use Rattle.std.specs.Prelude.{ℕ, List, [], ◌∷◌, Option, Some, None, ◌==◌, if◌then◌else◌}
use Rattle.std.specs.Option.{option_map}
use Rattle.wasm_ast.specs.declared.types.ValTy.{ValTy}
use Rattle.wasm_ast.specs.declared.instructions.WInstr.TheOpen.{WInstr-F}
use Rattle.wasm_ast.specs.Immediates.{Immediate, Bare, Index, Labels, IndexZero, Zero, MemArg, Const32, Const64, Body, Bodies}

-- what a table has at an opcode
abbrev pub look_up : {X : Type 0} → ℕ → List (ℕ × X) → Option X
look_up opcode [] = None
look_up opcode (entry ∷ entries) = if entry.0 == opcode then Some entry.1 else look_up opcode entries

-- instructions of an opcode alone
abbrev pub bare_instructions : {A : Type 0} → List (ℕ × WInstr-F A)
bare_instructions =
    (0x00, WInstr-F.Unreachable) ∷
    (0x01, WInstr-F.Nop) ∷
    (0x0F, WInstr-F.Return) ∷
    (0x1A, WInstr-F.Drop) ∷
    (0x1B, WInstr-F.Select) ∷
    (0x45, WInstr-F.I32Eqz) ∷
    (0x46, WInstr-F.I32Eq) ∷
    (0x47, WInstr-F.I32Ne) ∷
    (0x48, WInstr-F.I32LtS) ∷
    (0x49, WInstr-F.I32LtU) ∷
    (0x4A, WInstr-F.I32GtS) ∷
    (0x4B, WInstr-F.I32GtU) ∷
    (0x4C, WInstr-F.I32LeS) ∷
    (0x4D, WInstr-F.I32LeU) ∷
    (0x4E, WInstr-F.I32GeS) ∷
    (0x4F, WInstr-F.I32GeU) ∷
    (0x50, WInstr-F.I64Eqz) ∷
    (0x51, WInstr-F.I64Eq) ∷
    (0x52, WInstr-F.I64Ne) ∷
    (0x53, WInstr-F.I64LtS) ∷
    (0x54, WInstr-F.I64LtU) ∷
    (0x55, WInstr-F.I64GtS) ∷
    (0x56, WInstr-F.I64GtU) ∷
    (0x57, WInstr-F.I64LeS) ∷
    (0x58, WInstr-F.I64LeU) ∷
    (0x59, WInstr-F.I64GeS) ∷
    (0x5A, WInstr-F.I64GeU) ∷
    (0x67, WInstr-F.I32Clz) ∷
    (0x68, WInstr-F.I32Ctz) ∷
    (0x69, WInstr-F.I32Popcnt) ∷
    (0x6A, WInstr-F.I32Add) ∷
    (0x6B, WInstr-F.I32Sub) ∷
    (0x6C, WInstr-F.I32Mul) ∷
    (0x6D, WInstr-F.I32DivS) ∷
    (0x6E, WInstr-F.I32DivU) ∷
    (0x6F, WInstr-F.I32RemS) ∷
    (0x70, WInstr-F.I32RemU) ∷
    (0x71, WInstr-F.I32And) ∷
    (0x72, WInstr-F.I32Or) ∷
    (0x73, WInstr-F.I32Xor) ∷
    (0x74, WInstr-F.I32Shl) ∷
    (0x75, WInstr-F.I32ShrS) ∷
    (0x76, WInstr-F.I32ShrU) ∷
    (0x77, WInstr-F.I32Rotl) ∷
    (0x78, WInstr-F.I32Rotr) ∷
    (0x79, WInstr-F.I64Clz) ∷
    (0x7A, WInstr-F.I64Ctz) ∷
    (0x7B, WInstr-F.I64Popcnt) ∷
    (0x7C, WInstr-F.I64Add) ∷
    (0x7D, WInstr-F.I64Sub) ∷
    (0x7E, WInstr-F.I64Mul) ∷
    (0x7F, WInstr-F.I64DivS) ∷
    (0x80, WInstr-F.I64DivU) ∷
    (0x81, WInstr-F.I64RemS) ∷
    (0x82, WInstr-F.I64RemU) ∷
    (0x83, WInstr-F.I64And) ∷
    (0x84, WInstr-F.I64Or) ∷
    (0x85, WInstr-F.I64Xor) ∷
    (0x86, WInstr-F.I64Shl) ∷
    (0x87, WInstr-F.I64ShrS) ∷
    (0x88, WInstr-F.I64ShrU) ∷
    (0x89, WInstr-F.I64Rotl) ∷
    (0x8A, WInstr-F.I64Rotr) ∷
    (0xA7, WInstr-F.I32WrapI64) ∷
    (0xAC, WInstr-F.I64ExtendI32S) ∷
    (0xAD, WInstr-F.I64ExtendI32U) ∷
    []

-- instructions of an index
abbrev pub index_instructions : {A : Type 0} → List (ℕ × (ℕ → WInstr-F A))
index_instructions =
    (0x0C, WInstr-F.Br) ∷
    (0x0D, WInstr-F.BrIf) ∷
    (0x10, WInstr-F.Call) ∷
    (0x20, WInstr-F.LocalGet) ∷
    (0x21, WInstr-F.LocalSet) ∷
    (0x22, WInstr-F.LocalTee) ∷
    (0x23, WInstr-F.GlobalGet) ∷
    (0x24, WInstr-F.GlobalSet) ∷
    []

-- instructions of a table of labels
abbrev pub label_instructions : {A : Type 0} → List (ℕ × (List ℕ → ℕ → WInstr-F A))
label_instructions =
    (0x0E, WInstr-F.BrTable) ∷
    []

-- instructions of an index and a zero byte
abbrev pub index_zero_instructions : {A : Type 0} → List (ℕ × (ℕ → WInstr-F A))
index_zero_instructions =
    (0x11, WInstr-F.CallIndirect) ∷
    []

-- instructions of a zero byte
abbrev pub zero_instructions : {A : Type 0} → List (ℕ × WInstr-F A)
zero_instructions =
    (0x3F, WInstr-F.MemorySize) ∷
    (0x40, WInstr-F.MemoryGrow) ∷
    []

-- loads and stores
abbrev pub memory_instructions : {A : Type 0} → List (ℕ × (ℕ → ℕ → WInstr-F A))
memory_instructions =
    (0x28, WInstr-F.I32Load) ∷
    (0x29, WInstr-F.I64Load) ∷
    (0x2C, WInstr-F.I32Load8S) ∷
    (0x2D, WInstr-F.I32Load8U) ∷
    (0x2E, WInstr-F.I32Load16S) ∷
    (0x2F, WInstr-F.I32Load16U) ∷
    (0x30, WInstr-F.I64Load8S) ∷
    (0x31, WInstr-F.I64Load8U) ∷
    (0x32, WInstr-F.I64Load16S) ∷
    (0x33, WInstr-F.I64Load16U) ∷
    (0x34, WInstr-F.I64Load32S) ∷
    (0x35, WInstr-F.I64Load32U) ∷
    (0x36, WInstr-F.I32Store) ∷
    (0x37, WInstr-F.I64Store) ∷
    (0x3A, WInstr-F.I32Store8) ∷
    (0x3B, WInstr-F.I32Store16) ∷
    (0x3C, WInstr-F.I64Store8) ∷
    (0x3D, WInstr-F.I64Store16) ∷
    (0x3E, WInstr-F.I64Store32) ∷
    []

-- constants of 32 bits
abbrev pub const32_instructions : {A : Type 0} → List (ℕ × (ℕ → WInstr-F A))
const32_instructions =
    (0x41, WInstr-F.I32Const) ∷
    []

-- constants of 64 bits
abbrev pub const64_instructions : {A : Type 0} → List (ℕ × (ℕ → WInstr-F A))
const64_instructions =
    (0x42, WInstr-F.I64Const) ∷
    []

-- instructions of one list
abbrev pub body_instructions : {A : Type 0} → List (ℕ × (Option ValTy → List A → WInstr-F A))
body_instructions =
    (0x02, WInstr-F.Block) ∷
    (0x03, WInstr-F.Loop) ∷
    (0x04, WInstr-F.If) ∷
    []

-- instructions of two lists
abbrev pub bodies_instructions : {A : Type 0} → List (ℕ × (Option ValTy → List A → List A → WInstr-F A))
bodies_instructions =
    (0x04, WInstr-F.IfElse) ∷
    []

-- the instruction with this opcode and these immediates, if there is one
abbrev pub instruction_at : {A : Type 0} → ℕ → Immediate A → Option (WInstr-F A)
instruction_at opcode Bare = look_up opcode bare_instructions
instruction_at opcode (Index n) = option_map (λ make. make n) (look_up opcode index_instructions)
instruction_at opcode (Labels labels default) = option_map (λ make. make labels default) (look_up opcode label_instructions)
instruction_at opcode (IndexZero n) = option_map (λ make. make n) (look_up opcode index_zero_instructions)
instruction_at opcode Zero = look_up opcode zero_instructions
instruction_at opcode (MemArg align offset) = option_map (λ make. make align offset) (look_up opcode memory_instructions)
instruction_at opcode (Const32 n) = option_map (λ make. make n) (look_up opcode const32_instructions)
instruction_at opcode (Const64 n) = option_map (λ make. make n) (look_up opcode const64_instructions)
instruction_at opcode (Body t xs) = option_map (λ make. make t xs) (look_up opcode body_instructions)
instruction_at opcode (Bodies t xs ys) = option_map (λ make. make t xs ys) (look_up opcode bodies_instructions)
