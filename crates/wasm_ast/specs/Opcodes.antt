-- The opcode of each instruction, by kind of operation (WebAssembly Core Specification 1.0, section 5.4). There the
-- instructions of one kind stand in a row, and so the opcode of one is that of the first and its place behind it.
use Rattle.std.specs.Prelude.{ℕ, ◌+◌, ◌*◌, ◌==◌, if◌then◌else◌}
use Rattle.wasm_operators.specs.declared.UnOp.{UnOp}
use Rattle.wasm_operators.specs.declared.UnOp.TheVariants as unary
use Rattle.wasm_operators.specs.declared.BinOp.{BinOp}
use Rattle.wasm_operators.specs.declared.BinOp.TheVariants as binary
use Rattle.wasm_operators.specs.declared.CmpOp.{CmpOp}
use Rattle.wasm_operators.specs.declared.CmpOp.TheVariants as compare
use Rattle.wasm_operators.specs.declared.CvtOp.TheVariants as convert
use Rattle.wasm_ast.specs.declared.types.ValTy.{ValTy}
use Rattle.wasm_ast.specs.declared.types.ValTy.TheVariants.{I32, I64}
use Rattle.wasm_ast.specs.declared.operation.Access.{Access}
use Rattle.wasm_ast.specs.declared.instructions.WInstr.{WInstr, out-WInstr}
use Rattle.wasm_ast.specs.declared.instructions.WInstr.TheOpen.{WInstr-F}
use Rattle.wasm_ast.specs.Operations.{Operation, operation_in}

-- the place of a comparison behind `eq`
abbrev pub comparison_place : CmpOp → ℕ
comparison_place compare.Eq = 0
comparison_place compare.Ne = 1
comparison_place compare.LtS = 2
comparison_place compare.LtU = 3
comparison_place compare.GtS = 4
comparison_place compare.GtU = 5
comparison_place compare.LeS = 6
comparison_place compare.LeU = 7
comparison_place compare.GeS = 8
comparison_place compare.GeU = 9

-- the place of an operator of one integer behind `clz`
abbrev pub unary_place : UnOp → ℕ
unary_place unary.Clz = 0
unary_place unary.Ctz = 1
unary_place unary.Popcnt = 2

-- the place of an operator of two integers behind `add`
abbrev pub binary_place : BinOp → ℕ
binary_place binary.Add = 0
binary_place binary.Sub = 1
binary_place binary.Mul = 2
binary_place binary.DivS = 3
binary_place binary.DivU = 4
binary_place binary.RemS = 5
binary_place binary.RemU = 6
binary_place binary.And = 7
binary_place binary.Or = 8
binary_place binary.Xor = 9
binary_place binary.Shl = 10
binary_place binary.ShrS = 11
binary_place binary.ShrU = 12
binary_place binary.Rotl = 13
binary_place binary.Rotr = 14

-- the place of a load of a part of a value behind that of a byte with a sign
abbrev pub narrow_place : Access → ℕ
narrow_place access = 2 * access.log_width + (if access.signed then 0 else 1)

-- the opcode of a load: of a whole value, or of a part
abbrev pub load_opcode : ValTy → Access → ℕ
load_opcode I32 access = if access.log_width == 2 then 0x28 else 0x2C + narrow_place access
load_opcode I64 access = if access.log_width == 3 then 0x29 else 0x30 + narrow_place access

-- the opcode of a store: of a whole value, or of a part
abbrev pub store_opcode : ValTy → ℕ → ℕ
store_opcode I32 log_width = if log_width == 2 then 0x36 else 0x3A + log_width
store_opcode I64 log_width = if log_width == 3 then 0x37 else 0x3C + log_width

-- the opcode of an operation; an if begins alike with and without `else`
abbrev pub opcode_by : {A : Type 0} → Operation A → ℕ
opcode_by Operation.Unreachable = 0x00
opcode_by Operation.Nop = 0x01
opcode_by (Operation.Block _ _) = 0x02
opcode_by (Operation.Loop _ _) = 0x03
opcode_by (Operation.If _ _) = 0x04
opcode_by (Operation.IfElse _ _ _) = 0x04
opcode_by (Operation.Br _) = 0x0C
opcode_by (Operation.BrIf _) = 0x0D
opcode_by (Operation.BrTable _ _) = 0x0E
opcode_by Operation.Return = 0x0F
opcode_by (Operation.Call _) = 0x10
opcode_by (Operation.CallIndirect _) = 0x11
opcode_by Operation.Drop = 0x1A
opcode_by Operation.Select = 0x1B
opcode_by (Operation.LocalGet _) = 0x20
opcode_by (Operation.LocalSet _) = 0x21
opcode_by (Operation.LocalTee _) = 0x22
opcode_by (Operation.GlobalGet _) = 0x23
opcode_by (Operation.GlobalSet _) = 0x24
opcode_by (Operation.Load t access _ _) = load_opcode t access
opcode_by (Operation.Store t log_width _ _) = store_opcode t log_width
opcode_by Operation.MemorySize = 0x3F
opcode_by Operation.MemoryGrow = 0x40
opcode_by (Operation.Const32 _) = 0x41
opcode_by (Operation.Const64 _) = 0x42
opcode_by (Operation.Eqz I32) = 0x45
opcode_by (Operation.Eqz I64) = 0x50
opcode_by (Operation.Compare I32 operator) = 0x46 + comparison_place operator
opcode_by (Operation.Compare I64 operator) = 0x51 + comparison_place operator
opcode_by (Operation.Unary I32 operator) = 0x67 + unary_place operator
opcode_by (Operation.Unary I64 operator) = 0x79 + unary_place operator
opcode_by (Operation.Binary I32 operator) = 0x6A + binary_place operator
opcode_by (Operation.Binary I64 operator) = 0x7C + binary_place operator
opcode_by (Operation.Convert convert.Wrap) = 0xA7
opcode_by (Operation.Convert convert.ExtendS) = 0xAC
opcode_by (Operation.Convert convert.ExtendU) = 0xAD

-- the first byte of a layer, of which `A` stands for the nested instructions
abbrev pub opcode_in : {A : Type 0} → WInstr-F A → ℕ
opcode_in x = opcode_by (operation_in x)

-- the first byte of an instruction
abbrev pub opcode_of : WInstr → ℕ
opcode_of w = opcode_in (out-WInstr w)
