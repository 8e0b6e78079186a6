-- What each instruction does, by kind, in the order of the opcodes (WebAssembly Core Specification 1.0, section 2.4):
-- the one table over all instructions, over which the others are tables of kinds. `A` stands for the nested instructions.
use Rattle.std.specs.Prelude.{ℕ, ◌≤◌, List, Option, true, false}
use Rattle.wasm_operators.specs.declared.UnOp.{UnOp}
use Rattle.wasm_operators.specs.declared.UnOp.TheVariants as unary
use Rattle.wasm_operators.specs.declared.BinOp.{BinOp}
use Rattle.wasm_operators.specs.declared.BinOp.TheVariants as binary
use Rattle.wasm_operators.specs.declared.CmpOp.{CmpOp}
use Rattle.wasm_operators.specs.declared.CmpOp.TheVariants as compare
use Rattle.wasm_operators.specs.declared.CvtOp.{CvtOp}
use Rattle.wasm_operators.specs.declared.CvtOp.TheVariants as convert
use Rattle.wasm_ast.specs.declared.types.ValTy.{ValTy}
use Rattle.wasm_ast.specs.declared.types.ValTy.TheVariants.{I32, I64}
use Rattle.wasm_ast.specs.declared.operation.Access.{Access}
use Rattle.wasm_ast.specs.declared.instructions.WInstr.{WInstr, out-WInstr}
use Rattle.wasm_ast.specs.declared.instructions.WInstr.TheOpen.{WInstr-F}

-- The thirty kinds of instructions. A number instruction has its value type and its operator, `Load` and `Store` their
-- value type, what they move, the alignment exponent and the offset; a store moves two to the power of `log_width` bytes.
pub data Operation (A : Type 0) : Type 0 where
  Unreachable : Operation A
  Nop : Operation A
  Block : (t : Option ValTy) (xs : List A) → Operation A
  Loop : (t : Option ValTy) (xs : List A) → Operation A
  If : (t : Option ValTy) (xs : List A) → Operation A
  IfElse : (t : Option ValTy) (xs ys : List A) → Operation A
  Br : (label : ℕ) → Operation A
  BrIf : (label : ℕ) → Operation A
  BrTable : (labels : List ℕ) (default : ℕ) → Operation A
  Return : Operation A
  Call : (function : ℕ) → Operation A
  CallIndirect : (type_index : ℕ) → Operation A
  Drop : Operation A
  Select : Operation A
  LocalGet : (n : ℕ) → Operation A
  LocalSet : (n : ℕ) → Operation A
  LocalTee : (n : ℕ) → Operation A
  GlobalGet : (n : ℕ) → Operation A
  GlobalSet : (n : ℕ) → Operation A
  Load : (t : ValTy) (access : Access) (align offset : ℕ) → Operation A
  Store : (t : ValTy) (log_width align offset : ℕ) → Operation A
  MemorySize : Operation A
  MemoryGrow : Operation A
  Const32 : (bits : ℕ) → Operation A
  Const64 : (bits : ℕ) → Operation A
  Eqz : (t : ValTy) → Operation A
  Compare : (t : ValTy) (operator : CmpOp) → Operation A
  Unary : (t : ValTy) (operator : UnOp) → Operation A
  Binary : (t : ValTy) (operator : BinOp) → Operation A
  Convert : (operator : CvtOp) → Operation A

-- a load of two to the power of `width` bytes, with a sign
abbrev pub with_sign : ℕ → Access
with_sign width = record { log_width = width; signed = true }

-- the same without a sign
abbrev pub without_sign : ℕ → Access
without_sign width = record { log_width = width; signed = false }

-- what an instruction does
abbrev pub operation_in : {A : Type 0} → WInstr-F A → Operation A
operation_in WInstr-F.Unreachable = Unreachable
operation_in WInstr-F.Nop = Nop
operation_in (WInstr-F.Block t xs) = Block t xs
operation_in (WInstr-F.Loop t xs) = Loop t xs
operation_in (WInstr-F.If t xs) = If t xs
operation_in (WInstr-F.IfElse t xs ys) = IfElse t xs ys
operation_in (WInstr-F.Br n) = Br n
operation_in (WInstr-F.BrIf n) = BrIf n
operation_in (WInstr-F.BrTable labels default) = BrTable labels default
operation_in WInstr-F.Return = Return
operation_in (WInstr-F.Call n) = Call n
operation_in (WInstr-F.CallIndirect n) = CallIndirect n
operation_in WInstr-F.Drop = Drop
operation_in WInstr-F.Select = Select
operation_in (WInstr-F.LocalGet n) = LocalGet n
operation_in (WInstr-F.LocalSet n) = LocalSet n
operation_in (WInstr-F.LocalTee n) = LocalTee n
operation_in (WInstr-F.GlobalGet n) = GlobalGet n
operation_in (WInstr-F.GlobalSet n) = GlobalSet n
operation_in (WInstr-F.I32Load align offset) = Load I32 (without_sign 2) align offset
operation_in (WInstr-F.I64Load align offset) = Load I64 (without_sign 3) align offset
operation_in (WInstr-F.I32Load8S align offset) = Load I32 (with_sign 0) align offset
operation_in (WInstr-F.I32Load8U align offset) = Load I32 (without_sign 0) align offset
operation_in (WInstr-F.I32Load16S align offset) = Load I32 (with_sign 1) align offset
operation_in (WInstr-F.I32Load16U align offset) = Load I32 (without_sign 1) align offset
operation_in (WInstr-F.I64Load8S align offset) = Load I64 (with_sign 0) align offset
operation_in (WInstr-F.I64Load8U align offset) = Load I64 (without_sign 0) align offset
operation_in (WInstr-F.I64Load16S align offset) = Load I64 (with_sign 1) align offset
operation_in (WInstr-F.I64Load16U align offset) = Load I64 (without_sign 1) align offset
operation_in (WInstr-F.I64Load32S align offset) = Load I64 (with_sign 2) align offset
operation_in (WInstr-F.I64Load32U align offset) = Load I64 (without_sign 2) align offset
operation_in (WInstr-F.I32Store align offset) = Store I32 2 align offset
operation_in (WInstr-F.I64Store align offset) = Store I64 3 align offset
operation_in (WInstr-F.I32Store8 align offset) = Store I32 0 align offset
operation_in (WInstr-F.I32Store16 align offset) = Store I32 1 align offset
operation_in (WInstr-F.I64Store8 align offset) = Store I64 0 align offset
operation_in (WInstr-F.I64Store16 align offset) = Store I64 1 align offset
operation_in (WInstr-F.I64Store32 align offset) = Store I64 2 align offset
operation_in WInstr-F.MemorySize = MemorySize
operation_in WInstr-F.MemoryGrow = MemoryGrow
operation_in (WInstr-F.I32Const n) = Const32 n
operation_in (WInstr-F.I64Const n) = Const64 n
operation_in WInstr-F.I32Eqz = Eqz I32
operation_in WInstr-F.I32Eq = Compare I32 compare.Eq
operation_in WInstr-F.I32Ne = Compare I32 compare.Ne
operation_in WInstr-F.I32LtS = Compare I32 compare.LtS
operation_in WInstr-F.I32LtU = Compare I32 compare.LtU
operation_in WInstr-F.I32GtS = Compare I32 compare.GtS
operation_in WInstr-F.I32GtU = Compare I32 compare.GtU
operation_in WInstr-F.I32LeS = Compare I32 compare.LeS
operation_in WInstr-F.I32LeU = Compare I32 compare.LeU
operation_in WInstr-F.I32GeS = Compare I32 compare.GeS
operation_in WInstr-F.I32GeU = Compare I32 compare.GeU
operation_in WInstr-F.I64Eqz = Eqz I64
operation_in WInstr-F.I64Eq = Compare I64 compare.Eq
operation_in WInstr-F.I64Ne = Compare I64 compare.Ne
operation_in WInstr-F.I64LtS = Compare I64 compare.LtS
operation_in WInstr-F.I64LtU = Compare I64 compare.LtU
operation_in WInstr-F.I64GtS = Compare I64 compare.GtS
operation_in WInstr-F.I64GtU = Compare I64 compare.GtU
operation_in WInstr-F.I64LeS = Compare I64 compare.LeS
operation_in WInstr-F.I64LeU = Compare I64 compare.LeU
operation_in WInstr-F.I64GeS = Compare I64 compare.GeS
operation_in WInstr-F.I64GeU = Compare I64 compare.GeU
operation_in WInstr-F.I32Clz = Unary I32 unary.Clz
operation_in WInstr-F.I32Ctz = Unary I32 unary.Ctz
operation_in WInstr-F.I32Popcnt = Unary I32 unary.Popcnt
operation_in WInstr-F.I32Add = Binary I32 binary.Add
operation_in WInstr-F.I32Sub = Binary I32 binary.Sub
operation_in WInstr-F.I32Mul = Binary I32 binary.Mul
operation_in WInstr-F.I32DivS = Binary I32 binary.DivS
operation_in WInstr-F.I32DivU = Binary I32 binary.DivU
operation_in WInstr-F.I32RemS = Binary I32 binary.RemS
operation_in WInstr-F.I32RemU = Binary I32 binary.RemU
operation_in WInstr-F.I32And = Binary I32 binary.And
operation_in WInstr-F.I32Or = Binary I32 binary.Or
operation_in WInstr-F.I32Xor = Binary I32 binary.Xor
operation_in WInstr-F.I32Shl = Binary I32 binary.Shl
operation_in WInstr-F.I32ShrS = Binary I32 binary.ShrS
operation_in WInstr-F.I32ShrU = Binary I32 binary.ShrU
operation_in WInstr-F.I32Rotl = Binary I32 binary.Rotl
operation_in WInstr-F.I32Rotr = Binary I32 binary.Rotr
operation_in WInstr-F.I64Clz = Unary I64 unary.Clz
operation_in WInstr-F.I64Ctz = Unary I64 unary.Ctz
operation_in WInstr-F.I64Popcnt = Unary I64 unary.Popcnt
operation_in WInstr-F.I64Add = Binary I64 binary.Add
operation_in WInstr-F.I64Sub = Binary I64 binary.Sub
operation_in WInstr-F.I64Mul = Binary I64 binary.Mul
operation_in WInstr-F.I64DivS = Binary I64 binary.DivS
operation_in WInstr-F.I64DivU = Binary I64 binary.DivU
operation_in WInstr-F.I64RemS = Binary I64 binary.RemS
operation_in WInstr-F.I64RemU = Binary I64 binary.RemU
operation_in WInstr-F.I64And = Binary I64 binary.And
operation_in WInstr-F.I64Or = Binary I64 binary.Or
operation_in WInstr-F.I64Xor = Binary I64 binary.Xor
operation_in WInstr-F.I64Shl = Binary I64 binary.Shl
operation_in WInstr-F.I64ShrS = Binary I64 binary.ShrS
operation_in WInstr-F.I64ShrU = Binary I64 binary.ShrU
operation_in WInstr-F.I64Rotl = Binary I64 binary.Rotl
operation_in WInstr-F.I64Rotr = Binary I64 binary.Rotr
operation_in WInstr-F.I32WrapI64 = Convert convert.Wrap
operation_in WInstr-F.I64ExtendI32S = Convert convert.ExtendS
operation_in WInstr-F.I64ExtendI32U = Convert convert.ExtendU

-- what an instruction does, with the instructions nested in it
abbrev pub operation_of : WInstr → Operation WInstr
operation_of w = operation_in (out-WInstr w)

-- how many bytes a value has, as a power of two
abbrev pub log_bytes : ValTy → ℕ
log_bytes I32 = 2
log_bytes I64 = 3

-- a load or store moves no more bytes than a value of its type has
abbrev pub FitsItsType : {A : Type 0} → Operation A → Type 0
FitsItsType (Load t access _ _) = access.log_width ≤ log_bytes t
FitsItsType (Store t log_width _ _) = log_width ≤ log_bytes t
FitsItsType _ = Unit {0}
