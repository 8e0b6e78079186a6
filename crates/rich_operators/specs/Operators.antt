-- The operator that each number instruction names, with its width, in the order of the opcodes (WebAssembly Core Specification
-- 1.0, section 2.4.1).
use Rattle.std.specs.Prelude.{List, [], ◌∷◌}
use Rattle.wasm_operators.specs.declared.Width.{Width}
use Rattle.wasm_operators.specs.declared.Width.TheVariants.{W32, W64}
use Rattle.wasm_operators.specs.declared.UnOp.{UnOp}
use Rattle.wasm_operators.specs.declared.UnOp.TheVariants as unary
use Rattle.wasm_operators.specs.declared.BinOp.{BinOp}
use Rattle.wasm_operators.specs.declared.BinOp.TheVariants as binary
use Rattle.wasm_operators.specs.declared.CmpOp.{CmpOp}
use Rattle.wasm_operators.specs.declared.CmpOp.TheVariants as compare
use Rattle.wasm_operators.specs.declared.CvtOp.{CvtOp}
use Rattle.wasm_operators.specs.declared.CvtOp.TheVariants as convert
use Rattle.wasm_num.specs.Operators.{width_from, width_to}
use Rattle.rw_types.specs.declared.numbers.NumName.{NumName}
use Rattle.rw_types.specs.declared.numbers.NumName.TheVariants as name

-- a test for zero, a comparison, an operator of one number or of two, and a conversion
pub data Operator : Type 0 where
  Eqz : Width → Operator
  Compare : CmpOp → Width → Operator
  Unary : UnOp → Width → Operator
  Binary : BinOp → Width → Operator
  Convert : CvtOp → Operator

abbrev pub operator_of : NumName → Operator
operator_of name.I32Eqz = Eqz W32
operator_of name.I32Eq = Compare compare.Eq W32
operator_of name.I32Ne = Compare compare.Ne W32
operator_of name.I32LtS = Compare compare.LtS W32
operator_of name.I32LtU = Compare compare.LtU W32
operator_of name.I32GtS = Compare compare.GtS W32
operator_of name.I32GtU = Compare compare.GtU W32
operator_of name.I32LeS = Compare compare.LeS W32
operator_of name.I32LeU = Compare compare.LeU W32
operator_of name.I32GeS = Compare compare.GeS W32
operator_of name.I32GeU = Compare compare.GeU W32
operator_of name.I64Eqz = Eqz W64
operator_of name.I64Eq = Compare compare.Eq W64
operator_of name.I64Ne = Compare compare.Ne W64
operator_of name.I64LtS = Compare compare.LtS W64
operator_of name.I64LtU = Compare compare.LtU W64
operator_of name.I64GtS = Compare compare.GtS W64
operator_of name.I64GtU = Compare compare.GtU W64
operator_of name.I64LeS = Compare compare.LeS W64
operator_of name.I64LeU = Compare compare.LeU W64
operator_of name.I64GeS = Compare compare.GeS W64
operator_of name.I64GeU = Compare compare.GeU W64
operator_of name.I32Clz = Unary unary.Clz W32
operator_of name.I32Ctz = Unary unary.Ctz W32
operator_of name.I32Popcnt = Unary unary.Popcnt W32
operator_of name.I32Add = Binary binary.Add W32
operator_of name.I32Sub = Binary binary.Sub W32
operator_of name.I32Mul = Binary binary.Mul W32
operator_of name.I32DivS = Binary binary.DivS W32
operator_of name.I32DivU = Binary binary.DivU W32
operator_of name.I32RemS = Binary binary.RemS W32
operator_of name.I32RemU = Binary binary.RemU W32
operator_of name.I32And = Binary binary.And W32
operator_of name.I32Or = Binary binary.Or W32
operator_of name.I32Xor = Binary binary.Xor W32
operator_of name.I32Shl = Binary binary.Shl W32
operator_of name.I32ShrS = Binary binary.ShrS W32
operator_of name.I32ShrU = Binary binary.ShrU W32
operator_of name.I32Rotl = Binary binary.Rotl W32
operator_of name.I32Rotr = Binary binary.Rotr W32
operator_of name.I64Clz = Unary unary.Clz W64
operator_of name.I64Ctz = Unary unary.Ctz W64
operator_of name.I64Popcnt = Unary unary.Popcnt W64
operator_of name.I64Add = Binary binary.Add W64
operator_of name.I64Sub = Binary binary.Sub W64
operator_of name.I64Mul = Binary binary.Mul W64
operator_of name.I64DivS = Binary binary.DivS W64
operator_of name.I64DivU = Binary binary.DivU W64
operator_of name.I64RemS = Binary binary.RemS W64
operator_of name.I64RemU = Binary binary.RemU W64
operator_of name.I64And = Binary binary.And W64
operator_of name.I64Or = Binary binary.Or W64
operator_of name.I64Xor = Binary binary.Xor W64
operator_of name.I64Shl = Binary binary.Shl W64
operator_of name.I64ShrS = Binary binary.ShrS W64
operator_of name.I64ShrU = Binary binary.ShrU W64
operator_of name.I64Rotl = Binary binary.Rotl W64
operator_of name.I64Rotr = Binary binary.Rotr W64
operator_of name.I32WrapI64 = Convert convert.Wrap
operator_of name.I64ExtendI32S = Convert convert.ExtendS
operator_of name.I64ExtendI32U = Convert convert.ExtendU

-- the widths of the numbers that an operator takes
abbrev pub takes : Operator → List Width
takes (Eqz w) = w ∷ []
takes (Compare operator w) = w ∷ w ∷ []
takes (Unary operator w) = w ∷ []
takes (Binary operator w) = w ∷ w ∷ []
takes (Convert operator) = width_from operator ∷ []

-- the width of the number that it gives; a test gives one of 32 bits
abbrev pub gives : Operator → Width
gives (Eqz w) = W32
gives (Compare operator w) = W32
gives (Unary operator w) = w
gives (Binary operator w) = w
gives (Convert operator) = width_to operator
