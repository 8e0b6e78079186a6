-- What number instructions take and give, by their WebAssembly types (WebAssembly Core Specification 1.0, section
-- 3.3.1).
use Rattle.std.specs.Prelude.{List, [], ◌∷◌}
use Rattle.rw_types.specs.declared.numbers.NumName.{NumName}
use Rattle.rw_types.specs.declared.numbers.NumName.TheVariants as num
use Rattle.rw_types.specs.declared.types.Ty.{Ty}
use Rattle.rich_rules.specs.Takers.{unr_i32, unr_i64}

-- the operands that are taken, the top one first, and the type that is given
pub record NumSig : Type 0 where
  pub taken : List Ty
  pub given : Ty

-- one operand of this type, and a result of that one
abbrev pub convert : Ty → Ty → NumSig
convert t u = record { taken = t ∷ []; given = u }

-- one operand, and a result of its type
abbrev pub unary : Ty → NumSig
unary t = convert t t

-- two operands of a type, and a result of it
abbrev pub binary : Ty → NumSig
binary t = record { taken = t ∷ t ∷ []; given = t }

-- one operand of a type, and a truth value
abbrev pub test : Ty → NumSig
test t = convert t unr_i32

-- two operands of a type, and a truth value
abbrev pub compare : Ty → NumSig
compare t = record { taken = t ∷ t ∷ []; given = unr_i32 }

-- what each number instruction takes and gives
abbrev pub num_sig : NumName → NumSig
num_sig num.I32Eqz = test unr_i32
num_sig num.I32Eq = compare unr_i32
num_sig num.I32Ne = compare unr_i32
num_sig num.I32LtS = compare unr_i32
num_sig num.I32LtU = compare unr_i32
num_sig num.I32GtS = compare unr_i32
num_sig num.I32GtU = compare unr_i32
num_sig num.I32LeS = compare unr_i32
num_sig num.I32LeU = compare unr_i32
num_sig num.I32GeS = compare unr_i32
num_sig num.I32GeU = compare unr_i32
num_sig num.I64Eqz = test unr_i64
num_sig num.I64Eq = compare unr_i64
num_sig num.I64Ne = compare unr_i64
num_sig num.I64LtS = compare unr_i64
num_sig num.I64LtU = compare unr_i64
num_sig num.I64GtS = compare unr_i64
num_sig num.I64GtU = compare unr_i64
num_sig num.I64LeS = compare unr_i64
num_sig num.I64LeU = compare unr_i64
num_sig num.I64GeS = compare unr_i64
num_sig num.I64GeU = compare unr_i64
num_sig num.I32Clz = unary unr_i32
num_sig num.I32Ctz = unary unr_i32
num_sig num.I32Popcnt = unary unr_i32
num_sig num.I32Add = binary unr_i32
num_sig num.I32Sub = binary unr_i32
num_sig num.I32Mul = binary unr_i32
num_sig num.I32DivS = binary unr_i32
num_sig num.I32DivU = binary unr_i32
num_sig num.I32RemS = binary unr_i32
num_sig num.I32RemU = binary unr_i32
num_sig num.I32And = binary unr_i32
num_sig num.I32Or = binary unr_i32
num_sig num.I32Xor = binary unr_i32
num_sig num.I32Shl = binary unr_i32
num_sig num.I32ShrS = binary unr_i32
num_sig num.I32ShrU = binary unr_i32
num_sig num.I32Rotl = binary unr_i32
num_sig num.I32Rotr = binary unr_i32
num_sig num.I64Clz = unary unr_i64
num_sig num.I64Ctz = unary unr_i64
num_sig num.I64Popcnt = unary unr_i64
num_sig num.I64Add = binary unr_i64
num_sig num.I64Sub = binary unr_i64
num_sig num.I64Mul = binary unr_i64
num_sig num.I64DivS = binary unr_i64
num_sig num.I64DivU = binary unr_i64
num_sig num.I64RemS = binary unr_i64
num_sig num.I64RemU = binary unr_i64
num_sig num.I64And = binary unr_i64
num_sig num.I64Or = binary unr_i64
num_sig num.I64Xor = binary unr_i64
num_sig num.I64Shl = binary unr_i64
num_sig num.I64ShrS = binary unr_i64
num_sig num.I64ShrU = binary unr_i64
num_sig num.I64Rotl = binary unr_i64
num_sig num.I64Rotr = binary unr_i64
num_sig num.I32WrapI64 = convert unr_i64 unr_i32
num_sig num.I64ExtendI32S = convert unr_i32 unr_i64
num_sig num.I64ExtendI32U = convert unr_i32 unr_i64
