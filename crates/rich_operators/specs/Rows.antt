-- Number instructions with what they name, at the ends of each run of opcodes (WebAssembly Core Specification 1.0, section 5.4.5).
use Rattle.std.specs.Prelude.{◌≡◌, [], ◌∷◌}
use Rattle.wasm_operators.specs.declared.Width.TheVariants.{W32, W64}
use Rattle.wasm_operators.specs.declared.UnOp.TheVariants.{Clz, Popcnt}
use Rattle.wasm_operators.specs.declared.BinOp.TheVariants.{Add, DivS, Rotr}
use Rattle.wasm_operators.specs.declared.CmpOp.TheVariants.{Eq, GeU}
use Rattle.wasm_operators.specs.declared.CvtOp.TheVariants.{Wrap, ExtendS, ExtendU}
use Rattle.rw_types.specs.declared.numbers.NumName.TheVariants as name
use Rattle.rich_operators.specs.Operators.{Eqz, Compare, Unary, Binary, Convert, operator_of, takes, gives}

-- what instructions name
pub record WorkedOperators : Type 0 where
  pub first_test : operator_of name.I32Eqz ≡ Eqz W32
  pub first_comparison : operator_of name.I32Eq ≡ Compare Eq W32
  pub last_comparison : operator_of name.I64GeU ≡ Compare GeU W64
  pub first_count : operator_of name.I32Clz ≡ Unary Clz W32
  pub last_count : operator_of name.I64Popcnt ≡ Unary Popcnt W64
  pub sum : operator_of name.I64Add ≡ Binary Add W64
  pub quotient : operator_of name.I32DivS ≡ Binary DivS W32
  pub last_rotation : operator_of name.I64Rotr ≡ Binary Rotr W64
  pub wrapped : operator_of name.I32WrapI64 ≡ Convert Wrap
  pub extended : operator_of name.I64ExtendI32U ≡ Convert ExtendU

-- what these take and give
pub record WorkedWidths : Type 0 where
  pub test_takes : takes (Eqz W64) ≡ W64 ∷ []
  pub test_gives : gives (Eqz W64) ≡ W32
  pub comparison_takes : takes (Compare Eq W64) ≡ W64 ∷ W64 ∷ []
  pub comparison_gives : gives (Compare Eq W64) ≡ W32
  pub quotient_takes : takes (Binary DivS W32) ≡ W32 ∷ W32 ∷ []
  pub quotient_gives : gives (Binary DivS W32) ≡ W32
  pub wrap_takes : takes (Convert Wrap) ≡ W64 ∷ []
  pub wrap_gives : gives (Convert Wrap) ≡ W32
  pub extension_takes : takes (Convert ExtendS) ≡ W32 ∷ []
  pub extension_gives : gives (Convert ExtendS) ≡ W64
