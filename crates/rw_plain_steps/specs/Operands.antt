-- Operands that an instruction finds on top. This project's own.
use Rattle.std.specs.Prelude.{◌≡◌, ℕ, List, ◌∷◌}
use Rattle.wasm_operators.specs.declared.Width.{Width}
use Rattle.wasm_num.specs.Widths.{IsWithin}
use Rattle.rw_types.specs.declared.types.Priv.{Priv}
use Rattle.rw_types.specs.declared.types.Priv.TheVariants.{Rw, R}
use Rattle.rich_reduction.specs.Configurations.{Val, Vals, Number, Tuple, Ref, Ptr, Cap, Own, Fold, Code, Location}

-- a number
pub record HasNumber (operands : List Val) : Type 0 where
  pub top : ℕ
  pub rest : List Val
  pub is : operands ≡ Number top ∷ rest

-- an integer of this width
pub record HasInteger (w : Width) (operands : List Val) : Type 0 where
  pub top : ℕ
  pub rest : List Val
  pub is : operands ≡ Number top ∷ rest
  pub within : IsWithin w top

-- two integers of this width
pub record HasIntegers (w : Width) (operands : List Val) : Type 0 where
  pub top : ℕ
  pub lower : ℕ
  pub rest : List Val
  pub is : operands ≡ Number top ∷ (Number lower ∷ rest)
  pub top_within : IsWithin w top
  pub lower_within : IsWithin w lower

-- a tuple
pub record HasTuple (operands : List Val) : Type 0 where
  pub parts : Vals
  pub rest : List Val
  pub is : operands ≡ Tuple parts ∷ rest

-- a folded value
pub record HasFold (operands : List Val) : Type 0 where
  pub value : Val
  pub rest : List Val
  pub is : operands ≡ Fold value ∷ rest

-- a function
pub record HasCode (operands : List Val) : Type 0 where
  pub function : ℕ
  pub rest : List Val
  pub is : operands ≡ Code function ∷ rest

-- a reference
pub record HasRef (operands : List Val) : Type 0 where
  pub location : Location
  pub privilege : Priv
  pub rest : List Val
  pub is : operands ≡ Ref location privilege ∷ rest

-- an address, and the capability of its location
pub record HasParts (operands : List Val) : Type 0 where
  pub location : Location
  pub privilege : Priv
  pub rest : List Val
  pub is : operands ≡ Ptr location ∷ (Cap location privilege ∷ rest)

-- a capability that reads and writes
pub record HasWriting (operands : List Val) : Type 0 where
  pub location : Location
  pub rest : List Val
  pub is : operands ≡ Cap location Rw ∷ rest

-- the right to write again, and the reading capability of its location
pub record HasHalves (operands : List Val) : Type 0 where
  pub location : Location
  pub rest : List Val
  pub is : operands ≡ Own location ∷ (Cap location R ∷ rest)
