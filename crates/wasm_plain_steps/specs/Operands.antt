-- Operands that an instruction finds on top, and what it puts in their place (WebAssembly Core Specification 1.0, section 4.4).
use Rattle.std.specs.Prelude.{◌≡◌, ℕ, List, ◌∷◌, drop}
use Rattle.wasm_operators.specs.declared.Width.{Width}
use Rattle.wasm_num.specs.Widths.{IsWithin}

-- the top operand is an integer of this width
pub record HasOne (w : Width) (operands : List ℕ) : Type 0 where
  pub top : ℕ
  pub rest : List ℕ
  pub is : operands ≡ top ∷ rest
  pub within : IsWithin w top

-- the two top operands, the lower one first, are integers of these widths
pub record HasTwo (w u : Width) (operands : List ℕ) : Type 0 where
  pub lower : ℕ
  pub top : ℕ
  pub rest : List ℕ
  pub is : operands ≡ top ∷ (lower ∷ rest)
  pub lower_within : IsWithin w lower
  pub top_within : IsWithin u top

-- an integer of this width lies in the place of so many operands
pub record Puts (count : ℕ) (w : Width) (before after : List ℕ) : Type 0 where
  pub top : ℕ
  pub is : after ≡ top ∷ drop count before
  pub within : IsWithin w top
