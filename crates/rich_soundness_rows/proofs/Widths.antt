-- Numbers of a width, as values and as operands that are taken.
use Rattle.std.proofs.Common.{◌≡◌, ℕ, List, [], ◌∷◌, Bool, true, false, refl, sym, subst, arith}
use Rattle.wasm_operators.specs.declared.Width.{Width}
use Rattle.wasm_operators.specs.declared.Width.TheVariants.{W32, W64}
use Rattle.wasm_num.specs.Widths.{IsWithin}
use Rattle.wasm_num.specs.Operators.{truth}
use Rattle.rw_types.specs.declared.types.Qual.TheVariants.{Unr}
use Rattle.rw_types.specs.declared.types.Ty.{Ty}
use Rattle.rich_types.specs.Instances.{Substitution}
use Rattle.rich_rules.specs.Takers.{unr_i32, unr_i64}
use Rattle.rich_reduction.specs.Configurations.{Val, Number}
use Rattle.rich_soundness_values.specs.Heaps.{Heaps, at}
use Rattle.rich_soundness_values.specs.Values.{HasType, HaveTypes, more_types, is_i32, is_i64}
use Rattle.rich_soundness_rows.proofs.Forms.{number_of, within_i32, within_i64}

-- the type of numbers of a width
abbrev pub of_width : Width → Ty
of_width W32 = unr_i32
of_width W64 = unr_i64

pub width_at : (g : Substitution) (w : Width) → at g (of_width w) ≡ of_width w
width_at g W32 = refl
width_at g W64 = refl

pub number_typed : {hs : Heaps} (w : Width) (n : ℕ) → IsWithin w n → HasType hs (Number n) (of_width w)
number_typed W32 n b = is_i32 Unr refl b
number_typed W64 n b = is_i64 Unr refl b

number_in : {hs : Heaps} {v : Val} (w : Width) → HasType hs v (of_width w) → (n : ℕ) × (v ≡ Number n) × IsWithin w n
number_in {hs = hs} W32 h = let r = number_of h refl in (r.0, r.1, within_i32 (subst (λ (v : Val). HasType hs v unr_i32) r.1 h) refl)
number_in {hs = hs} W64 h = let r = number_of h refl in (r.0, r.1, within_i64 (subst (λ (v : Val). HasType hs v unr_i64) r.1 h) refl)

-- a number on top of operands is taken
pub number_taken : (hs : Heaps) (w : Width) (vs : List Val) (ts : List Ty) (P : List Val → Type 0) → HaveTypes hs vs (of_width w ∷ ts) → ((n : ℕ) (rest : List Val) → IsWithin w n → HaveTypes hs rest ts → P (Number n ∷ rest)) → P vs
number_taken hs w [] ts P h k = elim h [ ]
number_taken hs w (v ∷ vs) ts P (more_types h hv) k = let r = number_in w h in subst (λ (x : Val). P (x ∷ vs)) (sym r.1) (k r.0 vs r.2 hv)

pub truth_within : (b : Bool) → IsWithin W32 (truth b)
truth_within true = omega arith
truth_within false = omega arith
