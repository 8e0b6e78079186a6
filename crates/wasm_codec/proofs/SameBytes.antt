-- Whether two byte lists are the same, as `==` of slices tells it.
use Rattle.std.proofs.Common.{◌≡◌, ◌∙◌, ◌↔◌, ℕ, List, Bool, false, IsTrue, sym, nat_eq}
use Rattle.std.proofs.lemmas.Bool.Decides.{Decides-eqb}
use Rattle.std.proofs.lemmas.Slice.Eq.{slice_eq-Decides}
use lib.Pointwise.{pointwise}

pub same_bytes : (wanted bytes canonical : List ℕ) (is : Bool) → is ≡ pointwise nat_eq canonical bytes → canonical ≡ wanted → IsTrue is ↔ bytes ≡ wanted
same_bytes wanted bytes canonical is answer e =
    let h = slice_eq-Decides Decides-eqb canonical bytes is answer in
    (λ t. sym (h.0 t) ∙ e, λ p. h.1 (e ∙ sym p))

pub never_true : {P : Type 0} → (P → ⊥) → IsTrue false ↔ P
never_true never = (λ t. absurd (cc), λ p. absurd (never p))
