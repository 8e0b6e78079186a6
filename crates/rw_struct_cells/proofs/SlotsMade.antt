-- Slots made one by one.
use Rattle.std.proofs.Common.{◌≡◌, ◌∙◌, ◌<◌, ◌≤◌, ◌+◌, ◌++◌, ℕ, zero, suc, List, [], ◌∷◌, Bool, true, false, Option, Some, None, refl, ap, sym, cond, length, drop, get_or, append_assoc, arith}
use Rattle.std.proofs.Math.Path.{subst⁻¹}
use Rattle.std.proofs.Math.Seq.{drop-cons}
use Rattle.std.proofs.lemmas.List.{append-nil, get_or_default}
use Rattle.rw_types.specs.declared.types.Slot.{Slot}
use Rattle.rw_types.specs.declared.types.Ty.{Ty}
use Rattle.rich_types.specs.Scopes.{Scope}
use Rattle.rich_types.specs.Instances.{raise}
use Rattle.rich_typing.specs.declared.rules.Rule.TheVariants as rule
use Rattle.rich_rules.specs.Forms.{fits}
use Rattle.rich_rules.specs.Points.{Outcome, Breaks, Broke}
use Rattle.rich_rules.specs.Raised.{one_location, raise_all}
use Rattle.rich_rules.specs.Structs.{first_larger, slots_of}
use Rattle.rich_rules.specs.Takers.{without}
use Rattle.rw_operand_stack.specs.declared.operand.Operand.{Operand}
use Rattle.rw_operand_stack.specs.Operands.{ty_of, types_of}
use Rattle.rw_row_answers.specs.declared.answers.CapError.{CapError}
use Rattle.rw_row_answers.specs.Answers.{Breaking}

pub record SlotsLeft (c : Scope) (fields : List Operand) (sizes : List ℕ) (i : ℕ) (slots : List Slot) : Type 0 where
  pub larger : first_larger c (types_of (drop i fields)) (drop i sizes) ≡ first_larger c (types_of fields) sizes
  pub made : slots ++ slots_of (raise_all one_location (types_of (drop i fields))) (drop i sizes) ≡ slots_of (raise_all one_location (types_of fields)) sizes

-- the next of what is left
pub next_here : {A : Type 0} (xs : List A) (i : ℕ) (x : A) → i < length xs → x ≡ get_or xs i x → drop i xs ≡ x ∷ drop (i + 1) xs
next_here {A} xs i x lt e = drop-cons xs i x lt ∙ ap (λ (y : A). y ∷ drop (suc i) xs) (sym e) ∙ ap (λ (k : ℕ). x ∷ drop k xs) (one_more i)
  where
    one_more : (n : ℕ) → suc n ≡ n + 1
    one_more n = omega arith

pub number_here : (xs : List ℕ) (i : ℕ) → i < length xs → drop i xs ≡ get_or xs i 0 ∷ drop (i + 1) xs
number_here xs i lt = next_here xs i (get_or xs i 0) lt (get_or_default xs i 0 (get_or xs i 0) lt)

-- none is left past the end
pub none_left : {A : Type 0} (xs : List A) (i : ℕ) → length xs ≤ i → drop i xs ≡ []
none_left [] zero le = refl
none_left [] (suc i) le = refl
none_left (x ∷ xs) zero le = absurd (omega (arith, le))
none_left (x ∷ xs) (suc i) le = none_left xs i (omega (arith, le))

-- none is made yet
pub none_made : (c : Scope) (fields : List Operand) (sizes : List ℕ) (slots : List Slot) → slots ≡ [] → SlotsLeft c fields sizes 0 slots
none_made c fields sizes slots e = record { larger = refl; made = ap (λ (l : List Slot). l ++ slots_of (raise_all one_location (types_of fields)) sizes) e }

module _ (c : Scope) (fields : List Operand) (sizes : List ℕ) (i : ℕ) (slots : List Slot) (left : SlotsLeft c fields sizes i slots) where
  module _ (o : Operand) (s : ℕ) (here : drop i fields ≡ o ∷ drop (i + 1) fields) (there : drop i sizes ≡ s ∷ drop (i + 1) sizes) where
    first_here : first_larger c (types_of fields) sizes ≡ cond (fits c s (ty_of o)) (first_larger c (types_of (drop (i + 1) fields)) (drop (i + 1) sizes)) (Some (ty_of o))
    first_here = sym left.larger ∙ ap (λ (l : List Operand). first_larger c (types_of l) (drop i sizes)) here ∙ ap (λ (l : List ℕ). first_larger c (ty_of o ∷ types_of (drop (i + 1) fields)) l) there

    made_here : slots_of (raise_all one_location (types_of fields)) sizes ≡ slots ++ record { ty = raise one_location (ty_of o); size = s } ∷ slots_of (raise_all one_location (types_of (drop (i + 1) fields))) (drop (i + 1) sizes)
    made_here = sym left.made ∙ ap (λ (l : List Operand). slots ++ slots_of (raise_all one_location (types_of l)) (drop i sizes)) here ∙ ap (λ (l : List ℕ). slots ++ slots_of (raise one_location (ty_of o) ∷ raise_all one_location (types_of (drop (i + 1) fields))) l) there

    -- the next type is too large, and is told
    pub too_large : (e : CapError) → fits c s (ty_of o) ≡ false → Breaking e (Breaks (Broke rule.SlotSize (Some (ty_of o)) None)) → (rest : Outcome) → Breaking e (without (first_larger c (types_of fields) sizes) rule.SlotSize rest)
    too_large e large told rest = subst⁻¹ (λ (x : Option Ty). Breaking e (without x rule.SlotSize rest)) (first_here ∙ ap (λ (b : Bool). cond b (first_larger c (types_of (drop (i + 1) fields)) (drop (i + 1) sizes)) (Some (ty_of o))) large) told

    -- it fits, and its slot is made
    pub one_slot : (after : List Slot) → fits c s (ty_of o) ≡ true → after ≡ slots ++ record { ty = raise one_location (ty_of o); size = s } ∷ [] → SlotsLeft c fields sizes (i + 1) after
    one_slot after small e = record {
      larger = ap (λ (b : Bool). cond b (first_larger c (types_of (drop (i + 1) fields)) (drop (i + 1) sizes)) (Some (ty_of o))) (sym small) ∙ sym first_here;
      made = ap (λ (l : List Slot). l ++ slots_of (raise_all one_location (types_of (drop (i + 1) fields))) (drop (i + 1) sizes)) e
          ∙ append_assoc slots (record { ty = raise one_location (ty_of o); size = s } ∷ []) (slots_of (raise_all one_location (types_of (drop (i + 1) fields))) (drop (i + 1) sizes))
          ∙ sym made_here;
    }

  -- none is left
  pub all_made : drop i fields ≡ [] → drop i sizes ≡ [] → (first_larger c (types_of fields) sizes ≡ None) × (slots ≡ slots_of (raise_all one_location (types_of fields)) sizes)
  all_made here there = (
    sym left.larger ∙ ap (λ (l : List Operand). first_larger c (types_of l) (drop i sizes)) here,
    sym (append-nil slots) ∙ sym (ap (λ (l : List Operand). slots ++ slots_of (raise_all one_location (types_of l)) (drop i sizes)) here) ∙ left.made,
  )
