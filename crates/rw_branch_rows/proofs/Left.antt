-- The operands that lie beneath those that are demanded.
use Rattle.std.proofs.Common.{◌≡◌, ◌≤◌, ◌∙◌, ◌++◌, ◌+◌, ◌-◌, ℕ, zero, suc, List, [], ◌∷◌, refl, ap, sym, length, take, drop, reverse, arith}
use Rattle.std.proofs.Math.Seq.{drop-append_seam}
use Rattle.std.proofs.lemmas.List.{reverse-append, length-append, length-reverse, take-append-drop, length-drop}
use Rattle.rw_types.specs.declared.types.Ty.{Ty}
use Rattle.rich_rules.specs.Points.{Outcome, Ends}
use Rattle.rich_rules.specs.Takers.{these, one_over}
use Rattle.rich_rules_inversions.proofs.MoreTakers.{these-passed, one_over-passed}
use Rattle.rw_operand_stack.specs.declared.operand.Operand.{Operand}
use Rattle.rw_operand_stack.specs.Operands.{types_of}
use Rattle.rw_demands.proofs.Tails.{types_length, types_drop}

module _ {A : Type 0} (all : List A) (n : ℕ) (enough : n ≤ length all) where
  count : length (reverse (drop (length all - n) all)) ≡ n
  count = length-reverse (drop (length all - n) all) ∙ length-drop (length all - n) all ∙ back (length all) n enough
    where
      back : (k m : ℕ) → m ≤ k → k - (k - m) ≡ m
      back k m le = omega arith

  parts : reverse all ≡ reverse (drop (length all - n) all) ++ reverse (take (length all - n) all)
  parts = ap reverse (sym (take-append-drop (length all - n) all)) ∙ reverse-append (take (length all - n) all) (drop (length all - n) all)

  -- what is left of a list the other way round are the first ones
  left : drop n (reverse all) ≡ reverse (take (length all - n) all)
  left =
      ap (drop n) parts
      ∙ ap (λ (k : ℕ). drop k (reverse (drop (length all - n) all) ++ reverse (take (length all - n) all))) (sym count)
      ∙ drop-append_seam (reverse (drop (length all - n) all)) (reverse (take (length all - n) all))

pub types_left : (all : List Operand) (n : ℕ) → n ≤ length all → drop n (types_of (reverse all)) ≡ types_of (reverse (take (length all - n) all))
types_left all n enough = types_drop n (reverse all) ∙ ap types_of (left all n enough)

module _ (demanded : List Ty) (all : List Operand) where
  held : length (types_of (reverse all)) ≡ length all
  held = types_length (reverse all) ∙ length-reverse all

  -- where the demand is met, there are as many
  pub enough : ((rest : List Ty → Outcome) → these (reverse demanded) (types_of (reverse all)) rest ≡ rest (drop (length demanded) (types_of (reverse all)))) → length demanded ≤ length all
  enough told =
      let passed = these-passed Ends tt (reverse demanded) (types_of (reverse all)) (λ beneath. Ends) (told (λ beneath. Ends)) in
      let many : length (types_of (reverse all)) ≡ length (reverse demanded) + length passed.0 = ap length passed.1 ∙ length-append (reverse demanded) passed.0 in
      let asked : length (reverse demanded) ≡ length demanded = length-reverse demanded in
      let stand : length (types_of (reverse all)) ≡ length all = held in
      omega arith

  module _ (t : Ty) (told : (rest : Ty → List Ty → Outcome) → one_over (reverse demanded) (types_of (reverse all)) rest ≡ rest t (drop (length demanded + 1) (types_of (reverse all)))) where
    passed : (u : Ty) × (beneath : List Ty) × (types_of (reverse all) ≡ u ∷ (reverse demanded ++ beneath)) × (Ends ≡ Ends)
    passed = one_over-passed Ends tt (reverse demanded) (types_of (reverse all)) (λ u beneath. Ends) (told (λ u beneath. Ends))

    pub enough_over : length demanded + 1 ≤ length all
    enough_over =
        let many : length (types_of (reverse all)) ≡ length (passed.0 ∷ (reverse demanded ++ passed.1)) = ap length passed.2 in
        let more : length (reverse demanded ++ passed.1) ≡ length (reverse demanded) + length passed.1 = length-append (reverse demanded) passed.1 in
        let asked : length (reverse demanded) ≡ length demanded = length-reverse demanded in
        let stand : length (types_of (reverse all)) ≡ length all = held in
        omega arith

    -- what is demanded stays under the top one
    pub stays : reverse demanded ++ drop (length demanded + 1) (types_of (reverse all)) ≡ types_of (drop 1 (reverse all))
    stays =
        let under : List Ty = reverse demanded ++ passed.1 in
        ap (λ (k : ℕ). reverse demanded ++ drop k (types_of (reverse all))) (one_more (length demanded))
        ∙ ap (λ (ts : List Ty). reverse demanded ++ drop (suc (length demanded)) ts) passed.2
        ∙ ap (λ (k : ℕ). reverse demanded ++ drop k under) (sym (length-reverse demanded))
        ∙ ap (λ (ts : List Ty). reverse demanded ++ ts) (drop-append_seam (reverse demanded) passed.1)
        ∙ ap (λ (ts : List Ty). drop 1 ts) (sym passed.2)
        ∙ types_drop 1 (reverse all)
      where
        one_more : (k : ℕ) → k + 1 ≡ suc k
        one_more k = omega arith

-- all of them are taken off
none_left : {A : Type 0} (xs : List A) (n : ℕ) → length xs ≤ n → drop n xs ≡ []
none_left [] zero few = refl
none_left [] (suc n) few = refl
none_left (x ∷ xs) zero few = absurd (omega arith)
none_left (x ∷ xs) (suc n) few = none_left xs n (omega arith)

pub all_spent : (slice held left : List Operand) → left ≡ drop (length slice) held → reverse slice ≡ held → left ≡ []
all_spent slice held left takes is =
    let many : length held ≡ length slice = ap length (sym is) ∙ length-reverse slice in
    takes ∙ none_left held (length slice) (omega arith)
