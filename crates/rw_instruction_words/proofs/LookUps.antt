-- What a table of words gives, and a second table with the same words.
use Rattle.std.proofs.Common.{◌≡◌, ◌∙◌, ℕ, List, [], ◌∷◌, Some, None, map, refl, sym, ap, subst, inl, inr, arith}
use Rattle.std.specs.Prelude.{Bool, Option, IsTrue, MatchOption, option_map, ◌==◌, ◌↔◌, true, false}
use Rattle.std.proofs.lemmas.Bool.{cases_Bool, cond-true, cond-false, false≢true}
use Rattle.rich_text.specs.Tokens.{same_word}
use Rattle.rich_text.specs.Reading.{look_up}
use Rattle.rw_parser.proofs.Composing.{same_sound}

same_self : (w : List ℕ) → same_word w w ≡ true
same_self [] = refl
same_self (x ∷ xs) = cond-true (x == x) (same_word xs xs) _ (one_byte x) ∙ same_self xs
  where
    one_byte : (x : ℕ) → (x == x) ≡ true
    one_byte x = grind arith

-- what a comparison of words tells
pub told : (b : Bool) (v w : List ℕ) → IsTrue b ↔ (v ≡ w) → b ≡ same_word w v
told true v w h = sym (ap (λ x. same_word w x) (h.0 refl) ∙ same_self w)
told false v w h =
    elim (cases_Bool (same_word w v)) [
      | inl q ↦ absurd (false≢true (h.1 (sym (same_sound w v q))))
      | inr q ↦ sym q
    ]

-- a table whose values were changed
pub mapped : {X Y : Type 0} (f : X → Y) (w : List ℕ) (es : List (List ℕ × X)) → option_map f (look_up w es) ≡ look_up w (map (λ e. (e.0, f e.1)) es)
mapped f w [] = refl
mapped f w (e ∷ es) =
    elim (cases_Bool (same_word e.0 w)) [
      | inl q ↦ ap (option_map f) (cond-true (same_word e.0 w) (Some e.1) (look_up w es) q) ∙ sym (cond-true (same_word e.0 w) (Some (f e.1)) (look_up w (map (λ e. (e.0, f e.1)) es)) q)
      | inr q ↦ ap (option_map f) (cond-false (same_word e.0 w) (Some e.1) (look_up w es) q) ∙ mapped f w es ∙ sym (cond-false (same_word e.0 w) (Some (f e.1)) (look_up w (map (λ e. (e.0, f e.1)) es)) q)
    ]

first_same : (x y : List ℕ) (xs ys : List (List ℕ)) → x ∷ xs ≡ y ∷ ys → x ≡ y
first_same x y xs ys e = cc

others_same : (x y : List ℕ) (xs ys : List (List ℕ)) → x ∷ xs ≡ y ∷ ys → xs ≡ ys
others_same x y xs ys e = cc

-- a word that one table gives a value has the word of that value; where it gives none, neither does another table of the same words
pub named : {X Y : Type 0} (word_of : X → List ℕ) (w : List ℕ) (es : List (List ℕ × X)) (fs : List (List ℕ × Y)) → map (λ e. e.0) es ≡ map (λ f. f.0) fs → map (λ e. e.0) es ≡ map (λ e. word_of e.1) es
    → MatchOption (look_up w es) (look_up w fs ≡ None) (λ x. w ≡ word_of x)
named word_of w [] [] p q = refl
named word_of w [] (f ∷ fs) p q = absurd cc
named word_of w (e ∷ es) [] p q = absurd cc
named {X} {Y} word_of w (e ∷ es) (f ∷ fs) p q =
    elim (cases_Bool (same_word e.0 w)) [
      | inl t ↦
          (let P : Option X → Type 0 = λ o. MatchOption o (look_up w (f ∷ fs) ≡ None) (λ x. w ≡ word_of x) in
          subst P (sym (cond-true (same_word e.0 w) (Some e.1) (look_up w es) t)) (sym (same_sound e.0 w t) ∙ first_same _ _ _ _ q))
      | inr t ↦
          (let P : Option X → Type 0 = λ o. MatchOption o (look_up w (f ∷ fs) ≡ None) (λ x. w ≡ word_of x) in
          let Q : Option Y → Type 0 = λ o. MatchOption (look_up w es) (o ≡ None) (λ x. w ≡ word_of x) in
          let later : look_up w (f ∷ fs) ≡ look_up w fs = cond-false (same_word f.0 w) (Some f.1) (look_up w fs) (ap (λ v. same_word v w) (sym (first_same _ _ _ _ p)) ∙ t) in
          subst P (sym (cond-false (same_word e.0 w) (Some e.1) (look_up w es) t)) (subst Q (sym later) (named word_of w es fs (others_same _ _ _ _ p) (others_same _ _ _ _ q))))
    ]
