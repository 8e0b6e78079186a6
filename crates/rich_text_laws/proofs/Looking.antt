-- Words are found in tables where each word stands once.
use Rattle.std.proofs.Common.{◌≡◌, ◌∙◌, ℕ, Bool, true, false, List, [], ◌∷◌, refl, ap, subst, inl, inr, Option, Some}
use Rattle.std.specs.Prelude.{if◌then◌else◌, ◌==◌}
use Rattle.std.proofs.lemmas.Bool.{false≢true, eqb-true, eq-eqb, cond-true, cond-false}
use Rattle.rich_text.specs.Tokens.{same_word}
use Rattle.rich_text.specs.Grammars.{Has}
use Rattle.rich_text.specs.Reading.{look_up}

same_step : (b : Bool) (x y : ℕ) (xs ys : List ℕ) → (x == y) ≡ b → (if b then same_word xs ys else false) ≡ true → (same_word xs ys ≡ true → xs ≡ ys) → x ∷ xs ≡ y ∷ ys
same_step true x y xs ys e h again = λ i. eqb-true x y e i ∷ again h i
same_step false x y xs ys e h again = absurd (false≢true h)

pub same_sound : (xs ys : List ℕ) → same_word xs ys ≡ true → xs ≡ ys
same_sound [] [] e = refl
same_sound [] (y ∷ ys) e = absurd (false≢true e)
same_sound (x ∷ xs) [] e = absurd (false≢true e)
same_sound (x ∷ xs) (y ∷ ys) e = same_step (x == y) x y xs ys refl e (same_sound xs ys)

pub same_self : (xs : List ℕ) → same_word xs xs ≡ true
same_self [] = refl
same_self (x ∷ xs) = cond-true (x == x) _ _ (eq-eqb x x refl) ∙ same_self xs

pub some_one : {X : Type 0} (x y : X) → ◌≡◌ {A = Option X} (Some x) (Some y) → x ≡ y
some_one x y e = cc

-- a word that no entry has
abbrev pub is_absent : {X : Type 0} → List ℕ → List (List ℕ × X) → Bool
is_absent w [] = true
is_absent w (e ∷ es) = if same_word w e.0 then false else is_absent w es

-- each word stands once
abbrev pub is_distinct : {X : Type 0} → List (List ℕ × X) → Bool
is_distinct [] = true
is_distinct (e ∷ es) = if is_absent e.0 es then is_distinct es else false

look_case : {X : Type 0} (b : Bool) (e : List ℕ × X) (es : List (List ℕ × X)) (w : List ℕ) (x : X) → same_word e.0 w ≡ b → (if b then Some e.1 else look_up w es) ≡ Some x → (look_up w es ≡ Some x → Has es w x) → Has (e ∷ es) w x
look_case true e es w x s h again = inl (same_sound e.0 w s, some_one e.1 x h)
look_case false e es w x s h again = inr (again h)

pub from_look : {X : Type 0} (table : List (List ℕ × X)) (w : List ℕ) (x : X) → look_up w table ≡ Some x → Has table w x
from_look [] w x h = absurd (cc h)
from_look (e ∷ es) w x h = look_case (same_word e.0 w) e es w x refl h (from_look es w x)

pub absent_case : (b : Bool) (rest : Bool) → (if b then false else rest) ≡ true → (b ≡ false) × (rest ≡ true)
absent_case true rest e = absurd (false≢true e)
absent_case false rest e = (refl, e)

pub present_case : (b : Bool) (rest : Bool) → (if b then rest else false) ≡ true → (b ≡ true) × (rest ≡ true)
present_case true rest e = (refl, e)
present_case false rest e = absurd (false≢true e)

absent_no : {X : Type 0} (es : List (List ℕ × X)) (u w : List ℕ) (x : X) → is_absent u es ≡ true → Has es w x → same_word u w ≡ false
absent_no [] u w x a h = absurd h
absent_no (e ∷ es) u w x a (inl h) = subst (λ (v : List ℕ). same_word u v ≡ false) h.0 (absent_case (same_word u e.0) (is_absent u es) a).0
absent_no (e ∷ es) u w x a (inr h) = absent_no es u w x (absent_case (same_word u e.0) (is_absent u es) a).1 h

pub to_look : {X : Type 0} (table : List (List ℕ × X)) (w : List ℕ) (x : X) → is_distinct table ≡ true → Has table w x → look_up w table ≡ Some x
to_look [] w x d h = absurd h
to_look (e ∷ es) w x d (inl h) = cond-true (same_word e.0 w) _ _ (subst (λ (v : List ℕ). same_word e.0 v ≡ true) h.0 (same_self e.0)) ∙ ap Some h.1
to_look (e ∷ es) w x d (inr h) =
    let p = present_case (is_absent e.0 es) (is_distinct es) d in
    cond-false (same_word e.0 w) _ _ (absent_no es e.0 w x p.0 h) ∙ to_look es w x p.1 h
