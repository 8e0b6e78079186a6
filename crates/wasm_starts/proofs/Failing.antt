-- The first of a list that fails a test, looked for from its front.
use Rattle.std.proofs.Common.{◌≡◌, ◌∙◌, ℕ, zero, suc, ◌+◌, ◌<◌, ◌≤◌, Bool, true, false, List, [], ◌∷◌, ◌++◌, length, map, drop, get_or, refl, sym, ap, arith}
use Rattle.std.specs.Prelude.{Some, None}
use Rattle.std.proofs.Math.Numerals.{add-one}
use Rattle.wasm_execution.specs.Starts.{first_failing}

pub drop_cons : {A : Type 0} (xs : List A) (i : ℕ) (x : A) → i < length xs → x ≡ get_or xs i x → drop i xs ≡ x ∷ drop (i + 1) xs
drop_cons {A} xs i x lt e = go xs i x lt e ∙ ap (λ (j : ℕ). x ∷ drop j xs) (sym (add-one i))
  where
    go : {A : Type 0} (xs : List A) (i : ℕ) (x : A) → i < length xs → x ≡ get_or xs i x → drop i xs ≡ x ∷ drop (suc i) xs
    go [] i x lt e = absurd (omega (arith, lt))
    go (y ∷ ys) zero x lt e = ap (λ z. z ∷ ys) (sym e)
    go (y ∷ ys) (suc i) x lt e = go ys i x (omega (arith, lt)) e

drop_past : {A : Type 0} (xs : List A) (i : ℕ) → length xs ≤ i → drop i xs ≡ []
drop_past [] zero le = refl
drop_past [] (suc i) le = refl
drop_past (x ∷ xs) zero le = absurd (omega (arith, le))
drop_past (x ∷ xs) (suc i) le = drop_past xs i (omega (arith, le))

step_true : (n : ℕ) (b : Bool) (bs : List Bool) → b ≡ true → first_failing n (b ∷ bs) ≡ first_failing (suc n) bs
step_true n true bs e = refl
step_true n false bs e = absurd (cc)

step_false : (n : ℕ) (b : Bool) (bs : List Bool) → b ≡ false → first_failing n (b ∷ bs) ≡ Some n
step_false n true bs e = absurd (cc)
step_false n false bs e = refl

module _ {A : Type 0} (test : A → Bool) (n : ℕ) (xs : List A) where
  -- those before this one pass
  abbrev pub Passed : ℕ → Type 0
  Passed i = first_failing n (map test xs) ≡ first_failing (n + i) (map test (drop i xs))

  pub none_passed : Passed 0
  none_passed = let e : n ≡ n + 0 = omega arith in ap (λ (k : ℕ). first_failing k (map test xs)) e

  pub one_passed : (i : ℕ) (x : A) → i < length xs → x ≡ get_or xs i x → test x ≡ true → Passed i → Passed (i + 1)
  one_passed i x lt e t before =
      let next : suc (n + i) ≡ n + (i + 1) = omega arith in
      before
      ∙ ap (λ (l : List A). first_failing (n + i) (map test l)) (drop_cons xs i x lt e)
      ∙ step_true (n + i) (test x) (map test (drop (i + 1) xs)) t
      ∙ ap (λ (k : ℕ). first_failing k (map test (drop (i + 1) xs))) next

  pub one_fails : (i : ℕ) (x : A) → i < length xs → x ≡ get_or xs i x → test x ≡ false → Passed i → Some (n + i) ≡ first_failing n (map test xs)
  one_fails i x lt e t before =
      sym (before
      ∙ ap (λ (l : List A). first_failing (n + i) (map test l)) (drop_cons xs i x lt e)
      ∙ step_false (n + i) (test x) (map test (drop (i + 1) xs)) t)

  pub all_passed : (i : ℕ) → length xs ≤ i → Passed i → None ≡ first_failing n (map test xs)
  all_passed i le before = sym (before ∙ ap (λ (l : List A). first_failing (n + i) (map test l)) (drop_past xs i le))

first_passes : (n : ℕ) (b : Bool) (bs : List Bool) → first_failing n (b ∷ bs) ≡ None → (b ≡ true) × (first_failing (suc n) bs ≡ None)
first_passes n true bs e = (refl, e)
first_passes n false bs e = absurd (cc)

-- one of those that pass
pub passes : {A : Type 0} (test : A → Bool) (n : ℕ) (xs : List A) (i : ℕ) (x : A) → first_failing n (map test xs) ≡ None → i < length xs → x ≡ get_or xs i x → test x ≡ true
passes test n [] i x e lt q = absurd (omega (arith, lt))
passes test n (y ∷ ys) zero x e lt q = ap test q ∙ (first_passes n (test y) (map test ys) e).0
passes test n (y ∷ ys) (suc i) x e lt q = passes test (suc n) ys i x (first_passes n (test y) (map test ys) e).1 (omega (arith, lt)) q

pub joined_first : (n i : ℕ) (as' bs : List Bool) → first_failing n as' ≡ Some i → first_failing n (as' ++ bs) ≡ Some i
joined_first n i [] bs e = absurd (cc)
joined_first n i (true ∷ as') bs e = joined_first (suc n) i as' bs e
joined_first n i (false ∷ as') bs e = e

pub joined_second : (n : ℕ) (as' bs : List Bool) → first_failing n as' ≡ None → first_failing n (as' ++ bs) ≡ first_failing (n + length as') bs
joined_second n [] bs e = let q : n ≡ n + 0 = omega arith in ap (λ (k : ℕ). first_failing k bs) q
joined_second n (true ∷ as') bs e =
    let q : suc n + length as' ≡ n + suc (length as') = omega arith in
    joined_second (suc n) as' bs e ∙ ap (λ (k : ℕ). first_failing k bs) q
joined_second n (false ∷ as') bs e = absurd (cc)
