-- Lists of places, and the rights in one of them.
use Rattle.std.proofs.Common.{◌≡◌, ℕ, zero, suc, ◌≤◌, ◌≢◌, List, [], ◌∷◌, ◌++◌, length, Option, Some, refl, ap, arith}
use Rattle.std.specs.Prelude.{slice_get, slice_set}
use Rattle.rich_reduction.specs.Configurations.{Cell}
use Rattle.rich_rights.specs.Rights.{Counter, count_place, count_content, count_places, count_cells}

module _ {A : Type 0} where
  pub get-set : (xs : List A) (k : ℕ) (old x : A) → slice_get xs k ≡ Some old → slice_get (slice_set xs k x) k ≡ Some x
  get-set [] k old x e = cc
  get-set (y ∷ xs) zero old x e = refl
  get-set (y ∷ xs) (suc k) old x e = get-set xs k old x e

  pub get-set_other : (xs : List A) (k n : ℕ) (x : A) → n ≢ k → slice_get (slice_set xs k x) n ≡ slice_get xs n
  get-set_other [] k n x ne = refl
  get-set_other (y ∷ xs) zero zero x ne = absurd (ne refl)
  get-set_other (y ∷ xs) zero (suc n) x ne = refl
  get-set_other (y ∷ xs) (suc k) zero x ne = refl
  get-set_other (y ∷ xs) (suc k) (suc n) x ne = get-set_other xs k n x (λ e. ne (ap suc e))

  pub get-more : (xs : List A) (x : A) → slice_get (xs ++ x ∷ []) (length xs) ≡ Some x
  get-more [] x = refl
  get-more (y ∷ xs) x = get-more xs x

  pub get-more_other : (xs : List A) (n : ℕ) (x : A) → n ≢ length xs → slice_get (xs ++ x ∷ []) n ≡ slice_get xs n
  get-more_other [] zero x ne = absurd (ne refl)
  get-more_other [] (suc n) x ne = refl
  get-more_other (y ∷ xs) zero x ne = refl
  get-more_other (y ∷ xs) (suc n) x ne = get-more_other xs n x (λ e. ne (ap suc e))

  pub get-front : (xs ys : List A) (n : ℕ) (x : A) → slice_get xs n ≡ Some x → slice_get (xs ++ ys) n ≡ Some x
  get-front [] ys n x e = cc
  get-front (y ∷ xs) ys zero x e = e
  get-front (y ∷ xs) ys (suc n) x e = get-front xs ys n x e

  pub length_set : (xs : List A) (n : ℕ) (x : A) → length (slice_set xs n x) ≡ length xs
  length_set [] n x = refl
  length_set (y ∷ xs) zero x = refl
  length_set (y ∷ xs) (suc n) x = ap suc (length_set xs n x)

pub place_part : (c : Counter) (os : List (Option Cell)) (k : ℕ) (o : Option Cell) → slice_get os k ≡ Some o → count_place c o ≤ count_places c os
place_part c [] k o e = cc
place_part c (w ∷ os) zero o e = let s : w ≡ o = cc in omega (arith, ap (count_place c) s)
place_part c (w ∷ os) (suc k) o e = omega (arith, place_part c os k o e)

pub cell_part : (c : Counter) (cells : List Cell) (k : ℕ) (cell : Cell) → slice_get cells k ≡ Some cell → count_content c cell.content ≤ count_cells c cells
cell_part c [] k cell e = cc
cell_part c (w ∷ cells) zero cell e = let s : w ≡ cell = cc in omega (arith, ap (λ (x : Cell). count_content c x.content) s)
cell_part c (w ∷ cells) (suc k) cell e = omega (arith, cell_part c cells k cell e)
