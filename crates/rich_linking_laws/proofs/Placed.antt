-- Where the items of a part of a list stand in the whole.
use Rattle.std.proofs.Common.{◌≡◌, ◌∙◌, ℕ, zero, suc, ◌+◌, List, [], ◌∷◌, ◌++◌, Some, refl, ap, sym, length, map, arith}
use Rattle.std.specs.Prelude.{slice_get, unwrap_or}
use Rattle.rich_linking.specs.Linked.{counting}

-- the items of xs stand in all of it from this number on
abbrev pub Placed : {A : Type 0} → List A → List A → ℕ → Type 0
Placed {A} all xs base = (j : ℕ) (x : A) → slice_get xs j ≡ Some x → slice_get all (base + j) ≡ Some x

at_zero : (b n : ℕ) → n ≡ b + 0 → n ≡ b
at_zero b n e = omega arith

pub placed_head : {A : Type 0} (all : List A) (x : A) (xs : List A) (b : ℕ) → Placed all (x ∷ xs) b → slice_get all b ≡ Some x
placed_head all x xs b h = ap (slice_get all) (sym (at_zero b (b + 0) refl)) ∙ h 0 x refl

next_number : (b j : ℕ) → suc b + j ≡ b + suc j
next_number b j = omega arith

pub placed_tail : {A : Type 0} (all : List A) (x : A) (xs : List A) (b : ℕ) → Placed all (x ∷ xs) b → Placed all xs (suc b)
placed_tail all x xs b h = λ j y e. ap (slice_get all) (next_number b j) ∙ h (suc j) y e

found_left : {A : Type 0} (xs ys : List A) (j : ℕ) (x : A) → slice_get xs j ≡ Some x → slice_get (xs ++ ys) j ≡ Some x
found_left [] ys j x e = cc
found_left (y ∷ xs) ys zero x e = e
found_left (y ∷ xs) ys (suc j) x e = found_left xs ys j x e

found_right : {A : Type 0} (xs ys : List A) (n j : ℕ) → n ≡ length xs + j → slice_get (xs ++ ys) n ≡ slice_get ys j
found_right [] ys n j e = let same : n ≡ j = omega (arith, e) in ap (slice_get ys) same
found_right (x ∷ xs) ys zero j e = absurd (omega (arith, e))
found_right (x ∷ xs) ys (suc n) j e = let less : n ≡ length xs + j = omega (arith, e) in found_right xs ys n j less

from_zero : (j : ℕ) → 0 + j ≡ j
from_zero j = omega arith

pub placed_here : {A : Type 0} (xs ys : List A) → Placed (xs ++ ys) xs 0
placed_here xs ys = λ j x e. ap (slice_get (xs ++ ys)) (from_zero j) ∙ found_left xs ys j x e

further : (l b j : ℕ) → (l + b) + j ≡ l + (b + j)
further l b j = omega arith

pub placed_behind : {A : Type 0} (xs ys zs : List A) (b l : ℕ) → l ≡ length xs → Placed ys zs b → Placed (xs ++ ys) zs (l + b)
placed_behind xs ys zs b l e h = λ j x f. found_right xs ys ((l + b) + j) (b + j) (further l b j ∙ ap (λ (n : ℕ). n + (b + j)) e) ∙ h j x f

pub mapped : {A B : Type 0} (f : A → B) (xs : List A) (j : ℕ) (x : A) → slice_get xs j ≡ Some x → slice_get (map f xs) j ≡ Some (f x)
mapped f [] j x e = cc
mapped f (y ∷ xs) zero x e = cc
mapped f (y ∷ xs) (suc j) x e = mapped f xs j x e

-- items that are counted from the place of the first
pub counted : {A B : Type 0} (all : List B) (f : A → B) (xs : List A) (base : ℕ) → Placed all (map f xs) base → (j : ℕ) (x : B) (d : ℕ) → slice_get (map f xs) j ≡ Some x → slice_get all (unwrap_or (slice_get (counting (length xs) base) j) d) ≡ Some x
counted all f [] base h j x d e = cc
counted all f (y ∷ xs) base h zero x d e = placed_head all (f y) (map f xs) base h ∙ e
counted all f (y ∷ xs) base h (suc j) x d e = counted all f xs (suc base) (placed_tail all (f y) (map f xs) base h) j x d e
