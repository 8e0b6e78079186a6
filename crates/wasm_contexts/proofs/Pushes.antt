-- A list to which each entry's part is put, entry by entry.
use Rattle.std.proofs.Common.{◌≡◌, ◌∙◌, ℕ, ◌+◌, ◌<◌, ◌≤◌, List, [], ◌∷◌, ◌++◌, length, take, get_or, sym, ap, append_assoc}
use Rattle.std.specs.Prelude.{flat_map, replicate}
use Rattle.std.proofs.lemmas.List.{append-nil, take_all, take_more, flat_map_more, replicate-append-replicate}

module _ {A B : Type 0} (f : A → List B) where
  pub none_put : (bs : List B) (xs : List A) → bs ≡ bs ++ flat_map f (take 0 xs)
  none_put bs xs = sym (append-nil bs)

  pub one_put : (bs acc acc' : List B) (xs : List A) (i : ℕ) (d x : A) → i < length xs → x ≡ get_or xs i d → acc ≡ bs ++ flat_map f (take i xs) → acc' ≡ acc ++ f x → acc' ≡ bs ++ flat_map f (take (i + 1) xs)
  one_put bs acc acc' xs i d x lt ex e more =
      more
      ∙ ap (λ (ys : List B). ys ++ f x) e
      ∙ flat_map_more f bs (take i xs) x
      ∙ ap (λ (ys : List A). bs ++ flat_map f ys) (ap (λ (y : A). take i xs ++ y ∷ []) ex ∙ sym (take_more xs i d lt))

  pub all_put : (bs acc : List B) (xs : List A) (i : ℕ) → length xs ≤ i → acc ≡ bs ++ flat_map f (take i xs) → acc ≡ bs ++ flat_map f xs
  all_put bs acc xs i past e = e ∙ ap (λ (ys : List A). bs ++ flat_map f ys) (take_all i xs past)

pub run_more : {A : Type 0} (bs acc acc' : List A) (n : ℕ) (a : A) → acc ≡ bs ++ replicate n a → acc' ≡ acc ++ a ∷ [] → acc' ≡ bs ++ replicate (n + 1) a
run_more bs acc acc' n a e more =
    more ∙ ap (λ (ys : List _). ys ++ a ∷ []) e ∙ append_assoc bs (replicate n a) (a ∷ []) ∙ ap (λ (ys : List _). bs ++ ys) (replicate-append-replicate n 1 a)
