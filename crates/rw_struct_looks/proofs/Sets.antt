-- A list with another entry: what stands before it, the entry, and what stands behind it.
use Rattle.std.proofs.Common.{◌≡◌, ◌∙◌, ◌<◌, ◌≤◌, ◌+◌, arith, ◌++◌, ℕ, List, [], ◌∷◌, append_assoc, length, take, drop, ap, sym}
use Rattle.std.specs.Prelude.{slice_set}
use Rattle.std.proofs.lemmas.List.{take-append-drop, take-set, drop-set, take_all, length-drop}
use Rattle.rw_types.specs.declared.types.Slot.{Slot}

set_split : (xs : List Slot) (i : ℕ) (y : Slot) → i < length xs → take i xs ++ y ∷ drop (i + 1) xs ≡ slice_set xs i y
set_split xs i y lt = ap (λ (l : List Slot). l ++ y ∷ drop (i + 1) xs) (sym (take-set xs i y)) ∙ ap (λ (l : List Slot). take i (slice_set xs i y) ++ l) (sym (drop-set xs i y lt)) ∙ take-append-drop i (slice_set xs i y)

-- and put together in three steps
pub set_made : (xs : List Slot) (i n : ℕ) (y : Slot) (front with_entry whole : List Slot) → i < length xs → length xs ≤ n + (i + 1) → front ≡ take i xs → with_entry ≡ front ++ y ∷ [] → whole ≡ with_entry ++ take n (drop (i + 1) xs) → whole ≡ slice_set xs i y
set_made xs i n y front with_entry whole lt all a b c =
    let rest : take n (drop (i + 1) xs) ≡ drop (i + 1) xs = take_all n (drop (i + 1) xs) (rw (length-drop (i + 1) xs) (omega (arith, all))) in
    c ∙ ap (λ (l : List Slot). with_entry ++ l) rest ∙ ap (λ (l : List Slot). l ++ drop (i + 1) xs) (b ∙ ap (λ (l : List Slot). l ++ y ∷ []) a) ∙ append_assoc (take i xs) (y ∷ []) (drop (i + 1) xs) ∙ set_split xs i y lt
