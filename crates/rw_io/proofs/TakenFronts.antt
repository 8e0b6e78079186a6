-- What the calls took, joined in order: each took the front of what the calls before it had left.
use Rattle.std.proofs.Common.{◌≡◌, ℕ, ◌+◌, ◌-◌, ◌<◌, ◌≤◌, ◌⊎◌, List, [], ◌∷◌, ◌++◌, take, drop, length, refl, ap, sym, ◌∙◌, arith, length-drop, Ok, inl, inr}
use Rattle.std.proofs.Math.Seq.{take-add}
use Rattle.std.proofs.lemmas.Bool.{cases_lt}
use Rattle.std.proofs.lemmas.List.{take_all}
use Rattle.rw_io.specs.Pieces.{Answer, taken}
use Rattle.rw_io.specs.Whole.{Ending, OffersAll, whole, turn, stopped, left_of}
use Rattle.rw_io.specs.Taken.{TakeTheFront}

-- no more is left than was offered
at_most : {S : Type 0} (calls : S → List ℕ → Answer → S → Type 0) (before after : S) (piece : List ℕ) (ending : Ending) → OffersAll calls before piece ending after → left_of ending ≤ length piece
at_most calls before after piece ending (whole none all same) = omega (arith, ap left_of all)
at_most calls before after piece ending (turn count next some goes rest) = omega (arith, at_most calls next after (drop count piece) ending rest, length-drop count piece)
at_most calls before after piece ending (stopped answer none goes some end) = omega (arith, ap left_of end)

none_of : (n : ℕ) (piece : List ℕ) → n ≡ 0 → take n piece ≡ []
none_of n piece e = ap (λ (k : ℕ). take k piece) e

-- a front, and then the front of the rest
joined : (count left : ℕ) (piece : List ℕ) → left ≤ length (drop count piece) → take count piece ++ take (length (drop count piece) - left) (drop count piece) ≡ take (length piece - left) piece
joined count left piece most = by_size (cases_lt (length piece) count)
  where
    by_size : (length piece < count) ⊎ (count ≤ length piece) → take count piece ++ take (length (drop count piece) - left) (drop count piece) ≡ take (length piece - left) piece
    by_size (inl past) =
        let end : length (drop count piece) - left ≡ 0 = omega (arith, past, length-drop count piece) in
        let all : length piece - left ≡ length piece + 0 = omega (arith, past, most, length-drop count piece) in
        let same : count + (length (drop count piece) - left) ≡ count = omega (arith, end) in
        sym (take-add count (length (drop count piece) - left) piece)
        ∙ take_all (count + (length (drop count piece) - left)) piece (omega (arith, past, same))
        ∙ sym (take_all (length piece - left) piece (omega (arith, all)))
    by_size (inr within) =
        let sum : count + (length (drop count piece) - left) ≡ length piece - left = omega (arith, within, most, length-drop count piece) in
        sym (take-add count (length (drop count piece) - left) piece) ∙ ap (λ (n : ℕ). take n piece) sum

-- the pieces of the calls
pub take_the_front : {S : Type 0} (calls : S → List ℕ → Answer → S → Type 0) → TakeTheFront calls
take_the_front calls before after piece ending (whole none all same) =
    ([], same, sym (ap (λ (bytes : List ℕ). take (length piece - left_of ending) bytes) none ∙ take_all (length piece - left_of ending) [] (omega arith)))
take_the_front calls before after piece ending (turn count next some goes rest) =
    let (pieces, more, are) = take_the_front calls next after (drop count piece) ending rest in (
      take count piece ∷ pieces,
      (piece, Ok count, next, goes, refl, more),
      ap (λ (bytes : List ℕ). take count piece ++ bytes) are ∙ joined count (left_of ending) piece (at_most calls next after (drop count piece) ending rest),
    )
take_the_front calls before after piece ending (stopped answer none goes some end) = (
  take (taken answer) piece ∷ [],
  (piece, answer, after, goes, refl, refl),
  ap (λ (bytes : List ℕ). bytes ++ []) (none_of (taken answer) piece none) ∙ sym (none_of (length piece - left_of ending) piece (omega (arith, ap left_of end))),
)
