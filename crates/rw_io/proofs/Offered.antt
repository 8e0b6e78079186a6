-- A piece that is offered to its end: each turn of the loop offers the rest of it, and what follows a turn follows the whole.
use Rattle.std.proofs.Common.{◌≡◌, ℕ, ◌+◌, ◌-◌, ◌<◌, ◌≤◌, List, [], ◌∷◌, take, drop, length, refl, ap, sym, subst, arith, length-drop, Ok, Err}
use Rattle.std.proofs.lemmas.List.{take_all, drop-drop}
use Rattle.rw_io.specs.Pieces.{Answer, taken}
use Rattle.rw_io.specs.Whole.{Ending, OffersAll, whole, turn, stopped, stop_of}

-- what is offered from here on completes what was offered from the start
abbrev pub Completes : {S : Type 0} → (S → List ℕ → Answer → S → Type 0) → S → List ℕ → S → ℕ → Type 0
Completes {S} calls start piece now at = (ending : Ending) (after : S) → OffersAll calls now (drop at piece) ending after → OffersAll calls start piece ending after

-- `&piece[at..]`
rest_is : (piece : List ℕ) (at : ℕ) → take (length piece - at) (drop at piece) ≡ drop at piece
rest_is piece at = take_all (length piece - at) (drop at piece) (omega (arith, length-drop at piece))

-- a turn that took bytes
pub after_turn : {S : Type 0} (calls : S → List ℕ → Answer → S → Type 0) (start now next : S) (piece : List ℕ) (at count : ℕ) → 0 < count →
    calls now (take (length piece - at) (drop at piece)) (Ok count) next → Completes calls start piece now at → Completes calls start piece next (at + count)
after_turn {S} calls start now next piece at count some goes before ending after rest =
    before ending after (turn count next some (subst (λ (p : List ℕ). calls now p (Ok count) next) (rest_is piece at) goes)
    (subst (λ (p : List ℕ). OffersAll calls next p ending after) (sym (drop-drop count at piece)) rest))

-- a turn that took nothing
pub at_stop : {S : Type 0} (calls : S → List ℕ → Answer → S → Type 0) (start now next : S) (piece : List ℕ) (at : ℕ) (answer : Answer) → at < length piece → taken answer ≡ 0 →
    calls now (take (length piece - at) (drop at piece)) answer next → Completes calls start piece now at →
    OffersAll calls start piece (Err (record { stop = stop_of answer; left = length piece - at })) next
at_stop {S} calls start now next piece at answer some none goes before =
    before (Err (record { stop = stop_of answer; left = length piece - at })) next (stopped answer none
    (subst (λ (p : List ℕ). calls now p answer next) (rest_is piece at) goes)
    (omega (arith, some, length-drop at piece))
    (ap (λ (n : ℕ). Err (record { stop = stop_of answer; left = n })) (sym (length-drop at piece))))

drop_end : (piece : List ℕ) (at : ℕ) → length piece ≤ at → drop at piece ≡ []
drop_end piece at end = no_length (drop at piece) (omega (arith, length-drop at piece, end))
  where
    no_length : (bytes : List ℕ) → length bytes ≡ 0 → bytes ≡ []
    no_length [] e = refl
    no_length (b ∷ bs) e = absurd (omega arith)

-- the piece's end
pub at_end : {S : Type 0} (calls : S → List ℕ → Answer → S → Type 0) (start now : S) (piece : List ℕ) (at : ℕ) → length piece ≤ at → Completes calls start piece now at → OffersAll calls start piece (Ok tt) now
at_end {S} calls start now piece at end before = before (Ok tt) now (whole (drop_end piece at end) refl refl)
