-- A piece that is written whole, or as far as it is taken; this project's own.
use Rattle.std.specs.Prelude.{◌≡◌, ℕ, ◌<◌, List, [], length, drop, ⊤}
use Rattle.std.specs.declared.result.Result.{Result}
use Rattle.std.specs.declared.result.Result.TheVariants.{Ok, Err}
use Rattle.rw_io.specs.Pieces.{Answer, taken}
use Rattle.rw_io.specs.declared.error.PutError.TheVariants.{Failed as PutFailed, Memory as PutMemory}
use Rattle.rw_io.specs.declared.whole.Unwritten.{Unwritten}
use Rattle.rw_io.specs.declared.whole.WriteStop.{WriteStop}
use Rattle.rw_io.specs.declared.whole.WriteStop.TheVariants.{Failed, Stalled, Memory}
use Rattle.rw_io.specs.Counts.{Rose}

-- how the writing of a piece ends: whole, or stopped with so many bytes left
abbrev pub Ending : Type 0
Ending = Result (Unit {0}) Unwritten

-- how many bytes of the piece were not taken
abbrev pub left_of : {T : Type 0} → Result T Unwritten → ℕ
left_of (Ok _) = 0
left_of (Err unwritten) = unwritten.left

-- what stops the writing, by the answer of the call that took nothing
abbrev pub stop_of : Answer → WriteStop
stop_of (Ok _) = Stalled
stop_of (Err PutFailed) = Failed
stop_of (Err PutMemory) = Memory

-- a failure is told only where the count of failures rose, a stall where that of stalls did
abbrev pub HasCause : WriteStop → ℕ → ℕ → ℕ → ℕ → Type 0
HasCause Failed faults_before faults stalls_before stalls = Rose faults_before faults
HasCause Stalled faults_before faults stalls_before stalls = Rose stalls_before stalls
HasCause Memory faults_before faults stalls_before stalls = ⊤

-- How a piece is offered: all of it in one call, and after a call that took a front of it all of the rest in the next, until
-- nothing is left or a call took nothing. `calls` says how a call may go: what it is called on, the piece, the answer and
-- what it leaves. What stopped the writing is the answer of its last call, and what that call was offered is left.
pub data OffersAll {S : Type 0} (calls : S → List ℕ → Answer → S → Type 0) : S → List ℕ → Ending → S → Type 0 where
  -- nothing is left
  whole : {before after : S} {piece : List ℕ} {ending : Ending} → piece ≡ [] → ending ≡ Ok tt → after ≡ before → OffersAll calls before piece ending after
  -- a call took a front of the piece, and the rest was offered then
  turn : {before after : S} {piece : List ℕ} {ending : Ending} (count : ℕ) (next : S) → 0 < count → calls before piece (Ok count) next → OffersAll calls next (drop count piece) ending after → OffersAll calls before piece ending after
  -- a call took nothing of a piece
  stopped : {before after : S} {piece : List ℕ} {ending : Ending} (answer : Answer) → taken answer ≡ 0 → calls before piece answer after → 0 < length piece →
      ending ≡ Err (record { stop = stop_of answer; left = length piece }) → OffersAll calls before piece ending after
