-- What calls took of a piece that is offered whole; this project's own.
use Rattle.std.specs.Prelude.{◌≡◌, ℕ, List, [], ◌∷◌, ◌-◌, length, take}
use Rattle.std.specs.List.{concat}
use Rattle.rw_io.specs.Pieces.{Answer, taken}
use Rattle.rw_io.specs.Whole.{Ending, OffersAll, left_of}

-- calls one after another, each of which took this piece, the front of what it was offered
abbrev pub Take : {S : Type 0} → (S → List ℕ → Answer → S → Type 0) → S → List (List ℕ) → S → Type 0
Take {S} calls before [] after = after ≡ before
Take {S} calls before (piece ∷ pieces) after =
    (offered : List ℕ) × (answer : Answer) × (next : S) × calls before offered answer next × (piece ≡ take (taken answer) offered) × Take calls next pieces after

-- the pieces that the calls took, joined in order, are the front of the piece that was offered: all of it but what is left
abbrev pub TakeTheFront : {S : Type 0} → (S → List ℕ → Answer → S → Type 0) → Type 0
TakeTheFront {S} calls = (before after : S) (piece : List ℕ) (ending : Ending) → OffersAll calls before piece ending after →
    (pieces : List (List ℕ)) × Take calls before pieces after × (concat pieces ≡ take (length piece - left_of ending) piece)
