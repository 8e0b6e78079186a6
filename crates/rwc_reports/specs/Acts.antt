-- What a job does to the outside, as an ordered list of acts; this project's own.
use Rattle.std.specs.Prelude.{◌≡◌, ℕ, ◌-◌, ◌<◌, ◌≤◌, List, [], ◌∷◌, ◌++◌, length, take}
use Rattle.std.specs.declared.option.Option.{Option}
use Rattle.std.specs.Io.KnownBytes.{append_known}
use Rattle.rw_io.specs.States.{Holding, ShelfState, SinkState, begun, appended}

-- a file is begun under a name, a piece is appended to it, a piece is put to standard output
pub data Act : Type 0 where
  create : (name : List ℕ) → Act
  append : (piece : List ℕ) → Act
  put : (piece : List ℕ) → Act

-- what acts change: what stands on the shelf, and the bytes of standard output, as far as they are told
pub record Outside : Type 0 where
  pub holding : Holding
  pub out : Option (List ℕ)

-- what stands on a shelf, and the bytes of a sink
abbrev pub outside_of : ShelfState → SinkState → Outside
outside_of shelf out = record { holding = shelf.holding; out = out.bytes }

-- after an act
abbrev pub after_act : Act → Outside → Outside
after_act (create name) outside = record { holding = begun name outside.holding; out = outside.out }
after_act (append piece) outside = record { holding = appended piece outside.holding; out = outside.out }
after_act (put piece) outside = record { holding = outside.holding; out = append_known outside.out piece }

-- after acts in order
abbrev pub after_acts : List Act → Outside → Outside
after_acts [] outside = outside
after_acts (act ∷ acts) outside = after_acts acts (after_act act outside)

-- What was done of an act that was not done whole, and how many bytes of its piece were left: nothing of a create,
-- the front of a piece.
abbrev pub IsPart : Act → List Act → ℕ → Type 0
IsPart (create name) part left = (part ≡ []) × (left ≡ 0)
IsPart (append piece) part left = (0 < left) × (left ≤ length piece) × (part ≡ append (take (length piece - left) piece) ∷ [])
IsPart (put piece) part left = (0 < left) × (left ≤ length piece) × (part ≡ put (take (length piece - left) piece) ∷ [])

-- the acts before one were done whole, and that one in part
pub record BreaksOff (acts done : List Act) (left : ℕ) : Type 0 where
  pub before : List Act
  pub act : Act
  pub after : List Act
  pub part : List Act
  pub split : acts ≡ before ++ (act ∷ after)
  pub is_part : IsPart act part left
  pub done_is : done ≡ before ++ part
