-- The operands and the locals of a run as clauses see them. This project's own.
use Rattle.std.specs.Prelude.{◌≡◌, ℕ, ◌+◌, List, ◌++◌, length}
use Rattle.rich_reduction.specs.Configurations.{Val}

-- the operands of the innermost list, those beneath it, both with the top one first, and how many more may be put on top
-- without asking for memory
pub record OperandRow : Type 0 where
  pub own : List Val
  pub beneath : List Val
  pub room : ℕ

-- what a cut leaves: of all operands, those of an outer list, `height` with what is beneath them, and `base` beneath them
abbrev pub IsCut : ℕ → ℕ → OperandRow → OperandRow → Type 0
IsCut height base before after = (gone own beneath : List Val) → before.own ++ before.beneath ≡ gone ++ (own ++ beneath) → length beneath ≡ base → length own + base ≡ height →
    (after.own ≡ own) × (after.beneath ≡ beneath) × (after.room ≡ before.room + length gone)

-- what is left where a list is over: its operands lie on those of the list around it, of which `base` lie beneath
abbrev pub IsJoined : ℕ → OperandRow → OperandRow → Type 0
IsJoined base before after = (own beneath : List Val) → before.beneath ≡ own ++ beneath → length beneath ≡ base →
    (after.own ≡ before.own ++ own) × (after.beneath ≡ beneath) × (after.room ≡ before.room)

-- the locals of the call that runs and those of the calls that wait for it, the first one first
pub record LocalRow : Type 0 where
  pub own : List Val
  pub beneath : List Val

-- what is left where a call is over: the locals of the one that waited for it, of which `base` lie beneath
abbrev pub IsCallLeft : ℕ → LocalRow → LocalRow → Type 0
IsCallLeft base before after = (beneath own : List Val) → before.beneath ≡ beneath ++ own → length beneath ≡ base →
    (after.own ≡ own) × (after.beneath ≡ beneath)
