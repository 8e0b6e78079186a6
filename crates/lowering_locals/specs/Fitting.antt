-- Locals whose types fit their slots. This project's own.
use Rattle.std.specs.Prelude.{◌≡◌, ◌≤◌, ℕ, List, Some, length, slice_get, ⊤}
use Rattle.rw_types.specs.declared.types.Ty.{Ty}
use Rattle.rich_types.specs.Scopes.{Scope, scope_of}
use Rattle.rich_types.specs.Sizes.{size_under}
use Rattle.rich_rules.specs.Points.{Breaks, Ends, Enters, Gives, Outcome, Point, after, moved, start}

-- each local has a slot, and the words of its type are no more
pub record AreFitting (c : Scope) (slots : List ℕ) (locals : List Ty) : Type 0 where
  pub same_length : length locals ≡ length slots
  pub fit : (n : ℕ) (t : Ty) (k : ℕ) → slice_get locals n ≡ Some t → slice_get slots n ≡ Some k → size_under c t ≤ k

-- at a point
abbrev pub LocalsFit : List ℕ → Point → Type 0
LocalsFit slots p = AreFitting (scope_of p.binders) slots p.locals

-- what an instruction makes of a point: the point after it, and the start of each list that is entered
abbrev pub OutcomeFits : List ℕ → Point → Outcome → Type 0
OutcomeFits slots p (Gives operands change) = LocalsFit slots (moved p operands change)
OutcomeFits slots p Ends = ⊤
OutcomeFits slots p (Enters e) = ((j : ℕ) → LocalsFit slots (start e j)) × LocalsFit slots (after e p)
OutcomeFits slots p (Breaks b) = ⊤
