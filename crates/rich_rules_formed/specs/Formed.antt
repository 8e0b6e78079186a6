-- Points, outcomes and notes whose types are all well formed under the binders that stand around them. This project's own.
use Rattle.std.specs.Prelude.{◌≡◌, ℕ, List, [], ◌∷◌, Some, ⊤}
use Rattle.rw_types.specs.declared.types.Qual.TheVariants.{Lin}
use Rattle.rw_types.specs.declared.types.Ty.{Ty}
use Rattle.rich_types.specs.Scopes.{Scope, scope_of}
use Rattle.rich_types.specs.WellFormed.{IsWellFormed, AreParts}
use Rattle.rich_typing.specs.declared.notes.Note.{Note}
use Rattle.rich_rules.specs.Points.{Label, Point, Outcome, Gives, Ends, Enters, Breaks, moved, start, after}

-- well-formed types, of any qualifier
abbrev pub AreFormed : Scope → List Ty → Type 0
AreFormed c ts = AreParts c Lin ts

-- a label: what a branch to it carries, the locals there, and what lies beneath its block
pub record IsFormedLabel (c : Scope) (l : Label) : Type 0 where
  pub types : AreFormed c l.types
  pub locals : AreFormed c l.locals
  pub rest : AreFormed c l.rest

-- labels
abbrev pub AreFormedLabels : Scope → List Label → Type 0
AreFormedLabels c [] = ⊤
AreFormedLabels c (l ∷ ls) = IsFormedLabel c l × AreFormedLabels c ls

-- a point, under its binders
pub record IsFormedPoint (p : Point) : Type 0 where
  pub locals : AreFormed (scope_of p.binders) p.locals
  pub labels : AreFormedLabels (scope_of p.binders) p.labels
  pub results : AreFormed (scope_of p.binders) p.results
  pub operands : AreFormed (scope_of p.binders) p.operands

-- what an instruction makes of a point: the point after it, and the start of each list that is entered
abbrev pub IsFormedOutcome : Point → Outcome → Type 0
IsFormedOutcome p (Gives operands change) = IsFormedPoint (moved p operands change)
IsFormedOutcome p Ends = ⊤
IsFormedOutcome p (Enters e) = ((j : ℕ) → IsFormedPoint (start e j)) × IsFormedPoint (after e p)
IsFormedOutcome p (Breaks b) = ⊤

-- a note, under its binders
pub record IsFormedNote (n : Note) : Type 0 where
  pub taken : AreFormed (scope_of n.binders) n.taken
  pub local : (t : Ty) → n.local ≡ Some t → IsWellFormed (scope_of n.binders) t
