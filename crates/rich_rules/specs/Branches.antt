-- Rows that leave lists: what they skip is `unr`, and the locals are those that are demanded there. This project's own.
use Rattle.std.specs.Prelude.{ℕ, zero, suc, List, [], ◌∷◌, Option, None, length, slice_get}
use Rattle.rw_types.specs.declared.types.Ty.{Ty}
use Rattle.rich_types.specs.Scopes.{Scope, scope_of}
use Rattle.rich_typing.specs.declared.rules.Rule.TheVariants as rule
use Rattle.rich_rules.specs.Points.{Label, Point, Outcome, Ends}
use Rattle.rich_rules.specs.Takers.{unr_i32, with_some, without, without_difference, or_else, first_difference, first_held, last_held, these, one_over, of_type, gives}

-- the deepest operand that is not `unr` in the rest of the innermost of so many labels that has one
abbrev pub held_beneath : Scope → ℕ → List Label → Option Ty
held_beneath c zero labels = None
held_beneath c (suc k) [] = None
held_beneath c (suc k) (l ∷ ls) = or_else (last_held c l.rest) (held_beneath c k ls)

-- the deepest operand that is not `unr` in the innermost list that has one, among those that lie beneath what a branch
-- carries, in the current list and in the rests of so many labels
abbrev pub crossed : Point → ℕ → List Ty → Option Ty
crossed p k beneath = or_else (last_held (scope_of p.binders) beneath) (held_beneath (scope_of p.binders) k p.labels)

-- a branch out of so many labels, with the locals of the next one
abbrev pub crossing : Point → ℕ → Label → List Ty → Outcome → Outcome
crossing p k l beneath rest = without (crossed p k beneath) rule.Crossed (without_difference (first_difference p.locals l.locals) rule.LocalsDiffer rest)

-- `br` to the label with this number
abbrev pub br_row : Point → ℕ → Outcome
br_row p k = with_some (slice_get p.labels k) rule.Index None (λ l. these l.types p.operands (λ beneath. crossing p k l beneath Ends))

-- `br_if`
abbrev pub br_if_row : Point → ℕ → Outcome
br_if_row p k = with_some (slice_get p.labels k) rule.Index None (λ l. one_over l.types p.operands (λ t beneath. of_type unr_i32 t (crossing p k l beneath (gives l.types beneath))))

-- `return` leaves all labels, and each local is `unr`
abbrev pub return_row : Point → Outcome
return_row p = these p.results p.operands (λ beneath. without (crossed p (length p.labels) beneath) rule.Crossed (without (first_held (scope_of p.binders) p.locals) rule.LocalsDiffer Ends))
