-- Outcomes that break no rule, and outcomes that give operands.
use Rattle.std.proofs.Common.{◌≡◌, ℕ, List, Some}
use Rattle.std.proofs.Math.Path.{subst⁻¹}
use Rattle.rw_types.specs.declared.types.Ty.{Ty}
use Rattle.rich_types.specs.Scopes.{scope_of}
use Rattle.rich_types.specs.WellFormed.{IsWellFormed}
use Rattle.rich_rules.specs.Points.{Becomes, Breaks, Ends, Enters, Gives, OfFunction, OfGlobal, Outcome, Owner, Point}
use Rattle.rich_rules.specs.Table.{in_function}
use Rattle.rich_rules.specs.Takers.{gives}
use Rattle.rich_rules_inversions.specs.Cells.{Goes}
use Rattle.rich_rules_formed.specs.Formed.{AreFormed, IsFormedPoint, IsFormedOutcome}
use Rattle.rich_rules_formed.proofs.Lists.{joined, replaced}

module _ (p : Point) where
  -- of an outcome that breaks a rule nothing is asked
  pub settled : (o : Outcome) → (Goes o → IsFormedOutcome p o) → IsFormedOutcome p o
  settled (Gives operands change) h = h tt
  settled Ends h = tt
  settled (Enters e) h = h tt
  settled (Breaks b) h = tt

  pub in_functions : (x : Owner) (o : Outcome) → IsFormedOutcome p o → IsFormedOutcome p (in_function x o)
  in_functions OfFunction o h = h
  in_functions (OfGlobal own) o h = tt

module _ (p : Point) (w : IsFormedPoint p) where
  pub given_over : (given beneath : List Ty) → AreFormed (scope_of p.binders) given → AreFormed (scope_of p.binders) beneath → IsFormedOutcome p (gives given beneath)
  given_over given beneath g b = record { locals = w.locals; labels = w.labels; results = w.results; operands = joined (scope_of p.binders) given beneath g b }

  pub answered : (o : Outcome) (given beneath : List Ty) → o ≡ gives given beneath → AreFormed (scope_of p.binders) given → AreFormed (scope_of p.binders) beneath → IsFormedOutcome p o
  answered o given beneath e g b = subst⁻¹ (IsFormedOutcome p) e (given_over given beneath g b)

  pub local_changed : (o : Outcome) (operands : List Ty) (n : ℕ) (t : Ty) → o ≡ Gives operands (Some (Becomes n t)) → AreFormed (scope_of p.binders) operands → IsWellFormed (scope_of p.binders) t → IsFormedOutcome p o
  local_changed o operands n t e ops v = subst⁻¹ (IsFormedOutcome p) e (record { locals = replaced (scope_of p.binders) p.locals n t w.locals v; labels = w.labels; results = w.results; operands = ops })
