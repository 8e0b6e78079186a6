-- Each point that stands in a list has its locals within their slots: by induction on where it stands.
use Rattle.std.proofs.Common.{List, ◌∷◌, ℕ, subst}
use Rattle.std.proofs.Math.Path.{subst⁻¹}
use Rattle.rw_types.specs.declared.instrs.Instr.{Instr}
use Rattle.rich_types.specs.Scopes.{scope_of}
use Rattle.rich_rules.specs.Modules.{function_start}
use Rattle.rich_rules.specs.Points.{Frame, Point}
use Rattle.rich_rules_formed.specs.Formed.{IsFormedOutcome, IsFormedPoint}
use Rattle.rich_rules_formed.specs.Standing.{Stands, beyond, here, inside, later}
use Rattle.rich_rules_formed.proofs.Rows.{function_formed, row_formed}
use Rattle.lowering_locals.specs.Fitting.{LocalsFit, OutcomeFits}
use Rattle.lowering_locals.specs.Laws.{FunctionsFit, PointsFit}
use Rattle.lowering_locals.proofs.Slots.{starts_fit}
use Rattle.lowering_locals.proofs.Rows.{row_fits}

module _ (f : Frame) where
  pub stays_fitting : {p q : Point} (is : List Instr) → IsFormedPoint p → LocalsFit f.slots p → Stands f p is q → LocalsFit f.slots q
  stays_fitting is w h (here e) = subst⁻¹ (LocalsFit f.slots) e h
  stays_fitting {p} (i ∷ is) w h (later operands change e x) = stays_fitting is (subst (IsFormedOutcome p) e (row_formed f p w i)) (subst (OutcomeFits f.slots p) e (row_fits f p w h i)) x
  stays_fitting {p} (i ∷ is) w h (inside en j a e g x) = stays_fitting a ((subst (IsFormedOutcome p) e (row_formed f p w i)).0 j) ((subst (OutcomeFits f.slots p) e (row_fits f p w h i)).0 j) x
  stays_fitting {p} (i ∷ is) w h (beyond en e x) = stays_fitting is (subst (IsFormedOutcome p) e (row_formed f p w i)).1 (subst (OutcomeFits f.slots p) e (row_fits f p w h i)).1 x

pub points_fit : PointsFit
points_fit f p is q w h x = stays_fitting f is w h x

pub functions_fit : FunctionsFit
functions_fit f g q formed e x =
    stays_fitting f g.body (function_formed g formed) (subst⁻¹ (λ (slots : List ℕ). LocalsFit slots (function_start g)) e (starts_fit (scope_of g.ty.binders) g.ty.params g.locals)) x
