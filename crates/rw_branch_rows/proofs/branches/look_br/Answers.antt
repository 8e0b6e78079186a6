-- What the label demands is met, and what lies beneath is left.
use Rattle.std.proofs.Common.{◌∙◌, refl, reverse, sym}
use Rattle.std.proofs.Math.Path.{subst⁻¹}
use Rattle.rich_rules.specs.Points.{Ends, Point}
use Rattle.rw_row_answers.specs.Answers.{Breaking}
use Rattle.rw_scopes.specs.Labels.{point_seen}
use Rattle.rw_branch_rows.proofs.Left.{enough}
use Rattle.rw_branch_rows.proofs.Told.{br_allowed, br_told, leaving}
use Rattle.rw_branch_rows.proofs.branches.look_br.Goals as goal

pub returns-in-Err : goal.returns-in-Err
returns-in-Err c =
    let p : Point = point_seen c.args.c.now.binders c.args.around.now c.args.locals.now (reverse c.args.operands.now) in
    subst⁻¹ (Breaking c.in-Err.error) (br_told p c.args.k c.in-Some.target (sym c.in-Some.is ∙ c.in_ok-target.ensures) c.as_slice-carried.result.now _ c.as_slice-carried.ensures.items refl) (c.in-Err.ensures (leaving p c.args.k c.in-Some.target.locals Ends))

pub slice_bounds-beneath-count : goal.slice_bounds-beneath-count
slice_bounds-beneath-count c = enough c.as_slice-carried.result.now c.args.operands.now c.in_default-look_these.ensures

pub returns : goal.returns
returns c = br_allowed c.args.c.now.binders c.args.around.now c.args.locals.now c.args.operands.now c.args.k c.in-Some.target (sym c.in-Some.is ∙ c.in_ok-target.ensures) c.as_slice-carried.result.now c.as_slice.result.now c.as_slice-carried.ensures.items c.as_slice.ensures.items c.look_crossing.result _ c.look_crossing.ensures c.in_default-look_these.ensures refl
