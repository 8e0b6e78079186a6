-- The results are met, and what lies beneath is left.
use Rattle.std.proofs.Common.{◌∙◌, length, refl, reverse}
use Rattle.std.proofs.Math.Path.{subst⁻¹}
use Rattle.rich_rules.specs.Points.{Ends, Outcome, Point}
use Rattle.rw_row_answers.specs.Answers.{Breaking}
use Rattle.rw_scopes.specs.Labels.{labels_seen, point_seen}
use Rattle.rw_struct_looks.specs.Takes.{Allows}
use Rattle.rw_branch_rows.proofs.Left.{enough}
use Rattle.rw_branch_rows.proofs.Told.{return_left, return_told, returning, unr_locals}
use Rattle.rw_branch_rows.proofs.returns.look_return.Goals as goal

pub returns-in-Err : goal.returns-in-Err
returns-in-Err c =
    let p : Point = point_seen c.args.c.now.binders c.args.around.now c.args.locals.now (reverse c.args.operands.now) in
    subst⁻¹ (Breaking c.in-Err.error) (return_told c.args.c.now.binders c.args.around.now c.args.locals.now c.args.operands.now c.in_ok-results.results c.as_slice-carried.result.now c.in_ok-results.ensures c.as_slice-carried.ensures.items (length (labels_seen c.args.around.now)) refl) (c.in-Err.ensures (returning p (length (labels_seen c.args.around.now))))

pub slice_bounds-beneath-count : goal.slice_bounds-beneath-count
slice_bounds-beneath-count c = enough c.as_slice-carried.result.now c.args.operands.now c.in_default.ensures

pub returns-in-Err-look_crossed : goal.returns-in-Err-look_crossed
returns-in-Err-look_crossed c =
    let p : Point = point_seen c.args.c.now.binders c.args.around.now c.args.locals.now (reverse c.args.operands.now) in
    subst⁻¹ (Breaking c.in-Err-look_crossed.error) (return_left c.args.c.now.binders c.args.around.now c.args.locals.now c.args.operands.now c.in_ok-results.results c.as_slice-carried.result.now c.in_ok-results.ensures c.as_slice-carried.ensures.items c.in_ok-label_count.field-0 c.in_ok-label_count.ensures c.in_default.ensures _ refl) (c.in-Err-look_crossed.ensures (unr_locals p))

pub returns : goal.returns
returns c =
    let p : Point = point_seen c.args.c.now.binders c.args.around.now c.args.locals.now (reverse c.args.operands.now) in
    subst⁻¹ (λ (out : Outcome). Allows c.look_unr.result out Ends) (return_left c.args.c.now.binders c.args.around.now c.args.locals.now c.args.operands.now c.in_ok-results.results c.as_slice-carried.result.now c.in_ok-results.ensures c.as_slice-carried.ensures.items c.in_ok-label_count.field-0 c.in_ok-label_count.ensures c.in_default.ensures _ refl ∙ c.in_default-look_crossed.ensures (unr_locals p)) (c.look_unr.ensures Ends)
