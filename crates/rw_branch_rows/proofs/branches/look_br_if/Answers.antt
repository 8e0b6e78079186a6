-- What the label demands stands under a number, and what lies beneath is left.
use Rattle.std.proofs.Common.{◌≤◌, ◌+◌, ◌∙◌, arith, length, refl, reverse, sym}
use Rattle.std.proofs.Math.Path.{subst⁻¹}
use Rattle.rich_rules.specs.Points.{Point}
use Rattle.rw_row_answers.specs.Answers.{Breaking}
use Rattle.rw_scopes.specs.Labels.{point_seen}
use Rattle.rw_branch_rows.proofs.Left.{enough_over}
use Rattle.rw_branch_rows.proofs.Told.{br_if_allowed, br_if_told, leaving_if}
use Rattle.rw_branch_rows.proofs.branches.look_br_if.Goals as goal

pub returns-in-Err : goal.returns-in-Err
returns-in-Err c =
    let p : Point = point_seen c.args.c.now.binders c.args.around.now c.args.locals.now (reverse c.args.operands.now) in
    subst⁻¹ (Breaking c.in-Err.error) (br_if_told p c.args.k c.in-Some.target (sym c.in-Some.is ∙ c.in_ok-target.ensures) c.as_slice-carried.result.now _ c.as_slice-carried.ensures.items refl) (c.in-Err.ensures (leaving_if p c.args.k c.in-Some.target.locals c.as_slice-carried.result.now))

pub returns-in-Err-look_number : goal.returns-in-Err-look_number
returns-in-Err-look_number c =
    let p : Point = point_seen c.args.c.now.binders c.args.around.now c.args.locals.now (reverse c.args.operands.now) in
    subst⁻¹ (Breaking c.in-Err-look_number.error) (br_if_told p c.args.k c.in-Some.target (sym c.in-Some.is ∙ c.in_ok-target.ensures) c.as_slice-carried.result.now _ c.as_slice-carried.ensures.items refl ∙ c.in-Ok.ensures (leaving_if p c.args.k c.in-Some.target.locals c.as_slice-carried.result.now)) (c.in-Err-look_number.ensures _)

pub overflow_sub-beneath : goal.overflow_sub-beneath
overflow_sub-beneath c =
    let some : length c.as_slice-carried.result.now + 1 ≤ length c.args.operands.now = enough_over c.as_slice-carried.result.now c.args.operands.now c.in-Ok.top.now c.in-Ok.ensures in
    omega arith

pub slice_bounds-beneath-count : goal.slice_bounds-beneath-count
slice_bounds-beneath-count c =
    let some : length c.as_slice-carried.result.now + 1 ≤ length c.args.operands.now = enough_over c.as_slice-carried.result.now c.args.operands.now c.in-Ok.top.now c.in-Ok.ensures in
    omega arith

pub returns : goal.returns
returns c = br_if_allowed c.args.c.now.binders c.args.around.now c.args.locals.now c.args.operands.now c.args.k c.in-Some.target (sym c.in-Some.is ∙ c.in_ok-target.ensures) c.as_slice-carried.result.now c.as_slice.result.now c.as_slice-carried.ensures.items c.as_slice.ensures.items c.look_crossing.result _ c.look_crossing.ensures c.in-Ok.top.now c.in-Ok.ensures c.in_default-look_number.ensures refl
