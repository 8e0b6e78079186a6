-- The row is that of the top operand.
use Rattle.std.proofs.Common.{◌∙◌, None}
use Rattle.std.proofs.Math.Path.{subst⁻¹}
use Rattle.rich_types.specs.Scopes.{scope_of}
use Rattle.rich_rules.specs.Points.{Outcome, Gives}
use Rattle.rw_row_answers.specs.Answers.{Breaking}
use Rattle.rw_operand_stack.specs.Operands.{types_of}
use Rattle.rw_struct_looks.specs.Takes.{Allows}
use Rattle.rw_call_rows.specs.Functions.{inst_top}
use Rattle.rw_call_rows.proofs.Tops.{top_taken}
use Rattle.rw_call_rows.proofs.codes.take_function.Goals as goal

pub returns-in-Ok-clause-row : goal.returns-in-Ok-clause-row
returns-in-Ok-clause-row c =
    subst⁻¹ (λ (out : Outcome). Allows c.give_one.result out (Gives (types_of c.give_one.new.s.operands) None))
    (top_taken c.args.s.now.operands c.take_top.new.s.operands c.in_ok-take_top.field-0 c.spend-top.result (inst_top (scope_of c.args.c.now.binders) c.args.args.now) c.in_ok-take_top.ensures.operands c.spend-top.ensures ∙ c.in-Ok.ensures (types_of c.take_top.new.s.operands))
    c.give_one.ensures.row

pub returns-clause-row : goal.returns-clause-row
returns-clause-row c =
    subst⁻¹ (Breaking c.in-Err.error)
    (top_taken c.args.s.now.operands c.take_top.new.s.operands c.in_ok-take_top.field-0 c.spend-top.result (inst_top (scope_of c.args.c.now.binders) c.args.args.now) c.in_ok-take_top.ensures.operands c.spend-top.ensures)
    (c.in-Err.ensures (types_of c.take_top.new.s.operands))
