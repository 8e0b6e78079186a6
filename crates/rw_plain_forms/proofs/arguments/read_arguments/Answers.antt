use Rattle.std.proofs.Common.{List, subst, sym}
use Rattle.rw_types.specs.declared.types.Arg.{Arg}
use Rattle.rich_text.specs.Forms.{argument_form}
use Rattle.rich_text.specs.Grammars.{a_form, many}
use Rattle.rw_parser.proofs.Firsts.{handed}
use Rattle.rw_parser.proofs.Looping.{Going, going_fails, going_more}
use Rattle.rw_parser.specs.Reads.{the_fields}
use Rattle.rw_plain_forms.proofs.arguments.read_arguments.Goals as goal

pub returns-in_err-read_argument : goal.returns-in_err-read_argument
returns-in_err-read_argument c = handed (the_fields (many (a_form argument_form))) 1 _ _ c.from_residual.result _ c.from_residual.ensures.1 (going_fails {k = (a_form argument_form)} c.loop-arguments.invariant c.loop-arguments-test.ensures c.in_err-read_argument.ensures)

pub loop-arguments-preserved : goal.loop-arguments-preserved
loop-arguments-preserved c =
    let P : List Arg → Type 0 = λ xs. Going (a_form argument_form) c.args.parser.now c.read_argument.new.parser xs in
    subst P (sym c.in_ok-push.ensures.ok) (going_more {k = (a_form argument_form)} c.loop-arguments.invariant c.loop-arguments-test.ensures c.in_ok-read_argument.ensures)
