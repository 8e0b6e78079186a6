use Rattle.std.proofs.Common.{List, sym, subst}
use Rattle.rw_types.specs.declared.types.Binder.{Binder}
use Rattle.rich_text.specs.Forms.{binder_form}
use Rattle.rich_text.specs.Grammars.{a_form, many}
use Rattle.rw_parser.specs.Reads.{the_fields}
use Rattle.rw_parser.proofs.Firsts.{handed}
use Rattle.rw_parser.proofs.Looping.{Going, going_fails, going_more}
use Rattle.rw_parser.proofs.parser.Parser.binders.Goals as goal

pub returns-in_err-binder : goal.returns-in_err-binder
returns-in_err-binder c =
    handed (the_fields (many (a_form binder_form))) 1 _ _ c.from_residual.result _ c.from_residual.ensures.1 (going_fails {k = a_form binder_form} c.loop-binders.invariant c.loop-binders-test.ensures c.in_err-binder.ensures)

pub loop-binders-preserved : goal.loop-binders-preserved
loop-binders-preserved c =
    let P : List Binder → Type 0 = λ bs. Going (a_form binder_form) c.args.self.now c.binder.new.self bs in
    subst P (sym c.in_ok-push.ensures.ok) (going_more {k = a_form binder_form} c.loop-binders.invariant c.loop-binders-test.ensures c.in_ok-binder.ensures)
