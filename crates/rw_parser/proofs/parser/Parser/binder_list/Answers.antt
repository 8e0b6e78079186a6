use Rattle.std.proofs.Common.{refl}
use Rattle.rich_text.specs.Forms.{binders_form}
use Rattle.rich_text.specs.Grammars.{a_form}
use Rattle.rw_parser.specs.Reads.{a_part}
use Rattle.rw_parser.proofs.Firsts.{handed}
use Rattle.rw_parser.proofs.Plain.{opening_fails, plain_fails, plain_gave}
use Rattle.rw_parser.proofs.parser.Parser.binder_list.Goals as goal

pub returns-in_err-open : goal.returns-in_err-open
returns-in_err-open c = handed (a_part (a_form binders_form)) 0 _ _ c.from_residual.result _ c.from_residual.ensures.1 (opening_fails (λ w. refl) c.in_err-open.ensures)

pub returns-in_err-binders : goal.returns-in_err-binders
returns-in_err-binders c =
    handed (a_part (a_form binders_form)) 0 _ _ c.from_residual-in_err-binders.result _ c.from_residual-in_err-binders.ensures.1 (plain_fails refl refl c.in_ok-open.ensures c.in_err-binders.ensures)

pub returns : goal.returns
returns c = plain_gave refl refl c.in_ok-open.ensures c.in_ok-binders.ensures
