use Rattle.std.proofs.Common.{refl}
use Rattle.rich_text.specs.Forms.{local_types_form}
use Rattle.rich_text.specs.Grammars.{a_form}
use Rattle.rw_parser.proofs.Firsts.{handed}
use Rattle.rw_parser.proofs.Plain.{opening_fails, plain_fails, plain_gave}
use Rattle.rw_parser.specs.Reads.{a_part}
use Rattle.rw_plain_forms.proofs.signatures.read_local_types.Goals as goal

pub returns-in_err-open : goal.returns-in_err-open
returns-in_err-open c = handed (a_part (a_form local_types_form)) 0 _ _ c.from_residual.result _ c.from_residual.ensures.1 (opening_fails (λ w. refl) c.in_err-open.ensures)

pub returns-in_err-locals : goal.returns-in_err-locals
returns-in_err-locals c = handed (a_part (a_form local_types_form)) 0 _ _ c.from_residual-in_err-locals.result _ c.from_residual-in_err-locals.ensures.1 (plain_fails refl refl c.in_ok-open.ensures c.in_err-locals.ensures)

pub returns : goal.returns
returns c = plain_gave refl refl c.in_ok-open.ensures c.in_ok-locals.ensures
