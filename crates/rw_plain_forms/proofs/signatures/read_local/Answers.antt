use Rattle.std.proofs.Common.{refl}
use Rattle.rich_text.specs.Forms.{local_form}
use Rattle.rich_text.specs.Grammars.{a_form}
use Rattle.rw_parser.proofs.Composing.{first_fails, later_fails, one_gave}
use Rattle.rw_parser.proofs.Firsts.{handed}
use Rattle.rw_parser.proofs.Plain.{opening_fails, plain_fails, plain_gave}
use Rattle.rw_parser.specs.Reads.{a_part}
use Rattle.rw_plain_forms.proofs.signatures.read_local.Goals as goal

pub returns-in_err-open : goal.returns-in_err-open
returns-in_err-open c = handed (a_part (a_form local_form)) 0 _ _ c.from_residual.result _ c.from_residual.ensures.1 (opening_fails (λ w. refl) c.in_err-open.ensures)

pub returns-in_err-index : goal.returns-in_err-index
returns-in_err-index c = handed (a_part (a_form local_form)) 0 _ _ c.from_residual-in_err-index.result _ c.from_residual-in_err-index.ensures.1 (plain_fails refl refl c.in_ok-open.ensures (first_fails c.in_err-index.ensures))

pub returns-in_err-ty : goal.returns-in_err-ty
returns-in_err-ty c = handed (a_part (a_form local_form)) 0 _ _ c.from_residual-in_err-ty.result _ c.from_residual-in_err-ty.ensures.1 (plain_fails refl refl c.in_ok-open.ensures (later_fails c.in_ok-index.ensures (first_fails c.in_err-ty.ensures)))

pub returns-in_err-close : goal.returns-in_err-close
returns-in_err-close c = handed (a_part (a_form local_form)) 0 _ _ c.from_residual-in_err-close.result _ c.from_residual-in_err-close.ensures.1 (plain_fails refl refl c.in_ok-open.ensures (later_fails c.in_ok-index.ensures (later_fails c.in_ok-ty.ensures c.in_err-close.ensures)))

pub returns : goal.returns
returns c = plain_gave refl refl c.in_ok-open.ensures (one_gave c.in_ok-index.ensures (one_gave c.in_ok-ty.ensures c.in_ok-close.ensures))
