use Rattle.rich_text.specs.Grammars.{done, index, one}
use Rattle.rw_parser.specs.Reads.{the_fields}
use Rattle.rw_parser.proofs.Composing.{first_fails, later_fails, one_gave}
use Rattle.rw_type_forms.proofs.Heading.{handed_on}
use Rattle.rw_type_forms.proofs.heads.only_index.Goals as goal

pub returns-in_err-value : goal.returns-in_err-value
returns-in_err-value c = handed_on _ (the_fields (one index done)) _ c.from_residual.result _ c.from_residual.ensures.1 (first_fails c.in_err-value.ensures)

pub returns-in_err-close : goal.returns-in_err-close
returns-in_err-close c = handed_on _ (the_fields (one index done)) _ c.from_residual-in_err-close.result _ c.from_residual-in_err-close.ensures.1 (later_fails c.in_ok-value.ensures c.in_err-close.ensures)

pub returns : goal.returns
returns c = one_gave c.in_ok-value.ensures c.in_ok-close.ensures
