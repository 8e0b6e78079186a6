use Rattle.rich_text.specs.Grammars.{a_number, done, one}
use Rattle.rw_parser.proofs.Composing.{first_fails, later_fails, one_gave}
use Rattle.rw_parser.specs.Reads.{the_fields}
use Rattle.rw_numbers.specs.NumberWords.{range_of}
use Rattle.rw_type_forms.proofs.Heading.{handed_on}
use Rattle.rw_plain_forms.proofs.immediates.only_number.Goals as goal

pub returns-in_err-value-clause-reads : goal.returns-in_err-value-clause-reads
returns-in_err-value-clause-reads c = handed_on _ (the_fields (one (a_number (range_of c.args.range)) done)) _ c.from_residual.result _ c.from_residual.ensures.1 (first_fails c.in_err-value.ensures.reads)

pub returns-in_err-close-clause-reads : goal.returns-in_err-close-clause-reads
returns-in_err-close-clause-reads c = handed_on _ (the_fields (one (a_number (range_of c.args.range)) done)) _ c.from_residual-in_err-close.result _ c.from_residual-in_err-close.ensures.1 (later_fails c.in_ok-value.ensures.reads c.in_err-close.ensures)

pub returns-clause-reads : goal.returns-clause-reads
returns-clause-reads c = one_gave c.in_ok-value.ensures.reads c.in_ok-close.ensures
