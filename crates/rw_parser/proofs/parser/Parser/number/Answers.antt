use Rattle.rich_text.specs.Grammars.{a_number}
use Rattle.rw_numbers.specs.NumberWords.{range_of}
use Rattle.rw_parser.specs.Reads.{a_part}
use Rattle.rw_parser.proofs.Firsts.{handed}
use Rattle.rw_parser.proofs.Starts.{number_none, number_out, number_wants_word}
use Rattle.rw_parser.proofs.parser.Parser.number.Goals as goal

pub returns-in_err-word-clause-reads : goal.returns-in_err-word-clause-reads
returns-in_err-word-clause-reads c = handed (a_part (a_number (range_of c.args.range))) 0 _ _ c.from_residual.result _ c.from_residual.ensures.1 (number_wants_word c.in_err-word.ensures)

pub returns-in-OutOfRange-clause-reads : goal.returns-in-OutOfRange-clause-reads
returns-in-OutOfRange-clause-reads c = number_out c.in_ok-word.ensures c.as_slice.ensures c.in-OutOfRange.ensures.value

pub returns-in-NoNumber-clause-reads : goal.returns-in-NoNumber-clause-reads
returns-in-NoNumber-clause-reads c = number_none c.in_ok-word.ensures c.as_slice.ensures c.in-NoNumber.ensures.value c.bad_form.ensures
