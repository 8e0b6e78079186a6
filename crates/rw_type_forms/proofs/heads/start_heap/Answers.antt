use Rattle.std.proofs.Common.{refl}
use Rattle.rich_text.specs.Forms.{heap_form}
use Rattle.rich_text.specs.Grammars.{a_form}
use Rattle.rw_parser.specs.Reads.{a_part}
use Rattle.rw_parser.proofs.Composing.{word_fails}
use Rattle.rw_parser.proofs.Starts.{start_fails, started_head, started_word, unknown_head}
use Rattle.rw_type_forms.proofs.Heading.{began, handed_on}
use Rattle.rw_type_forms.proofs.heads.start_heap.Goals as goal

pub returns-in_err-_word : goal.returns-in_err-_word
returns-in_err-_word c = handed_on _ (a_part (a_form heap_form)) _ c.from_residual.result _ c.from_residual.ensures.1 (start_fails refl refl c.in_err-_word.ensures)

pub returns-in-Word : goal.returns-in-Word
returns-in-Word c = word_fails refl (started_word _ c.in-Word.is c.in_ok-_word.ensures) c.bad_form.ensures

pub returns-in-Some : goal.returns-in-Some
returns-in-Some c = began _ c.in-Head.is c.in_ok-_word.ensures c.in-Some.ensures

pub returns-in-None : goal.returns-in-None
returns-in-None c = unknown_head refl (started_head _ c.in-Head.is c.in_ok-_word.ensures) c.in-None.ensures refl c.bad_form-in-None.ensures
