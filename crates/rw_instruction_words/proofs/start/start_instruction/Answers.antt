use Rattle.std.proofs.Common.{refl, sym}
use Rattle.rich_text.specs.Forms.{instruction_form}
use Rattle.rich_text.specs.Grammars.{a_form}
use Rattle.rw_parser.specs.Reads.{a_part}
use Rattle.rw_parser.proofs.Composing.{word_fails, word_gave}
use Rattle.rw_parser.proofs.Starts.{start_fails, started_head, started_word, unknown_head}
use Rattle.rw_type_forms.proofs.Heading.{began, handed_on}
use Rattle.rw_instruction_words.proofs.start.start_instruction.Goals as goal

pub returns-in_err-word : goal.returns-in_err-word
returns-in_err-word c = handed_on _ (a_part (a_form instruction_form)) _ c.from_residual.result _ c.from_residual.ensures.1 (start_fails refl refl c.in_err-word.ensures)

pub returns-in-Some : goal.returns-in-Some
returns-in-Some c = word_gave (sym c.in-Some.ensures) (started_word _ c.in-Word.is c.in_ok-word.ensures)

pub returns-in-None : goal.returns-in-None
returns-in-None c = word_fails (sym c.in-None.ensures) (started_word _ c.in-Word.is c.in_ok-word.ensures) c.bad_form.ensures

pub returns-in-Some-instruction_head : goal.returns-in-Some-instruction_head
returns-in-Some-instruction_head c = began _ c.in-Head.is c.in_ok-word.ensures c.in-Some-instruction_head.ensures

pub returns-in-None-instruction_head : goal.returns-in-None-instruction_head
returns-in-None-instruction_head c = unknown_head refl (started_head _ c.in-Head.is c.in_ok-word.ensures) c.in-None-instruction_head.ensures refl c.bad_form-in-None-instruction_head.ensures
