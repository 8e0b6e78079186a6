use Rattle.std.proofs.Common.{refl}
use Rattle.rich_text.specs.FirstVersion.{first_version}
use Rattle.rich_text.specs.Forms.{then_form}
use Rattle.rich_text.specs.Grammars.{a_form}
use Rattle.rw_parser.proofs.Composing.{none_of, word_fails}
use Rattle.rw_parser.proofs.Firsts.{not_word}
use Rattle.rw_parser.proofs.Starts.{start_fails, started_head, started_word, unknown_head}
use Rattle.rw_parser.specs.Reads.{a_part}
use Rattle.rw_type_forms.proofs.Heading.{began, handed_on}
use Rattle.rw_instruction_forms.proofs.branches.start_then.Goals as goal

pub returns-in_err-_word : goal.returns-in_err-_word
returns-in_err-_word c = handed_on _ (a_part (a_form then_form)) _ c.from_residual.result _ c.from_residual.ensures.1 (start_fails refl refl c.in_err-_word.ensures)

pub returns-in-Word : goal.returns-in-Word
returns-in-Word c = word_fails refl (started_word _ c.in-Word.is c.in_ok-_word.ensures) c.bad_form.ensures

pub returns-then-is_word : goal.returns-then-is_word
returns-then-is_word c = began _ c.in-Head.is c.in_ok-_word.ensures (c.is_word.ensures.0 c.if-is_word.true)

pub returns-else-is_word : goal.returns-else-is_word
returns-else-is_word c =
    let none = none_of _ (first_version then_form).heads (not_word _ _ _ c.if-is_word.false c.is_word.ensures, tt) in
    unknown_head refl (started_head _ c.in-Head.is c.in_ok-_word.ensures) none refl c.bad_form-else-is_word.ensures
