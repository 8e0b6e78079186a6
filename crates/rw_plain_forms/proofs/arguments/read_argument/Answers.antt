use Rattle.std.proofs.Common.{refl}
use Rattle.std.specs.Prelude.{codes}
use Rattle.rich_text.specs.FirstVersion.{first_version}
use Rattle.rich_text.specs.Forms.{argument_form}
use Rattle.rich_text.specs.Grammars.{a_form}
use Rattle.rw_parser.proofs.Composing.{none_of, word_fails}
use Rattle.rw_parser.proofs.Firsts.{handed, not_word}
use Rattle.rw_parser.proofs.Starts.{headed_reads, start_fails, started_head, started_word, unknown_head}
use Rattle.rw_parser.specs.Reads.{a_part}
use Rattle.rw_plain_forms.proofs.arguments.read_argument.Goals as goal

pub returns-in_err-_word : goal.returns-in_err-_word
returns-in_err-_word c = handed (a_part (a_form argument_form)) 0 _ _ c.from_residual.result _ c.from_residual.ensures.1 (start_fails refl refl c.in_err-_word.ensures)

pub returns-in-Word : goal.returns-in-Word
returns-in-Word c = word_fails refl (started_word _ c.in-Word.is c.in_ok-_word.ensures) c.bad_form.ensures

pub returns-then-is_word : goal.returns-then-is_word
returns-then-is_word c =
    headed_reads argument_form _ _ _ _ (codes "loc") _ c.location_argument.result refl (started_head _ c.in-Head.is c.in_ok-_word.ensures) (c.is_word.ensures.0 c.if-is_word.true) c.location_argument.ensures

pub returns-then-is_word-2 : goal.returns-then-is_word-2
returns-then-is_word-2 c =
    headed_reads argument_form _ _ _ _ (codes "type") _ c.type_argument.result refl (started_head _ c.in-Head.is c.in_ok-_word.ensures) (c.is_word-else-is_word.ensures.0 c.if-is_word-2.true) c.type_argument.ensures

pub returns-else-is_word-2 : goal.returns-else-is_word-2
returns-else-is_word-2 c =
    let none = none_of _ (first_version argument_form).heads (not_word _ _ _ c.if-is_word.false c.is_word.ensures, (not_word _ _ _ c.if-is_word-2.false c.is_word-else-is_word.ensures, tt)) in
    unknown_head refl (started_head _ c.in-Head.is c.in_ok-_word.ensures) none refl c.bad_form-else-is_word-2.ensures
