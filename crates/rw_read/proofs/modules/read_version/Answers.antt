use Rattle.std.proofs.Common.{refl}
use Rattle.rich_text.specs.Forms.{version_form}
use Rattle.rich_text.specs.FirstVersion.{first_version}
use Rattle.rich_text.specs.Grammars.{a_form}
use Rattle.rw_parser.specs.Reads.{a_part}
use Rattle.rw_parser.proofs.Composing.{no_word_fails, none_of, word_fails}
use Rattle.rw_parser.proofs.Firsts.{handed, not_word}
use Rattle.rw_read.proofs.modules.read_version.Goals as goal

pub returns-in_err-word : goal.returns-in_err-word
returns-in_err-word c = handed (a_part (a_form version_form)) 0 _ _ c.from_residual.result _ c.from_residual.ensures.1 (no_word_fails refl c.in_err-word.ensures)

pub returns-else-is_word : goal.returns-else-is_word
returns-else-is_word c =
    let none = none_of _ (first_version version_form).words (not_word _ _ _ c.if-is_word.false c.is_word.ensures, tt) in
    word_fails none c.in_ok-word.ensures c.bad_form.ensures
