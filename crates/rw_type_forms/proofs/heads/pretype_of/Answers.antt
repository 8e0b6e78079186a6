use Rattle.std.proofs.Common.{sym}
use Rattle.rich_text.specs.Forms.{pretype_form}
use Rattle.rich_text.specs.FirstVersion.{first_version}
use Rattle.rw_parser.proofs.Composing.{none_of}
use Rattle.rw_parser.proofs.Firsts.{not_word}
use Rattle.rw_type_forms.proofs.heads.pretype_of.Goals as goal

pub returns-else-is_word-3 : goal.returns-else-is_word-3
returns-else-is_word-3 c = sym (none_of _ (first_version pretype_form).words (not_word _ _ _ c.if-is_word.false c.is_word.ensures, (not_word _ _ _ c.if-is_word-2.false c.is_word-else-is_word.ensures, (not_word _ _ _ c.if-is_word-3.false c.is_word-else-is_word-2.ensures, tt))))
