use Rattle.rich_text.specs.Forms.{pretype_form}
use Rattle.rich_text.specs.FirstVersion.{first_version}
use Rattle.rw_parser.proofs.Composing.{none_of}
use Rattle.rw_parser.proofs.Firsts.{not_word}
use Rattle.rw_type_forms.proofs.heads.pretype_head.Goals as goal

pub returns-else-is_word-7 : goal.returns-else-is_word-7
returns-else-is_word-7 c = none_of _ (first_version pretype_form).heads (not_word _ _ _ c.if-is_word.false c.is_word.ensures, (not_word _ _ _ c.if-is_word-2.false c.is_word-else-is_word.ensures, (not_word _ _ _ c.if-is_word-3.false c.is_word-else-is_word-2.ensures, (not_word _ _ _ c.if-is_word-4.false c.is_word-else-is_word-3.ensures, (not_word _ _ _ c.if-is_word-5.false c.is_word-else-is_word-4.ensures, (not_word _ _ _ c.if-is_word-6.false c.is_word-else-is_word-5.ensures, (not_word _ _ _ c.if-is_word-7.false c.is_word-else-is_word-6.ensures, tt)))))))
