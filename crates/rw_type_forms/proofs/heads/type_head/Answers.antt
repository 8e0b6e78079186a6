use Rattle.rich_text.specs.Forms.{type_form}
use Rattle.rich_text.specs.FirstVersion.{first_version}
use Rattle.rw_parser.proofs.Composing.{none_of}
use Rattle.rw_parser.proofs.Firsts.{not_word}
use Rattle.rw_type_forms.proofs.heads.type_head.Goals as goal

pub returns-else-is_word-4 : goal.returns-else-is_word-4
returns-else-is_word-4 c = none_of _ (first_version type_form).heads (not_word _ _ _ c.if-is_word.false c.is_word.ensures, (not_word _ _ _ c.if-is_word-2.false c.is_word-else-is_word.ensures, (not_word _ _ _ c.if-is_word-3.false c.is_word-else-is_word-2.ensures, (not_word _ _ _ c.if-is_word-4.false c.is_word-else-is_word-3.ensures, tt))))
