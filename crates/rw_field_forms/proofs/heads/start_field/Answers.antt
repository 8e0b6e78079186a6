use Rattle.rw_parser.proofs.Starts.{started_head, started_word}
use Rattle.rw_field_forms.proofs.Starting.{closes_not, field_at_start, handed_field, none_at_start, unknown_at_start, word_at_start}
use Rattle.rw_field_forms.proofs.heads.start_field.Goals as goal

pub returns-in_err-_word : goal.returns-in_err-_word
returns-in_err-_word c = handed_field _ _ c.from_residual.result _ c.from_residual.ensures.1 (none_at_start (closes_not c.args.parser.now c.closes.new.self _ c.if-closes.false c.closes.ensures) c.in_err-_word.ensures)

pub returns-in-Word : goal.returns-in-Word
returns-in-Word c = word_at_start (closes_not c.args.parser.now c.closes.new.self _ c.if-closes.false c.closes.ensures) (started_word _ c.in-Word.is c.in_ok-_word.ensures) c.bad_form.ensures

pub returns-in-Some : goal.returns-in-Some
returns-in-Some c = field_at_start _ (closes_not c.args.parser.now c.closes.new.self _ c.if-closes.false c.closes.ensures) (started_head _ c.in-Head.is c.in_ok-_word.ensures) c.in-Some.ensures

pub returns-in-None : goal.returns-in-None
returns-in-None c = unknown_at_start (closes_not c.args.parser.now c.closes.new.self _ c.if-closes.false c.closes.ensures) (started_head _ c.in-Head.is c.in_ok-_word.ensures) c.in-None.ensures c.bad_form-in-None.ensures
