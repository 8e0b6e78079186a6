use Rattle.rw_parser.proofs.Firsts.{ended_at_word, handed_word, other_at_word}
use Rattle.rw_parser.proofs.parser.Parser.word.Goals as goal

pub returns-in_err-symbol : goal.returns-in_err-symbol
returns-in_err-symbol c = handed_word _ _ _ _ c.from_residual.ensures.1 (ended_at_word _ _ c.in_err-symbol.ensures.took)

pub returns-in_default : goal.returns-in_default
returns-in_default c = other_at_word _ _ _ _ c.in_ok-symbol.ensures.took c.in_default.not-Word c.bad_form.ensures
