use Rattle.rw_parser.proofs.Firsts.{close_gave, ended_at_close, handed, other_at_close}
use Rattle.rw_parser.proofs.parser.Parser.close.Goals as goal

pub returns-in_err-symbol : goal.returns-in_err-symbol
returns-in_err-symbol c = handed _ _ _ _ _ _ c.from_residual.ensures.1 (ended_at_close _ _ c.in_err-symbol.ensures.took)

pub returns-in-Closing : goal.returns-in-Closing
returns-in-Closing c = close_gave _ _ _ c.in_ok-symbol.ensures.took c.in-Closing.is c.in_ok-symbol.ensures.depth c.requires

pub returns-in_default : goal.returns-in_default
returns-in_default c = other_at_close _ _ _ _ c.in_ok-symbol.ensures.took c.in_default.not-Closing c.bad_form.ensures
