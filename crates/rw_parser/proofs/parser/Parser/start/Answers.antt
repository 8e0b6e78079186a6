use Rattle.rw_parser.proofs.Starts.{ended_at_start, handed_start, head_started, other_at_start}
use Rattle.rw_parser.proofs.parser.Parser.start.Goals as goal

pub returns-in_err-symbol : goal.returns-in_err-symbol
returns-in_err-symbol c = handed_start _ _ _ _ c.from_residual.ensures.1 (ended_at_start _ _ c.in_err-symbol.ensures.took)

pub returns-in-Opening : goal.returns-in-Opening
returns-in-Opening c = head_started _ _ _ _ _ c.in_ok-symbol.ensures.took c.in-Opening.is c.in_ok-symbol.ensures.depth c.in_ok-symbol.ensures.within c.head.ensures

pub returns-in_default : goal.returns-in_default
returns-in_default c = other_at_start _ _ _ _ c.in_ok-symbol.ensures.took c.in_default.not-Opening c.in_default.not-Word c.bad_form.ensures
