use Rattle.rw_parser.proofs.Plain.{ended_at_opening, handed_opening, opened_by, other_at_opening}
use Rattle.rw_parser.proofs.parser.Parser.open.Goals as goal

pub returns-in_err-symbol : goal.returns-in_err-symbol
returns-in_err-symbol c = handed_opening _ _ _ _ c.from_residual.ensures.1 (ended_at_opening _ _ c.in_err-symbol.ensures.took)

pub returns-in-Opening : goal.returns-in-Opening
returns-in-Opening c = opened_by _ _ _ c.in_ok-symbol.ensures.took c.in-Opening.is c.in_ok-symbol.ensures.depth c.in_ok-symbol.ensures.within

pub returns-in_default : goal.returns-in_default
returns-in_default c = other_at_opening _ _ _ _ c.in_ok-symbol.ensures.took c.in_default.not-Opening c.bad_form.ensures
