use Rattle.rich_reduction_calls.proofs.Steps.{turned, started, stayed}
use Rattle.rich_reduction_calls.proofs.programs_stay_beneath.Goals as goal

pub returns-clause-turns : goal.returns-clause-turns
returns-clause-turns c = turned

pub returns-clause-starts : goal.returns-clause-starts
returns-clause-starts c = started

pub returns-clause-stays : goal.returns-clause-stays
returns-clause-stays c = stayed
