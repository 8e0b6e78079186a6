use Rattle.simulation_frames.proofs.Open.{open_lists_stay}
use Rattle.simulation_frames.proofs.Words.{words_written}
use Rattle.simulation_frames.proofs.open_lists_stay.Goals as goal

pub returns-clause-stay : goal.returns-clause-stay
returns-clause-stay c = open_lists_stay

pub returns-clause-written : goal.returns-clause-written
returns-clause-written c = words_written
