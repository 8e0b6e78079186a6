use Rattle.rich_reduction.proofs.Rows.{adding-takes, drop-stops_short, dropping-takes, globals-are_set, globals-take, initialiser-stops_short, left_over-stops_short, printing-takes}
use Rattle.rich_reduction.proofs.programs_run.Goals as goal

pub returns-clause-printing : goal.returns-clause-printing
returns-clause-printing c = printing-takes

pub returns-clause-dropping : goal.returns-clause-dropping
returns-clause-dropping c = dropping-takes

pub returns-clause-adding : goal.returns-clause-adding
returns-clause-adding c = adding-takes

pub returns-clause-globals : goal.returns-clause-globals
returns-clause-globals c = globals-take

pub returns-clause-values : goal.returns-clause-values
returns-clause-values c = globals-are_set

pub returns-clause-not_there : goal.returns-clause-not_there
returns-clause-not_there c = drop-stops_short

pub returns-clause-left_over : goal.returns-clause-left_over
returns-clause-left_over c = left_over-stops_short

pub returns-clause-left_in_a_list : goal.returns-clause-left_in_a_list
returns-clause-left_in_a_list c = initialiser-stops_short
