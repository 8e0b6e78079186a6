use Rattle.rich_soundness_stores.proofs.Stores.{linear_turns, linear_grows, unrestricted_grows, unrestricted_turns}
use Rattle.rich_soundness_stores.proofs.stores_stay_typed.Goals as goal

pub returns-clause-turns : goal.returns-clause-turns
returns-clause-turns c = linear_turns

pub returns-clause-grows : goal.returns-clause-grows
returns-clause-grows c = linear_grows

pub returns-clause-grown : goal.returns-clause-grown
returns-clause-grown c = unrestricted_grows

pub returns-clause-changed : goal.returns-clause-changed
returns-clause-changed c = unrestricted_turns
