use Rattle.rich_typing.proofs.Rows.{types, rules, bodies}
use Rattle.rich_typing.proofs.laws.worked_rules.Goals as goal

pub returns-clause-types : goal.returns-clause-types
returns-clause-types c = types

pub returns-clause-rules : goal.returns-clause-rules
returns-clause-rules c = rules

pub returns-clause-bodies : goal.returns-clause-bodies
returns-clause-bodies c = bodies
