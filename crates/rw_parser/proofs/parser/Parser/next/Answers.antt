use Rattle.std.proofs.Common.{refl}
use Rattle.rw_parser.proofs.Ends.{end_next, took_or_ended}
use Rattle.rw_parser.proofs.parser.Parser.next.Goals as goal

pub invariant_of-self : goal.invariant_of-self
invariant_of-self c = end_next _ c.self.inside.tokens c.next.new.self c.next.result c.self.invariant c.next.ensures.gives

pub returns-clause-took : goal.returns-clause-took
returns-clause-took c = took_or_ended _ _ _ _ c.self.view_is c.self.invariant refl c.next.ensures.gives
