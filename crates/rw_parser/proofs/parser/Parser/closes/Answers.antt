use Rattle.rw_parser.proofs.Ends.{end_closes}
use Rattle.rw_parser.proofs.parser.Parser.closes.Goals as goal

pub invariant_of-self : goal.invariant_of-self
invariant_of-self c = end_closes _ c.self.inside.tokens c.closes.new.self c.closes.result c.self.invariant c.closes.ensures.closes
