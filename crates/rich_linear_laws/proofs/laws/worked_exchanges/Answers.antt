use Rattle.rich_linear_laws.proofs.NoExchanges.{no_exchanges}
use Rattle.rich_linear_laws.proofs.laws.worked_exchanges.Goals as goal

pub returns : goal.returns
returns c = no_exchanges
