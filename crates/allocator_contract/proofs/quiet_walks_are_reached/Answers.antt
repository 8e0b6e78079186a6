use Rattle.std.proofs.Common.{◌≡◌}
use Rattle.allocator_contract.proofs.Reaching.{reaches}
use Rattle.allocator_contract.proofs.quiet_walks_are_reached.Goals as goal

pub returns : goal.returns
returns c e words n a to h = reaches e words (λ d. d ≡ to) n a h
