use Rattle.allocator_codes.proofs.Typed.{codes_are_typed}
use Rattle.allocator_codes.proofs.codes_are_typed.Goals as goal

pub returns : goal.returns
returns c = codes_are_typed
