use Rattle.lowering_bounds.proofs.Numbers.{numbers_are_their_operators}
use Rattle.lowering_bounds.proofs.numbers_are_their_operators.Goals as goal

pub returns : goal.returns
returns c = numbers_are_their_operators
