-- The size of a hidden location is that of its body.
use Rattle.rw_quals_sizes.proofs.Bodies.{hidden_size}
use Rattle.rw_quals_sizes.proofs.sizes.+sizes.Goals as goal

pub size_of_pre-returns-in-Hidden : goal.size_of_pre-returns-in-Hidden
size_of_pre-returns-in-Hidden t c = hidden_size _ _ _ _ _ c.get.ensures c.size.ensures _ _ c.in-Hidden.is c.inside.ensures
