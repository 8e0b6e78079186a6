use Rattle.rw_io.proofs.TakenFronts.{take_the_front}
use Rattle.rw_io.proofs.laws.appends_take_the_front.Goals as goal

pub returns : goal.returns
returns g c = take_the_front g.S.Shelf.appends
