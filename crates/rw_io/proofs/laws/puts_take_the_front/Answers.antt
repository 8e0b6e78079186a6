use Rattle.rw_io.proofs.TakenFronts.{take_the_front}
use Rattle.rw_io.proofs.laws.puts_take_the_front.Goals as goal

pub returns : goal.returns
returns g c = take_the_front g.O.Sink.puts
