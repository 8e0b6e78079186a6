use Rattle.machine_runs.proofs.Going.{Goes}
use Rattle.rw_io.specs.States.{NoSinkCountFell}
use Rattle.machine_runs.proofs.runs.run.Given as goal

abbrev pub invariant-loop : goal.invariant-loop
invariant-loop g l = record {
  goes : Goes g.M.Steps.next g.M.Steps.over g.M.Steps.made l.counter l.initial.machine l.machine (g.O.Sink.state l.initial.out) (g.O.Sink.state l.out);
  counts : NoSinkCountFell (g.O.Sink.state l.initial.out) (g.O.Sink.state l.out);
}
