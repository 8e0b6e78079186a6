use Rattle.std.proofs.Common.{arith, ◌<◌, subst, Ok}
use Rattle.std.specs.Prelude.{Option}
use Rattle.machine_steps.specs.declared.End.{End}
use Rattle.machine_runs.specs.Advances.{Advances}
use Rattle.machine_runs.proofs.Going.{goes_on, ended_in, stops}
use Rattle.machine_runs.proofs.runs.run.Goals as goal

pub returns-in-Ok-Some-clause-runs : goal.returns-in-Ok-Some-clause-runs
returns-in-Ok-Some-clause-runs g c =
    let s = g.M.Steps in
    let o = g.O.Sink in
    let lt : c.loop.counter < c.args.steps = omega arith in
    let step = subst (λ (r : Option End). Advances s.next s.over s.made c.loop.machine (Ok r) c.advance.new.machine (o.state c.loop.out) (o.state c.advance.new.out)) c.in-Ok-Some.field-0-is c.in-Ok-Some.ensures.advances in
    ended_in s.next s.over s.made c.loop.counter c.args.steps c.in-Ok-Some.end c.args.machine.now c.loop.machine c.advance.new.machine (o.state c.args.out.now) (o.state c.loop.out) (o.state c.advance.new.out)
    lt c.loop.invariant.goes step

pub returns-in-Err-clause-stops : goal.returns-in-Err-clause-stops
returns-in-Err-clause-stops g c =
    let s = g.M.Steps in
    let o = g.O.Sink in
    let lt : c.loop.counter < c.args.steps = omega arith in
    stops s.next s.over s.made c.loop.counter c.args.steps c.in-Err.error c.args.machine.now c.loop.machine c.advance.new.machine (o.state c.args.out.now) (o.state c.loop.out) (o.state c.advance.new.out)
    lt c.loop.invariant.goes c.loop.invariant.counts c.in-Err.ensures.advances

pub loop-preserved : goal.loop-preserved
loop-preserved g c =
    let s = g.M.Steps in
    let o = g.O.Sink in
    let step = subst (λ (r : Option End). Advances s.next s.over s.made c.loop.machine (Ok r) c.advance.new.machine (o.state c.loop.out) (o.state c.advance.new.out)) c.in-Ok-None.field-0-is c.in-Ok-None.ensures.advances in
    record {
      goes = goes_on s.next s.over s.made c.loop.counter c.args.machine.now c.loop.machine c.advance.new.machine step.0 (o.state c.args.out.now) (o.state c.loop.out) (o.state c.advance.new.out) c.loop.invariant.goes step.1 step.2;
      counts = record { puts = omega arith; stalled = omega arith };
    }
