use Rattle.std.proofs.Common.{◌≤◌, ℕ, inl, inr, subst, arith}
use Rattle.machine_runs.specs.Runs.{Runs, Stops}
use Rattle.rw_io.specs.Counts.{Rose}
use Rattle.rw_io.specs.States.{SinkState, NoSinkCountFell}
use Rattle.rwc_acts.proofs.Endings.{written_also}
use Rattle.rwc_reports.specs.Acts.{outside_of}
use Rattle.rwc_runs.specs.Executions.{last_text, PutsLast, PutRose}
use Rattle.rwc_runs.proofs.Jobs.{whole_run, stopped_run}
use Rattle.wasm_run.specs.Progress.{Progress, next_of, ended_of, steps_of}
use Rattle.rwc_runs.proofs.machine.run_machine.Goals as goal

rose_from : (a b c : ℕ) → a ≤ b → Rose b c → Rose a c
rose_from a b c le rose = omega (arith, le, rose)

-- what rose since a later moment rose since an earlier one
put_rose_from : (out mid out' : SinkState) → NoSinkCountFell out mid → PutRose mid out' → PutRose out out'
put_rose_from out mid out' counts (inl rose) = inl (rose_from out.faults mid.faults out'.faults counts.puts rose)
put_rose_from out mid out' counts (inr rose) = inr (rose_from out.stalls mid.stalls out'.stalls counts.stalled rose)

pub returns-in-Ok : goal.returns-in-Ok
returns-in-Ok g c = λ m begun is_valid profile.
    let out = g.O.Sink.state c.args.out.now in
    let mid = g.O.Sink.state c.run.new.out in
    let out' = g.O.Sink.state c.put_last.new.out in
    let outcome = c.in-Ok.outcome in
    let after = c.run.new.self in
    let r = subst (λ (p : Progress). Runs next_of ended_of steps_of c.args.steps p outcome after out mid) begun.is c.in-Ok.ensures.runs in
    whole_run m begun.first is_valid profile begun.starts c.args.steps out mid out' r.printed outcome after c.put_last.result r.comes r.put
    (λ shelf. subst (λ (n : ℕ). PutsLast (last_text outcome n) (outside_of shelf mid) (outside_of shelf out') c.put_last.result) c.steps.ensures (c.put_last.ensures.puts shelf))
    c.put_last.ensures.done
    (written_also c.put_last.result _ _ (put_rose_from out mid out' c.run.ensures.counts) c.put_last.ensures.cause)

pub returns-in-Err : goal.returns-in-Err
returns-in-Err g c = λ m begun is_valid profile.
    let out = g.O.Sink.state c.args.out.now in
    let mid = g.O.Sink.state c.run.new.out in
    let s = subst (λ (p : Progress). Stops next_of ended_of steps_of c.args.steps p c.in-Err.error c.run.new.self out mid) begun.is c.in-Err.ensures.stops in
    stopped_run m begun.first is_valid profile begun.starts c.args.steps out mid c.run.new.self c.in-Err.error c.stopped.result s c.stopped.ensures
