use Rattle.std.proofs.Common.{subst}
use Rattle.machine_runs.specs.Runs.{Runs, Stops}
use Rattle.wasm_run.specs.Progress.{Progress, ended_of, next_of, steps_of}
use Rattle.wasm_run_laws.proofs.Telling.{run_tells, stop_tells}
use Rattle.wasm_run_laws.proofs.runs_tell_of_modules.Goals as goal

pub returns-clause-runs : goal.returns-clause-runs
returns-clause-runs c = λ m p after steps outcome out out' b h.
    run_tells m b.first b.starts after steps outcome out out' (subst (λ (x : Progress). Runs next_of ended_of steps_of steps x outcome after out out') b.is h)

pub returns-clause-stops : goal.returns-clause-stops
returns-clause-stops c = λ m p after steps error out out' b h.
    stop_tells m b.first b.starts after steps error out out' (subst (λ (x : Progress). Stops next_of ended_of steps_of steps x error after out out') b.is h)
