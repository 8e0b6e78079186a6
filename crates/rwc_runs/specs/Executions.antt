-- How far a run and its last line were carried out, and what an execution that was stopped says; this project's own.
use Rattle.std.specs.Prelude.{◌≡◌, ◌⊎◌, ℕ, List, [], codes}
use Rattle.std.specs.declared.result.Result.{Result}
use Rattle.std.specs.declared.result.Result.TheVariants.{Err}
use Rattle.machine_runs.specs.declared.answers.Outcome.{Outcome}
use Rattle.machine_runs.specs.declared.answers.Outcome.TheVariants.{Ended, Spent as SpentAll}
use Rattle.machine_runs.specs.declared.answers.RunError.{RunError}
use Rattle.machine_runs.specs.declared.answers.RunError.TheVariants.{Write, Stalled}
use Rattle.machine_steps.specs.declared.End.{End}
use Rattle.machine_steps.specs.declared.End.TheVariants.{Value, Trap}
use Rattle.machine_steps.specs.Agreement.{Seen}
use Rattle.wasm_ast.specs.declared.modules.WModule.{WModule}
use Rattle.wasm_execution.specs.Behaviour.{wasm}
use Rattle.rw_io.specs.Counts.{Rose}
use Rattle.rw_io.specs.States.{ShelfState, SinkState}
use Rattle.rwc_acts.specs.declared.ending.Done.{Done}
use Rattle.rwc_acts.specs.declared.ending.Done.TheVariants.{Finished, Trapped, Spent}
use Rattle.rwc_acts.specs.declared.ending.Stop.{Stop}
use Rattle.rwc_acts.specs.declared.ending.Stop.TheVariants.{Memory}
use Rattle.rwc_acts.specs.Stops.{IfStopped, Performs, status_of, line_of}
use Rattle.rwc_reports.specs.Acts.{Outside, put, outside_of}
use Rattle.rwc_reports.specs.Endings.{CarriesOut, KeepsTo}
use Rattle.rwc_reports.specs.Jobs.{Job, JobOf}
use Rattle.rwc_reports.specs.Runs.{RunReports, after_line, end_text}
use Rattle.rwc_reports.specs.Steps.{Refused}

-- the last line of a run that stands so after so many steps
abbrev pub last_text : Outcome → ℕ → List ℕ
last_text (Ended e) count = after_line (end_text e) count
last_text SpentAll count = after_line (codes "spent") count

-- how a job with such a run is done
abbrev pub done_at : End → Done
done_at (Value v) = Finished
done_at (Trap t) = Trapped

abbrev pub done_as : Outcome → Done
done_as (Ended e) = done_at e
done_as SpentAll = Spent

-- a last line was put, whole or in part; or memory was wanting before that
abbrev pub PutsLast : List ℕ → Outside → Outside → Result Done Stop → Type 0
PutsLast line before after result = Performs (put line) before after result ⊎ ((result ≡ Err Memory) × (after ≡ before))

-- a run that a write stopped left so many bytes of its piece
abbrev pub LeavesOf : RunError → ℕ → Type 0
LeavesOf error left = (error ≡ Write left) ⊎ (error ≡ Stalled left)

-- a put failed or stalled
abbrev pub PutRose : SinkState → SinkState → Type 0
PutRose out out' = Rose out.faults out'.faults ⊎ Rose out.stalls out'.stalls

-- the job of a run of so many steps at most was carried out as far as it came
pub record RunsOut (run : ℕ → Seen) (steps : ℕ) (out out' : SinkState) (result : Result Done Stop) : Type 0 where
  pub job : Job
  pub reports : RunReports run steps job
  pub carries_out : (shelf : ShelfState) → CarriesOut job (outside_of shelf out) (outside_of shelf out') (status_of result) (line_of result)
  pub cause : IfStopped result (λ _ _. ⊥) (λ _. ⊥) (λ _. PutRose out out')

-- the module that a step leads to was run so, as far as its job came; where it was refused, so does the step say, and nothing was
-- put; no load fails
pub record Executes (Leads : Result WModule Refused → Type 0) (steps : ℕ) (out out' : SinkState) (result : Result Done Stop) : Type 0 where
  pub keeps : (shelf : ShelfState) → KeepsTo (λ job. JobOf Leads (λ m. RunReports (wasm m) steps) job) [] (outside_of shelf out) (outside_of shelf out') (status_of result) (line_of result)
  pub cause : IfStopped result (λ status line. Leads (Err (record { status = status; line = line })) × (out'.bytes ≡ out.bytes)) (λ _. ⊥) (λ _. PutRose out out')
