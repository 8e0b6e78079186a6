-- Jobs: what a command does and says; this project's own.
use Rattle.std.specs.Prelude.{ℕ, List, [], map}
use Rattle.rwc_reports.specs.Acts.{Act, put}
use Rattle.rwc_reports.specs.Steps.{Refused, Then}
use Rattle.std.specs.declared.result.Result.{Result}

-- the acts in their order, the line to standard error, and the status
pub record Job : Type 0 where
  pub acts : List Act
  pub line : List ℕ
  pub status : ℕ

-- a job that does nothing but refuse
abbrev pub refusal_job : Refused → Job
refusal_job refused = record { acts = []; line = refused.line; status = refused.status }

-- lines are put one after another, each a piece of its own
abbrev pub lines_job : List (List ℕ) → ℕ → Job
lines_job lines status = record { acts = map put lines; line = []; status = status }

-- from a step to the job of its value, or to that of its refusal
abbrev pub JobOf : {A : Type 0} → (Result A Refused → Type 0) → (A → Job → Type 0) → Job → Type 0
JobOf First Next job = Then refusal_job First Next job
