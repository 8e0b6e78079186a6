-- What a run from the start of a module tells of what is seen of the module (this project's own).
use Rattle.std.specs.Prelude.{◌≡◌, ◌⊎◌, ℕ, ◌-◌, ◌<◌, ◌≤◌, List, [], ◌∷◌, ◌++◌, length, take}
use Rattle.std.specs.Io.KnownBytes.{append_known}
use Rattle.machine_steps.specs.declared.End.{End}
use Rattle.machine_steps.specs.Agreement.{Seen}
use Rattle.machine_steps.specs.Steps.{Stand, Going, Over}
use Rattle.machine_runs.specs.declared.answers.Outcome.{Outcome}
use Rattle.machine_runs.specs.declared.answers.Outcome.TheVariants.{Ended, Spent}
use Rattle.machine_runs.specs.declared.answers.RunError.{RunError}
use Rattle.machine_runs.specs.declared.answers.RunError.TheVariants.{Write, Stalled, Memory}
use Rattle.machine_runs.specs.Lines.{printed_line, text_of}
use Rattle.machine_runs.specs.Runs.{Runs, Stops}
use Rattle.rw_io.specs.Counts.{Rose}
use Rattle.rw_io.specs.States.{SinkState}
use Rattle.wasm_ast.specs.declared.modules.WModule.{WModule}
use Rattle.wasm_execution.specs.Behaviour.{wasm}
use Rattle.wasm_run.specs.Progress.{IsBegun, Progress, ended_of, next_of, steps_of}

abbrev pub seen_so : List ℕ → Stand → Seen
seen_so printed stand = record { printed = printed; stand = stand }

-- the module ends so after this many steps, and not before
pub record EndsAfter (m : WModule) (count : ℕ) (printed : List ℕ) (e : End) : Type 0 where
  pub going : (n : ℕ) → n < count → (wasm m n).stand ≡ Going
  pub ends : wasm m count ≡ seen_so printed (Over e)

-- what an answer about so many steps at most says of the module, where this many were counted
abbrev pub TellsOutcome : WModule → ℕ → Outcome → ℕ → List ℕ → Type 0
TellsOutcome m steps (Ended e) count printed = (count ≤ steps) × EndsAfter m count printed e
TellsOutcome m steps Spent count printed = (count ≡ steps) × (wasm m steps ≡ seen_so printed Going)

-- the same, and what the module has printed was put
pub record RunsModule (m : WModule) (steps : ℕ) (outcome : Outcome) (count : ℕ) (out out' : SinkState) : Type 0 where
  pub printed : List ℕ
  pub tells : TellsOutcome m steps outcome count printed
  pub put : out'.bytes ≡ append_known out.bytes (text_of printed)

abbrev pub RunsTell : Type 0
RunsTell =
    (m : WModule) (p after : Progress) (steps : ℕ) (outcome : Outcome) (out out' : SinkState) → IsBegun m p
    → Runs next_of ended_of steps_of steps p outcome after out out' → RunsModule m steps outcome after.steps out out'

-- fewer steps were made, after which the module goes on, and what it has printed was put
pub record PausesBetween (m : WModule) (steps : ℕ) (out out' : SinkState) : Type 0 where
  pub count : ℕ
  pub fewer : count < steps
  pub printed : List ℕ
  pub seen : wasm m count ≡ seen_so printed Going
  pub put : out'.bytes ≡ append_known out.bytes (text_of printed)

-- the last step that was made printed a number, so many bytes at the end of whose line were not put; the module goes on after it
pub record PausesInLine (m : WModule) (steps left : ℕ) (out out' : SinkState) : Type 0 where
  pub count : ℕ
  pub most : count ≤ steps
  pub printed : List ℕ
  pub last : ℕ
  pub seen : wasm m count ≡ seen_so (printed ++ last ∷ []) Going
  pub some : 0 < left
  pub within : left ≤ length (printed_line last)
  pub put : out'.bytes ≡ append_known out.bytes (text_of printed ++ take (length (printed_line last) - left) (printed_line last))

-- what an error says of the module
abbrev pub TellsError : WModule → ℕ → RunError → SinkState → SinkState → Type 0
TellsError m steps (Write left) out out' = PausesInLine m steps left out out' × Rose out.faults out'.faults
TellsError m steps (Stalled left) out out' = PausesInLine m steps left out out' × Rose out.stalls out'.stalls
TellsError m steps Memory out out' = PausesBetween m steps out out' ⊎ ((left : ℕ) × PausesInLine m steps left out out')

abbrev pub StopsTell : Type 0
StopsTell =
    (m : WModule) (p after : Progress) (steps : ℕ) (error : RunError) (out out' : SinkState) → IsBegun m p
    → Stops next_of ended_of steps_of steps p error after out out' → TellsError m steps error out out'
