-- What one step of a run answers and leaves, with the line of a number that it prints (this project's own).
use Rattle.std.specs.Prelude.{◌≡◌, ℕ, ◌-◌, ◌<◌, ◌≤◌, ◌⊎◌, List, [], ◌∷◌, length, take, Option, Some, None, Result, Ok, Err}
use Rattle.std.specs.Io.KnownBytes.{append_known}
use Rattle.machine_steps.specs.declared.End.{End}
use Rattle.machine_steps.specs.Steps as steps
use Rattle.rw_io.specs.Counts.{Rose}
use Rattle.rw_io.specs.States.{SinkState}
use Rattle.machine_runs.specs.Lines.{printed_line, text_of}
use Rattle.machine_runs.specs.Turns.{GoesOn, EndsNow, HasEnded}
use Rattle.machine_runs.specs.declared.answers.RunError.{RunError}
use Rattle.machine_runs.specs.declared.answers.RunError.TheVariants.{Write, Stalled, Memory}

module _ {A : Type 0} (next : A → steps.Turn ℕ A) (over : A → Option End) (made : A → ℕ) where
  -- a step printed a number, so many bytes at the end of whose line were not put
  pub record LacksOfLine (left : ℕ) (before after : A) (out out' : SinkState) : Type 0 where
    pub last : ℕ
    pub goes : GoesOn next over made before (last ∷ []) after
    pub some : 0 < left
    pub within : left ≤ length (printed_line last)
    pub put : out'.bytes ≡ append_known out.bytes (take (length (printed_line last) - left) (printed_line last))

  -- nothing was done
  abbrev pub Stays : A → A → SinkState → SinkState → Type 0
  Stays before after out out' = (after ≡ before) × (out' ≡ out)

  -- why a step stops the run
  abbrev pub Halts : A → RunError → A → SinkState → SinkState → Type 0
  Halts before (Write left) after out out' = LacksOfLine left before after out out' × Rose out.faults out'.faults
  Halts before (Stalled left) after out out' = LacksOfLine left before after out out' × Rose out.stalls out'.stalls
  Halts before Memory after out out' = Stays before after out out' ⊎ ((left : ℕ) × LacksOfLine left before after out out')

  -- a step was made, and what it printed was put; or the machine has ended
  abbrev pub Advances : A → Result (Option End) RunError → A → SinkState → SinkState → Type 0
  Advances before (Ok None) after out out' = (printed : List ℕ) × GoesOn next over made before printed after × (out'.bytes ≡ append_known out.bytes (text_of printed))
  Advances before (Ok (Some e)) after out out' = (EndsNow next over made before e after ⊎ HasEnded next over made before e after) × (out' ≡ out)
  Advances before (Err e) after out out' = Halts before e after out out'
