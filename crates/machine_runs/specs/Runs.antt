-- What a run of so many steps answers and leaves (this project's own).
use Rattle.std.specs.Prelude.{◌≡◌, ℕ, ◌+◌, ◌-◌, ◌<◌, ◌≤◌, ◌⊎◌, List, [], ◌∷◌, ◌++◌, length, take, Option, Some, None}
use Rattle.std.specs.Io.KnownBytes.{append_known}
use Rattle.machine_steps.specs.declared.End.{End}
use Rattle.machine_steps.specs.Steps.{Turn, Stand, Going, Over, Stuck, Reached, over, reached}
use Rattle.rw_io.specs.Counts.{Rose}
use Rattle.rw_io.specs.States.{SinkState}
use Rattle.rw_io.specs.declared.whole.Unwritten.{Unwritten}
use Rattle.rw_io.specs.declared.whole.WriteStop.TheVariants as stop
use Rattle.machine_runs.specs.Lines.{printed_line, text_of}
use Rattle.machine_runs.specs.declared.answers.Outcome.{Outcome}
use Rattle.machine_runs.specs.declared.answers.Outcome.TheVariants.{Ended, Spent}
use Rattle.machine_runs.specs.declared.answers.RunError.{RunError}
use Rattle.machine_runs.specs.declared.answers.RunError.TheVariants.{Write, Stalled, Memory}

-- the error where a line was not put whole
abbrev pub error_of : Unwritten → RunError
error_of u = elim u.stop [ stop.Failed ↦ Write u.left | stop.Stalled ↦ Stalled u.left | stop.Memory ↦ Memory ]

-- how a run stands where it answers so
abbrev pub stand_of : Outcome → Stand
stand_of (Ended e) = Over e
stand_of Spent = Going

-- the end of a run that stands so
abbrev pub end_of : Stand → Option End
end_of (Over e) = Some e
end_of Going = None
end_of Stuck = None

module _ {A : Type 0} (next : A → Turn ℕ A) (ended : A → Option End) (made : A → ℕ) where
  -- what is reached by so many steps more; a machine that has ended makes none
  abbrev pub since : ℕ → A → Reached ℕ A
  since n a = elim (ended a) [ None ↦ reached next n a | Some e ↦ over 0 [] e a ]

  -- so many steps more print these numbers and lead to this machine, which stands so
  pub record Comes (n : ℕ) (before : A) (printed : List ℕ) (stand : Stand) (after : A) : Type 0 where
    pub prints : (since n before).said ≡ printed
    pub stands : (since n before).stand ≡ stand
    pub at : (since n before).at ≡ after
    pub over : ended after ≡ end_of stand
    pub counted : made after ≡ made before + (since n before).steps

  -- the steps were made, or the machine has ended, and each printed number was put
  pub record Runs (steps : ℕ) (before : A) (outcome : Outcome) (after : A) (out out' : SinkState) : Type 0 where
    pub printed : List ℕ
    pub comes : Comes steps before printed (stand_of outcome) after
    pub put : out'.bytes ≡ append_known out.bytes (text_of printed)

  -- fewer steps were made, and each printed number was put
  pub record StopsBetween (steps : ℕ) (before after : A) (out out' : SinkState) : Type 0 where
    pub count : ℕ
    pub fewer : count < steps
    pub printed : List ℕ
    pub comes : Comes count before printed Going after
    pub put : out'.bytes ≡ append_known out.bytes (text_of printed)

  -- the last step that was made printed a number, so many bytes at the end of whose line were not put
  pub record StopsInLine (steps left : ℕ) (before after : A) (out out' : SinkState) : Type 0 where
    pub count : ℕ
    pub most : count ≤ steps
    pub printed : List ℕ
    pub last : ℕ
    pub comes : Comes count before (printed ++ last ∷ []) Going after
    pub some : 0 < left
    pub within : left ≤ length (printed_line last)
    pub put : out'.bytes ≡ append_known out.bytes (text_of printed ++ take (length (printed_line last) - left) (printed_line last))

  -- why a run stops
  abbrev pub Stops : ℕ → A → RunError → A → SinkState → SinkState → Type 0
  Stops steps before (Write left) after out out' = StopsInLine steps left before after out out' × Rose out.faults out'.faults
  Stops steps before (Stalled left) after out out' = StopsInLine steps left before after out out' × Rose out.stalls out'.stalls
  Stops steps before Memory after out out' = StopsBetween steps before after out out' ⊎ ((left : ℕ) × StopsInLine steps left before after out out')
