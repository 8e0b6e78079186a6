-- How far a call comes with its job, and how it ends; this project's own.
use Rattle.std.specs.Prelude.{◌≡◌, ℕ, ◌<◌, ◌≤◌, ◌⊎◌, List, ◌++◌, length, take}
use Rattle.std.specs.Io.KnownBytes.{append_known}
use Rattle.rw_io.specs.Counts.{Rose}
use Rattle.rw_io.specs.States.{ShelfState, SinkState}
use Rattle.rwc_reports.specs.Acts.{Act, Outside, after_acts, BreaksOff}
use Rattle.rwc_reports.specs.Lines.{read_fault_line, write_fault_line, memory_line}
use Rattle.rwc_reports.specs.Jobs.{Job}
use Rattle.rwc_reports.specs.Steps.{IsOneOf}

-- the status and the line with which a call that did these acts of its job may end
pub data JobEnds (job : Job) : List Act → ℕ → List ℕ → Type 0 where
  -- the job was done
  whole : {done : List Act} {status : ℕ} {line : List ℕ} → done ≡ job.acts → status ≡ job.status → line ≡ job.line → JobEnds job done status line
  -- an act failed or stalled, with so many bytes of its piece left
  unwritten : {done : List Act} {status : ℕ} {line : List ℕ} (left : ℕ) → BreaksOff job.acts done left → status ≡ 5 → line ≡ write_fault_line left → JobEnds job done status line
  -- memory was wanting between two acts
  no_memory : {done : List Act} {status : ℕ} {line : List ℕ} (rest : List Act) → job.acts ≡ done ++ rest → status ≡ 8 → line ≡ memory_line → JobEnds job done status line
  -- memory was wanting within an act
  no_memory_within : {done : List Act} {status : ℕ} {line : List ℕ} (left : ℕ) → BreaksOff job.acts done left → status ≡ 8 → line ≡ memory_line → JobEnds job done status line

-- a call did some acts of its job and ended with this status and line
pub record CarriesOut (job : Job) (before after : Outside) (status : ℕ) (line : List ℕ) : Type 0 where
  pub done : List Act
  pub outside : after ≡ after_acts done before
  pub ends : JobEnds job done status line

-- A call carries out one of these jobs; or nothing was done, since a load of one of these files failed, or memory was wanting
-- before the job was known.
pub data KeepsTo (Jobs : Job → Type 0) (files : List (List ℕ)) (before after : Outside) (status : ℕ) (line : List ℕ) : Type 0 where
  carries_out : (job : Job) → Jobs job → CarriesOut job before after status line → KeepsTo Jobs files before after status line
  unread : (file : List ℕ) → IsOneOf files file → after ≡ before → status ≡ 4 → line ≡ read_fault_line file → KeepsTo Jobs files before after status line
  unbegun : after ≡ before → status ≡ 8 → line ≡ memory_line → KeepsTo Jobs files before after status line

-- a count of failures or of stalls rose in a create, an append or a put
abbrev pub WriteRose : ShelfState → ShelfState → SinkState → SinkState → Type 0
WriteRose shelf shelf' out out' =
    Rose shelf.put_faults shelf'.put_faults ⊎ (Rose shelf.stalls shelf'.stalls ⊎ (Rose out.faults out'.faults ⊎ Rose out.stalls out'.stalls))

-- A line was put to standard error, whole unless that failed, stalled or found no memory. The status stays, or is 8 where
-- the line was not put whole.
pub record Tells (line : List ℕ) (status : ℕ) (before after : SinkState) (result : ℕ) : Type 0 where
  pub count : ℕ
  pub put : after.bytes ≡ append_known before.bytes (take count line)
  pub same : (result ≡ status) ⊎ (result ≡ 8)
  pub changed : (result ≡ status) ⊎ (count < length line)
  pub whole : (length line ≤ count) ⊎ (Rose before.faults after.faults ⊎ (Rose before.stalls after.stalls ⊎ (result ≡ 8)))
