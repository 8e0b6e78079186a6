-- What each answer of a call says and leaves; this project's own.
use Rattle.std.specs.Prelude.{◌≡◌, ◌≢◌, ◌≤◌, ◌⊎◌, ℕ, List, [], ◌∷◌, ◌++◌, length, take}
use Rattle.std.specs.declared.option.Option.{Option}
use Rattle.std.specs.declared.option.Option.TheVariants.{None, Some}
use Rattle.std.specs.Io.KnownBytes.{append_known}
use Rattle.rw_io.specs.Counts.{Rose}
use Rattle.rw_io.specs.Files.{NamedFile}
use Rattle.rw_io.specs.States.{ShelfState, SinkState}
use Rattle.words.specs.Words.{Command, build, run, exec, show, dump, files_of, SpellsCommand}
use Rattle.words.specs.Found.{Finds}
use Rattle.rwc_reports.specs.Acts.{Act, create, append, put, outside_of}
use Rattle.rwc_reports.specs.Endings.{KeepsTo, Tells}
use Rattle.rwc_reports.specs.Jobs.{Job}
use Rattle.rwc_reports.specs.Lines.{read_fault_line}
use Rattle.rwc_reports.specs.Reports.{CommandReports, Reports}
use Rattle.rwc_reports.specs.Steps.{IsOneOf}

-- what acts put to standard output
abbrev pub text_of : List Act → List ℕ
text_of [] = []
text_of (create name ∷ acts) = text_of acts
text_of (append piece ∷ acts) = text_of acts
text_of (put piece ∷ acts) = piece ++ text_of acts

-- A prefix of a text was put: nothing of it at status 4, and all of it at a status other than 4, 5 and 8.
pub record PutsText (text : List ℕ) (before after : Option (List ℕ)) (status : ℕ) : Type 0 where
  pub count : ℕ
  pub put : after ≡ append_known before (take count text)
  pub none : status ≡ 4 → count ≡ 0
  pub whole : status ≢ 4 → status ≢ 5 → status ≢ 8 → length text ≤ count

-- a job that words and files report has this status
pub record HasStatus (words : List (List ℕ)) (told : List NamedFile) (status : ℕ) : Type 0 where
  pub job : Job
  pub reported : Reports words told job
  pub is : status ≡ job.status

-- the files of a command
abbrev pub files_for : Option Command → List (List ℕ)
files_for None = []
files_for (Some command) = files_of command

-- a call kept to the job that its words and the told files report, told how it ended, and answered this status
pub record CallEnds (words : List (List ℕ)) (told : List NamedFile) (shelf shelf' : ShelfState) (out out' err err' : SinkState) (result : ℕ) : Type 0 where
  pub command : Option Command
  pub found : Finds (SpellsCommand words) command
  pub status : ℕ
  pub line : List ℕ
  pub keeps : KeepsTo (CommandReports command told) (files_for command) (outside_of shelf out) (outside_of shelf' out') status line
  pub tells : Tells line status err err' result

-- the statuses of a command's job, and of words that spell none
abbrev pub statuses_of : Option Command → List ℕ
statuses_of None = 2 ∷ []
statuses_of (Some (build lin unr name source)) = 0 ∷ 1 ∷ 3 ∷ 10 ∷ 11 ∷ []
statuses_of (Some (run lin unr steps source)) = 0 ∷ 1 ∷ 3 ∷ 6 ∷ 7 ∷ 10 ∷ 11 ∷ []
statuses_of (Some (exec steps file)) = 0 ∷ 3 ∷ 6 ∷ 7 ∷ 9 ∷ []
statuses_of (Some (show source)) = 0 ∷ 1 ∷ 3 ∷ []
statuses_of (Some (dump file)) = 0 ∷ 3 ∷ 9 ∷ []

-- the statuses of a call: those of its job, 4 where it loads files, 5 where it writes, and 8
abbrev pub IsAnswer : Option Command → ℕ → Type 0
IsAnswer None status = (status ≡ 2) ⊎ (status ≡ 8)
IsAnswer (Some command) status = IsOneOf (statuses_of (Some command)) status ⊎ ((status ≡ 4) ⊎ ((status ≡ 5) ⊎ (status ≡ 8)))

-- words may be answered so
abbrev pub MayAnswer : List (List ℕ) → ℕ → Type 0
MayAnswer words status = (command : Option Command) × Finds (SpellsCommand words) command × IsAnswer command status

-- a load failed, and the line to standard error names the file, which is one of the command's
pub record ReadFails (words : List (List ℕ)) (shelf shelf' : ShelfState) (err err' : SinkState) : Type 0 where
  pub command : Command
  pub spelled : SpellsCommand words command
  pub file : List ℕ
  pub of_command : IsOneOf (files_of command) file
  pub rose : Rose shelf.load_faults shelf'.load_faults
  pub tells : Tells (read_fault_line file) 4 err err' 4

-- the statuses of a refusal: of a text or a module, of a file, of a binary, of a link, of a size; and of a run that came to no
-- value: it trapped, or its steps were spent
abbrev pub IsRefusal : ℕ → Type 0
IsRefusal status = IsOneOf (1 ∷ 3 ∷ 6 ∷ 7 ∷ 9 ∷ 10 ∷ 11 ∷ []) status
