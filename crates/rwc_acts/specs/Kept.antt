-- How far a function of a command has come with its job.
use Rattle.std.specs.Prelude.{◌≡◌, ◌≢◌, ℕ, List, ⊤}
use Rattle.std.specs.declared.option.Option.TheVariants.{Some}
use Rattle.std.specs.declared.result.Result.{Result}
use Rattle.std.specs.declared.result.Result.TheVariants.{Ok, Err}
use Rattle.rw_io.specs.Counts.{Rose}
use Rattle.rw_io.specs.Files.{NamedFile}
use Rattle.rw_io.specs.States.{ShelfState, SinkState, NoShelfCountFell}
use Rattle.words.specs.Words.{Command, files_of, SpellsCommand, SpellNothing}
use Rattle.rwc_acts.specs.declared.ending.Done.{Done}
use Rattle.rwc_acts.specs.declared.ending.Stop.{Stop}
use Rattle.rwc_acts.specs.declared.ending.Stop.TheVariants.{Memory}
use Rattle.rwc_acts.specs.Stops.{done_status, status_of, line_of, IfStop}
use Rattle.rwc_reports.specs.Acts.{outside_of}
use Rattle.rwc_reports.specs.Answers.{statuses_of}
use Rattle.rwc_reports.specs.Endings.{KeepsTo, WriteRose}
use Rattle.rwc_reports.specs.Jobs.{Job}
use Rattle.rwc_reports.specs.Lines.{words_line, read_fault_line}
use Rattle.rwc_reports.specs.Reports.{CommandReports}
use Rattle.rwc_reports.specs.Steps.{Refused, IsOneOf}

-- the answer, as `view` sees it, is one that the step allows, or a failed load, or want of memory
abbrev pub IsLoading : {T A : Type 0} → (T → A) → (Result A Refused → Type 0) → Result T Stop → Type 0
IsLoading view Leads (Ok value) = Leads (Ok (view value))
IsLoading view Leads (Err stop) = IfStop stop (λ status line. Leads (Err (record { status = status; line = line }))) (λ _. ⊤) (λ _. ⊥)

-- a refusal has one of these statuses, and a failed load of this file raised its count
abbrev pub IsEarlyStop : List ℕ → List ℕ → ShelfState → ShelfState → Stop → Type 0
IsEarlyStop statuses file shelf shelf' stop =
    IfStop stop (λ status _. IsOneOf statuses status) (λ line. (line ≡ read_fault_line file) × Rose shelf.load_faults shelf'.load_faults) (λ _. ⊥)

abbrev pub IfStoppedEarly : {T : Type 0} → List ℕ → List ℕ → ShelfState → ShelfState → Result T Stop → Type 0
IfStoppedEarly statuses file shelf shelf' (Ok value) = ⊤
IfStoppedEarly statuses file shelf shelf' (Err stop) = IsEarlyStop statuses file shelf shelf' stop

-- the answer of steps from a file: where files are told, one that the steps allow, or a failed load, or want of memory; nothing
-- but counts of the shelf has changed
pub record LoadsTo {T A : Type 0} (view : T → A) (Leads : List NamedFile → Result A Refused → Type 0) (statuses file : List ℕ) (shelf shelf' : ShelfState) (result : Result T Stop) : Type 0 where
  pub leads : (told : List NamedFile) → shelf.holding.files ≡ Some told → IsLoading view (Leads told) result
  pub cause : IfStoppedEarly statuses file shelf shelf' result
  pub same : shelf'.holding ≡ shelf.holding
  pub counts : NoShelfCountFell shelf shelf'

-- how a job ended, files told or not: it was done or refused with one of these statuses, and where a run came to no value nothing
-- was created, where it was refused nothing was written; a load of one of these files failed, and nothing was written; a write
-- failed or stalled; or memory was wanting
abbrev pub EndsBy : List (List ℕ) → List ℕ → ShelfState → ShelfState → SinkState → SinkState → Result Done Stop → Type 0
EndsBy files statuses shelf shelf' out out' (Ok done) = IsOneOf statuses (done_status done) × (done_status done ≢ 0 → shelf'.holding ≡ shelf.holding)
EndsBy files statuses shelf shelf' out out' (Err stop) = IfStop stop
    (λ status _. IsOneOf statuses status × (outside_of shelf' out' ≡ outside_of shelf out))
    (λ line. (file : List ℕ) × IsOneOf files file × (line ≡ read_fault_line file) × Rose shelf.load_faults shelf'.load_faults × (outside_of shelf' out' ≡ outside_of shelf out))
    (λ _. WriteRose shelf shelf' out out')

-- a job was kept to as far as it came: one that these files report, where they are told
pub record KeepsJob (Jobs : List NamedFile → Job → Type 0) (files : List (List ℕ)) (statuses : List ℕ) (shelf shelf' : ShelfState) (out out' : SinkState) (result : Result Done Stop) : Type 0 where
  pub keeps : (told : List NamedFile) → shelf.holding.files ≡ Some told → KeepsTo (Jobs told) files (outside_of shelf out) (outside_of shelf' out') (status_of result) (line_of result)
  pub cause : EndsBy files statuses shelf shelf' out out' result

-- the job of a command was kept to
abbrev pub KeepsCommand : Command → ShelfState → ShelfState → SinkState → SinkState → Result Done Stop → Type 0
KeepsCommand command shelf shelf' out out' result =
    KeepsJob (CommandReports (Some command)) (files_of command) (statuses_of (Some command)) shelf shelf' out out' result

-- words were read, and the job of the command that they spell was kept to, or they were refused
pub data KeepsWords (words : List (List ℕ)) (shelf shelf' : ShelfState) (out out' : SinkState) (result : Result Done Stop) : Type 0 where
  command : (spelled : Command) → SpellsCommand words spelled → KeepsCommand spelled shelf shelf' out out' result → KeepsWords words shelf shelf' out out' result
  no_command : (stop : Stop) → SpellNothing words → result ≡ Err stop → IfStop stop (λ status line. (status ≡ 2) × (line ≡ words_line)) (λ _. ⊥) (λ _. ⊥) → outside_of shelf' out' ≡ outside_of shelf out → KeepsWords words shelf shelf' out out' result
  no_memory : result ≡ Err Memory → outside_of shelf' out' ≡ outside_of shelf out → KeepsWords words shelf shelf' out out' result
