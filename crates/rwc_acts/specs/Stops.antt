-- What the code's endings say.
use Rattle.std.specs.Prelude.{◌≡◌, ℕ, List, [], map, ⊤, Vec, string_bytes}
use Rattle.std.specs.declared.alloc.Global.{Global}
use Rattle.std.specs.declared.string.String.{String}
use Rattle.std.specs.declared.result.Result.{Result}
use Rattle.std.specs.declared.result.Result.TheVariants.{Ok, Err}
use Rattle.rwc_acts.specs.declared.ending.Done.{Done}
use Rattle.rwc_acts.specs.declared.ending.Done.TheVariants.{Finished, Trapped, Spent}
use Rattle.rwc_acts.specs.declared.ending.Stop.{Stop}
use Rattle.rwc_acts.specs.declared.ending.Stop.TheVariants.{Refused as RefusedStop, Unread, Unwritten, Memory}
use Rattle.rwc_reports.specs.Acts.{Act, Outside, IsPart, after_act, after_acts}
use Rattle.rwc_reports.specs.Lines.{memory_line, write_fault_line}
use Rattle.rwc_reports.specs.Steps.{Refused}

abbrev pub done_status : Done → ℕ
done_status Finished = 0
done_status Trapped = 6
done_status Spent = 7

abbrev pub stop_status : Stop → ℕ
stop_status (RefusedStop status line) = status
stop_status (Unread line) = 4
stop_status (Unwritten line) = 5
stop_status Memory = 8

abbrev pub stop_line : Stop → List ℕ
stop_line (RefusedStop status line) = string_bytes line
stop_line (Unread line) = string_bytes line
stop_line (Unwritten line) = string_bytes line
stop_line Memory = memory_line

abbrev pub status_of : Result Done Stop → ℕ
status_of (Ok done) = done_status done
status_of (Err stop) = stop_status stop

abbrev pub line_of : Result Done Stop → List ℕ
line_of (Ok done) = []
line_of (Err stop) = stop_line stop

-- what is told of the status and the line of a refusal, of the line of a failed load, and of that of a failed write
abbrev pub IfStop : Stop → (ℕ → List ℕ → Type 0) → (List ℕ → Type 0) → (List ℕ → Type 0) → Type 0
IfStop (RefusedStop status line) Refusal Load Write = Refusal status (string_bytes line)
IfStop (Unread line) Refusal Load Write = Load (string_bytes line)
IfStop (Unwritten line) Refusal Load Write = Write (string_bytes line)
IfStop Memory Refusal Load Write = ⊤

abbrev pub IfStopped : {T : Type 0} → Result T Stop → (ℕ → List ℕ → Type 0) → (List ℕ → Type 0) → (List ℕ → Type 0) → Type 0
IfStopped (Ok _) Refusal Load Write = ⊤
IfStopped (Err stop) Refusal Load Write = IfStop stop Refusal Load Write

-- the answer, as `view` sees it, is one that the step allows, or want of memory
abbrev pub IsStep : {T A : Type 0} → (T → A) → (Result A Refused → Type 0) → Result T Stop → Type 0
IsStep view Leads (Ok value) = Leads (Ok (view value))
IsStep view Leads (Err stop) = IfStop stop (λ status line. Leads (Err (record { status = status; line = line }))) (λ _. ⊥) (λ _. ⊥)

-- bytes, and the bytes of texts
abbrev pub bytes_of : Vec ℕ Global → List ℕ
bytes_of bytes = bytes.items

abbrev pub texts_of : Vec (String Global) Global → List (List ℕ)
texts_of texts = map string_bytes texts.items

-- an act was begun and not done whole
pub record StopsWithin (act : Act) (before after : Outside) (stop : Stop) : Type 0 where
  pub part : List Act
  pub left : ℕ
  pub is_part : IsPart act part left
  pub outside : after ≡ after_acts part before
  pub says : IfStop stop (λ _ _. ⊥) (λ _. ⊥) (λ line. line ≡ write_fault_line left)

-- an act was done whole, or begun and not done whole
abbrev pub Performs : {T : Type 0} → Act → Outside → Outside → Result T Stop → Type 0
Performs act before after (Ok _) = after ≡ after_act act before
Performs act before after (Err stop) = StopsWithin act before after stop
