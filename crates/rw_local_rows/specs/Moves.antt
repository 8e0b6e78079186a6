-- What an answer says of a row that may change a local. Want of memory says nothing. This project's own.
use Rattle.std.specs.Prelude.{◌≡◌, List, Option, Result, Ok, Err}
use Rattle.rw_types.specs.declared.types.Ty.{Ty}
use Rattle.rich_rules.specs.Points.{Outcome, Change, Gives, changed_to}
use Rattle.rw_row_answers.specs.declared.answers.CapError.{CapError}
use Rattle.rw_row_answers.specs.Answers.{Breaking}

-- the row gives these operands, and its change makes the locals these; or it breaks the rule that is told
abbrev pub Moves : {A : Type 0} → Result A CapError → Outcome → (locals after operands : List Ty) → Type 0
Moves (Ok x) out locals after operands = (change : Option Change) × (out ≡ Gives operands change) × (after ≡ changed_to change locals)
Moves (Err e) out locals after operands = Breaking e out
