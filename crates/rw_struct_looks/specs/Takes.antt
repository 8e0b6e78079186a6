-- What an answer says of a condition of the table. Want of memory says nothing. This project's own.
use Rattle.std.specs.Prelude.{◌≡◌, Result, Ok, Err}
use Rattle.rich_rules.specs.Points.{Outcome}
use Rattle.rw_row_answers.specs.declared.answers.CapError.{CapError}
use Rattle.rw_row_answers.specs.Answers.{Breaking}

-- the condition holds, and what is left is looked at; or it breaks the rule that is told
abbrev pub Allows : {A : Type 0} → Result A CapError → Outcome → Outcome → Type 0
Allows (Ok x) out rest = out ≡ rest
Allows (Err e) out rest = Breaking e out
