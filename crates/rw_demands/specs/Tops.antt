-- What an answer that tells a type says of a condition of the table. Want of memory says nothing. This project's own.
use Rattle.std.specs.Prelude.{◌≡◌, Result, Ok, Err}
use Rattle.std.specs.Borrow.{Bor}
use Rattle.rw_types.specs.declared.types.Ty.{Ty}
use Rattle.rich_rules.specs.Points.{Outcome}
use Rattle.rw_row_answers.specs.declared.answers.CapError.{CapError}
use Rattle.rw_row_answers.specs.Answers.{Breaking}

-- the condition holds, and what is left of the type that is told is looked at; or it breaks the rule that is told
abbrev pub AllowsTop : Result (Bor Ty) CapError → Outcome → (Ty → Outcome) → Type 0
AllowsTop (Ok t) out rest = out ≡ rest t.now
AllowsTop (Err e) out rest = Breaking e out
