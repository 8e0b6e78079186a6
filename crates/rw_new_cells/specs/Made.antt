-- What a look at a new cell says of a row of the table. Want of memory says nothing. This project's own.
use Rattle.std.specs.Prelude.{◌≡◌, List, [], ◌∷◌, Result, Ok, Err}
use Rattle.rw_types.specs.declared.types.Ty.{Ty}
use Rattle.rich_types.specs.Scopes.{Scope}
use Rattle.rich_rules.specs.Points.{Outcome}
use Rattle.rich_rules.specs.Takers.{these, gives, gives_formed}
use Rattle.rw_row_answers.specs.declared.answers.CapError.{CapError}
use Rattle.rw_row_answers.specs.Answers.{Breaking}
use Rattle.rw_new_cells.specs.declared.made.Made.{Made}

-- the row gives this type over those beneath; or it breaks the rule that is told
abbrev pub GivesOne : Result Ty CapError → Outcome → List Ty → Type 0
GivesOne (Ok t) out beneath = out ≡ gives (t ∷ []) beneath
GivesOne (Err e) out beneath = Breaking e out

-- what is made of the top operand
abbrev pub made_of : Scope → Made → List Ty → Outcome
made_of c made operands = these (made.demanded ∷ []) operands (λ beneath. gives_formed c made.cell beneath)

-- the row makes this of the top operand; or it breaks the rule that is told, whatever the operands are
abbrev pub Makes : Result Made CapError → Scope → Outcome → List Ty → Type 0
Makes (Ok made) c out operands = out ≡ made_of c made operands
Makes (Err e) c out operands = Breaking e out
