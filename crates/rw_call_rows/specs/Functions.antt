-- What code sees of a type that is a function, or is none, and what rows make of one. This project's own.
use Rattle.std.specs.Prelude.{◌≡◌, List, Option, Some, None, Result, Ok, Err, reverse}
use Rattle.std.specs.Borrow.{Bor}
use Rattle.rw_types.specs.declared.types.Arg.{Arg}
use Rattle.rw_types.specs.declared.types.FunType.{FunType}
use Rattle.rw_types.specs.declared.types.Pre.TheVariants.{Code}
use Rattle.rw_types.specs.declared.types.Qual.TheVariants.{Unr}
use Rattle.rw_types.specs.declared.types.Ty.{Ty, Of}
use Rattle.rich_types.specs.Scopes.{Scope}
use Rattle.rich_typing.specs.declared.rules.Rule.TheVariants as rule
use Rattle.rich_rules.specs.Calls.{answer_all, instantiated}
use Rattle.rich_rules.specs.Plain.{from_to}
use Rattle.rich_rules.specs.Points.{Outcome}
use Rattle.rich_rules.specs.Takers.{code_form, other_form, need, gives_formed}
use Rattle.rw_row_answers.specs.declared.answers.CapError.{CapError}
use Rattle.rw_row_answers.specs.Answers.{Breaking}

-- the type is taken as this function, or as another form
abbrev pub SeesFunction : Ty → Option (Bor FunType) → Type 0
SeesFunction t (Some g) = (rest : FunType → Outcome) → code_form t rest ≡ rest g.now
SeesFunction t None = (rest : FunType → Outcome) → code_form t rest ≡ other_form t

-- what `inst` makes of a function
abbrev pub inst_of : Scope → List Arg → FunType → List Ty → Outcome
inst_of c args g beneath = need (answer_all c g.binders args) rule.Instance None None (gives_formed c (Of Unr (Code (instantiated g args))) beneath)

-- and of the top operand, where the arguments stand
abbrev pub inst_top : Scope → List Arg → Ty → List Ty → Outcome
inst_top c args t beneath = code_form t (λ g. inst_of c args g beneath)

-- the row takes the parameters of this function and gives its results; or it breaks the rule that is told
abbrev pub CallsFunction : Result (Bor FunType) CapError → Outcome → List Ty → Type 0
CallsFunction (Ok g) out beneath = out ≡ from_to (reverse g.now.params) (reverse g.now.results) beneath
CallsFunction (Err e) out beneath = Breaking e out
