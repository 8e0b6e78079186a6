-- What an answer says of a row of the table. Want of memory says nothing. This project's own.
use Rattle.std.specs.Prelude.{◌≡◌, List, [], ◌∷◌, Result, Ok, Err, ⊤}
use Rattle.rw_types.specs.declared.types.Ty.{Ty}
use Rattle.rich_rules.specs.Points.{Outcome, Breaks, Broke}
use Rattle.rich_rules.specs.Takers.{gives}
use Rattle.rw_row_answers.specs.declared.answers.CapError.{CapError}
use Rattle.rw_row_answers.specs.declared.answers.CapError.TheVariants.{Broken, Memory}
use Rattle.rw_row_answers.specs.declared.answers.Given.{Given}
use Rattle.rw_row_answers.specs.declared.answers.Given.TheVariants.{Nothing, One, Two, Kept, Over}

-- the types that are given, the top one first, where t is the deepest that was taken
abbrev pub given_types : Given → Ty → List Ty
given_types Nothing t = []
given_types (One u) t = u ∷ []
given_types (Two top under) t = top ∷ under ∷ []
given_types Kept t = t ∷ []
given_types (Over u) t = u ∷ t ∷ []

-- the row breaks the rule that is told
abbrev pub Breaking : CapError → Outcome → Type 0
Breaking (Broken rule found expected) out = out ≡ Breaks (Broke rule found expected)
Breaking Memory out = ⊤

-- the row gives these types over those beneath, where t is the deepest that was taken; or it breaks the rule that is told
abbrev pub Looks : Result Given CapError → Outcome → Ty → List Ty → Type 0
Looks (Ok g) out t beneath = out ≡ gives (given_types g t) beneath
Looks (Err e) out t beneath = Breaking e out
