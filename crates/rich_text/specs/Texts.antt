-- A Rich text as a whole: what it spells, and reading it, with the first fault and its place (this project's own).
use Rattle.std.specs.Prelude.{◌≡◌, ℕ, zero, suc, ◌-◌, ◌==◌, if◌then◌else◌, List, [], ◌∷◌, length, Option, None, Some, Result, Ok, Err, codes}
use Rattle.rw_types.specs.declared.modules.Module.{Module}
use Rattle.rich_text.specs.Forms.{module_form}
use Rattle.rich_text.specs.Tokens.{Token, Word, Fault, BadUtf8, BadForm, Unended, nesting_limit}
use Rattle.rich_text.specs.Places.{Place}
use Rattle.rich_text.specs.Utf8.{ill_formed}
use Rattle.rich_text.specs.Lexing.{Lexed, lexed}
use Rattle.rich_text.specs.Grammars.{a_form, Grammar, SpellsPart}
use Rattle.rich_text.specs.Reading.{Stop, look_up, read_part}
use Rattle.rich_text.specs.FirstVersion.{first_version}

-- the versions, each with its grammar
abbrev pub versions : List (List ℕ × Grammar)
versions = (codes "1", first_version) ∷ []

abbrev pub or_first : Option Grammar → Grammar
or_first (Some G) = G
or_first None = first_version

-- the grammar of a text: that of its version's word, the third token
abbrev pub grammar_by : Option Token → Grammar
grammar_by (Some (Word version)) = or_first (look_up version versions)
grammar_by _ = first_version

abbrev pub third : List Token → Option Token
third (t ∷ u ∷ v ∷ ts) = Some v
third _ = None

abbrev pub grammar_of : List Token → Grammar
grammar_of ts = grammar_by (third ts)

-- well-formed bytes that are tokens to their end, and these the module's, in which at most 200 lists nest
pub record Spells (bytes : List ℕ) (m : Module) : Type 0 where
  pub encoded : ill_formed bytes ≡ None
  pub ended : (lexed bytes).ending ≡ Unended
  pub spelled : SpellsPart (grammar_of (lexed bytes).tokens) nesting_limit (a_form module_form) m (lexed bytes).tokens

-- a fault, and the place of its first byte
pub record Found : Type 0 where
  pub fault : Fault
  pub at : Place

-- the place of the token of this number, or where the tokens end
abbrev pub place_of : List Place → ℕ → Place → Place
place_of [] n at = at
place_of (p ∷ ps) zero at = p
place_of (p ∷ ps) (suc n) at = place_of ps n at

-- a fault among tokens; at their end it is what ends them
abbrev pub found : Lexed → Stop → Found
found s e = if e.left == 0 then record { fault = s.ending; at = s.at } else record { fault = e.fault; at = place_of s.places (length s.tokens - e.left) s.at }

-- nothing stands behind the module
abbrev pub nothing_behind : {A : Type 0} → Lexed → A → List Token → Fault → Result A Found
nothing_behind s m [] Unended = Ok m
nothing_behind s m [] fault = Err (record { fault = fault; at = s.at })
nothing_behind s m (t ∷ ts) fault = Err (found s (record { fault = BadForm; left = length (t ∷ ts) }))

-- a module, behind which nothing stands
abbrev pub whole : {A : Type 0} → Lexed → Result (A × List Token) Stop → Result A Found
whole s (Ok r) = nothing_behind s r.0 r.1 s.ending
whole s (Err e) = Err (found s e)

-- reading what was lexed
abbrev pub reading_tokens : Lexed → Result Module Found
reading_tokens s = whole s (read_part (grammar_of s.tokens) nesting_limit (a_form module_form) s.tokens)

-- the encoding is looked at first
abbrev pub if_encoded : {A : Type 0} → Option Place → Result A Found → Result A Found
if_encoded (Some at) r = Err (record { fault = BadUtf8; at = at })
if_encoded None r = r

-- the module, or the first fault
abbrev pub reading : List ℕ → Result Module Found
reading bytes = if_encoded (ill_formed bytes) (reading_tokens (lexed bytes))
