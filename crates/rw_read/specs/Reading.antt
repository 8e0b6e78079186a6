-- What reading a whole text answers, against its definition (this project's own).
use Rattle.std.specs.Prelude.{◌≡◌, ℕ, List, [], Bool, true, false, Option, None, Some, MatchOption, Ok, Err}
use Rattle.rw_types.specs.declared.modules.Module.{Module}
use Rattle.rich_text.specs.Tokens.{Fault, BadUtf8, BadToken, TooDeep, NumberOut, BadForm, Unended}
use Rattle.rich_text.specs.Lexing.{lexed}
use Rattle.rich_text.specs.Texts.{Found, Spells, nothing_behind, reading, reading_tokens}
use Rattle.rw_tokens.specs.declared.symbols.FirstFault.{FirstFault}
use Rattle.rw_tokens.specs.declared.symbols.TextFault.{TextFault as TokenFault}
use Rattle.rw_tokens.specs.declared.symbols.TextFault.TheVariants as token
use Rattle.rw_tokens.specs.Streams.{found_of}
use Rattle.rw_parser.specs.declared.errors.ReadError.{ReadError}
use Rattle.rw_parser.specs.declared.errors.ReadError.TheVariants as read
use Rattle.rw_parser.specs.Reads.{Parse, tokens_left}
use Rattle.rw_read.specs.declared.errors.TextError.{TextError}
use Rattle.rw_read.specs.declared.errors.TextFault.{TextFault}
use Rattle.rw_read.specs.declared.errors.TextFault.TheVariants as fault

-- the fault of a text that is told; want of memory is none
abbrev pub fault_in : TextFault → Option Fault
fault_in fault.BadUtf8 = Some BadUtf8
fault_in fault.BadToken = Some BadToken
fault_in fault.BadForm = Some BadForm
fault_in fault.NumberOut = Some NumberOut
fault_in fault.TooDeep = Some TooDeep
fault_in fault.Unended = Some Unended
fault_in fault.Memory = None

-- an error tells a fault with its place; or want of memory, and then line and column are 0
abbrev pub TellsFound : TextError → Found → Type 0
TellsFound e found = MatchOption (fault_in e.fault) ((e.line ≡ 0) × (e.column ≡ 0)) (λ f. found ≡ record { fault = f; at = record { line = e.line; column = e.column } })

-- an error tells the first fault of a text with its place; or want of memory, and then line and column are 0
abbrev pub Tells : List ℕ → TextError → Type 0
Tells bytes e = MatchOption (fault_in e.fault) ((e.line ≡ 0) × (e.column ≡ 0)) (λ f. reading bytes ≡ Err (record { fault = f; at = record { line = e.line; column = e.column } }))

-- a text that spells no module
abbrev pub SpellsNone : List ℕ → Type 0
SpellsNone bytes = (m : Module) → Spells bytes m → ⊥

-- a text that spells no module but this one
abbrev pub IsTheOnly : List ℕ → Module → Type 0
IsTheOnly bytes m = (n : Module) → Spells bytes n → n ≡ m

-- ---- the parts of a whole text

-- what is told of why a text is not read
abbrev pub TellsOf : ReadError → TextError → Type 0
TellsOf (read.Fault f) e = TellsFound e (found_of f)
TellsOf read.Memory e = (e.fault ≡ fault.Memory) × (e.line ≡ 0) × (e.column ≡ 0)

-- the module was read, and nothing stands behind it; or a fault was met
abbrev pub ReadsWhole : List ℕ → Module → Type 0
ReadsWhole text m = reading_tokens (lexed text) ≡ Ok m

pub record FailsWhole (text : List ℕ) (e : ReadError) : Type 0 where
  pub failed : (f : FirstFault) → e ≡ read.Fault f → reading_tokens (lexed text) ≡ Err (found_of f)

-- no token is left, and the text ends
abbrev pub EndsHere : Parse → Type 0
EndsHere p = (tokens_left p ≡ []) × ((lexed p.text).ending ≡ Unended)

-- something stands behind a module
pub record FailsBehind (p : Parse) (e : ReadError) : Type 0 where
  pub failed : (f : FirstFault) → e ≡ read.Fault f → (m : Module) → nothing_behind (lexed p.text) m (tokens_left p) (lexed p.text).ending ≡ Err (found_of f)

-- the text's end
abbrev pub ends : TokenFault → Bool
ends token.Unended = true
ends _ = false

abbrev pub is_end : ReadError → Bool
is_end (read.Fault f) = ends f.fault
is_end read.Memory = false
