-- What reading a form makes of the tokens that are left, against the definition of reading (this project's own).
use Rattle.std.specs.Prelude.{⊤, ◌≤◌, false, ◌≡◌, ℕ, suc, ◌+◌, ◌-◌, ◌<◌, List, [], ◌∷◌, ◌++◌, length, Result, Ok, Err, Bool, true}
use Rattle.rich_text.specs.Forms.{Form, Meaning}
use Rattle.rich_text.specs.Tokens.{Token, Opening, Closing, Word, Quoted, Fault, BadForm, Unended, nesting_limit}
use Rattle.rich_text.specs.Places.{Place}
use Rattle.rich_text.specs.Lexing.{Lexed, lexed}
use Rattle.rich_text.specs.Grammars.{Part, PartValue, Fields, FieldsValue}
use Rattle.rich_text.specs.Reading.{Reader, Stop, headed, look_up, read_fields, read_part}
use Rattle.rich_text.specs.Texts.{found}
use Rattle.rich_text.specs.FirstVersion.{first_version}
use Rattle.rw_tokens.specs.declared.symbols.FirstFault.{FirstFault}
use Rattle.rw_tokens.specs.declared.symbols.Position.{Position}
use Rattle.rw_tokens.specs.declared.symbols.TextToken.{TextToken}
use Rattle.rw_tokens.specs.Streams.{BeginNotClosing, Left, ahead, found_of, place_of, token_of}
use Rattle.rw_parser.specs.declared.parser.FormStart.{FormStart}
use Rattle.rw_parser.specs.declared.parser.FormStart.TheVariants as start
use Rattle.rw_parser.specs.declared.errors.ReadError.{ReadError}
use Rattle.rw_parser.specs.declared.errors.ReadError.TheVariants.{Fault as a_fault}

-- a text, and what is left of it
pub record Parse : Type 0 where
  pub text : List ℕ
  pub left : Left

-- the tokens that are left
abbrev pub tokens_left : Parse → List Token
tokens_left p = (ahead p.left).tokens

-- how many lists may still open
abbrev pub room : Parse → ℕ
room p = nesting_limit - p.left.depth

-- tokens that are the last of others, and end as they do
pub record IsEnd (whole part : Lexed) : Type 0 where
  pub front : List Token
  pub fronts : List Place
  pub tokens : whole.tokens ≡ front ++ part.tokens
  pub places : whole.places ≡ fronts ++ part.places
  pub same : length front ≡ length fronts
  pub ending : whole.ending ≡ part.ending
  pub at : whole.at ≡ part.at

-- what is read: a part; the fields of a list, and its `)`; or what stands behind a head's word
pub data Wanted : Type 0 where
  a_part : Part → Wanted
  the_fields : Fields → Wanted
  behind_head : Form → List ℕ → Wanted

-- what it stands for
abbrev pub WantedValue : Wanted → Type 0
WantedValue (a_part k) = PartValue k
WantedValue (the_fields f) = FieldsValue f
WantedValue (behind_head s w) = Meaning s

-- its reader, where so many lists may open
abbrev pub reader_of : (x : Wanted) → ℕ → Reader (WantedValue x)
reader_of (a_part k) n = read_part first_version n k
reader_of (the_fields f) n = read_fields (read_part first_version n) f
reader_of (behind_head s w) n = headed (read_part first_version n) (look_up w (first_version s).heads) (first_version s).plain (Word w)

-- a value was read, and so many lists were closed
pub record Gave (x : Wanted) (closed : ℕ) (old new : Parse) (v : WantedValue x) : Type 0 where
  pub reads : reader_of x (room old) (tokens_left old) ≡ Ok (v, tokens_left new)
  pub text : new.text ≡ old.text
  pub depth : new.left.depth + closed ≡ old.left.depth
  pub shorter : length (tokens_left new) < length (tokens_left old)

-- a fault was met, at its place in the text
pub record Failed (x : Wanted) (old : Parse) (f : FirstFault) : Type 0 where
  pub stop : Stop
  pub reads : reader_of x (room old) (tokens_left old) ≡ Err stop
  pub place : found (lexed old.text) stop ≡ found_of f

-- nothing was read; want of memory alone is free
pub record Fails (x : Wanted) (old : Parse) (e : ReadError) : Type 0 where
  pub failed : (f : FirstFault) → e ≡ a_fault f → Failed x old f

-- what a reader in the code answers
abbrev pub Reads : (x : Wanted) → ℕ → Parse → Parse → Result (WantedValue x) ReadError → Type 0
Reads x closed old new (Ok v) = Gave x closed old new v
Reads x closed old new (Err e) = Fails x old e

-- a token was taken off
pub record Took (old new : Parse) (t : TextToken) : Type 0 where
  pub tokens : tokens_left old ≡ token_of t.symbol ∷ tokens_left new
  pub text : new.text ≡ old.text
  pub place : (fault : Fault) → found (lexed old.text) (record { fault = fault; left = suc (length (tokens_left new)) }) ≡ record { fault = fault; at = place_of t.at }

-- no token is left
pub record Ended (old : Parse) (f : FirstFault) : Type 0 where
  pub none : tokens_left old ≡ []
  pub place : found (lexed old.text) (record { fault = Unended; left = 0 }) ≡ found_of f

-- a word was taken off
pub record TookWord (old new : Parse) (w : List ℕ) (at : Position) : Type 0 where
  pub tokens : tokens_left old ≡ Word w ∷ tokens_left new
  pub text : new.text ≡ old.text
  pub depth : new.left.depth ≡ old.left.depth
  pub place : (fault : Fault) → found (lexed old.text) (record { fault = fault; left = suc (length (tokens_left new)) }) ≡ record { fault = fault; at = place_of at }

-- where reading stops that wants a word
abbrev pub StopsAtWord : List Token → Stop → Type 0
StopsAtWord [] e = e ≡ record { fault = Unended; left = 0 }
StopsAtWord (Word w ∷ ts) e = ⊥
StopsAtWord (Opening ∷ ts) e = e ≡ record { fault = BadForm; left = length (Opening ∷ ts) }
StopsAtWord (Closing ∷ ts) e = e ≡ record { fault = BadForm; left = length (Closing ∷ ts) }
StopsAtWord (Quoted n ∷ ts) e = e ≡ record { fault = BadForm; left = length (Quoted n ∷ ts) }

pub record NoWord (old : Parse) (f : FirstFault) : Type 0 where
  pub stop : Stop
  pub stops : StopsAtWord (tokens_left old) stop
  pub place : found (lexed old.text) stop ≡ found_of f

pub record FailsAtWord (old : Parse) (e : ReadError) : Type 0 where
  pub failed : (f : FirstFault) → e ≡ a_fault f → NoWord old f

-- a `(` and a word were taken off
pub record TookHead (old new : Parse) (w : List ℕ) (at : Position) : Type 0 where
  pub tokens : tokens_left old ≡ Opening ∷ Word w ∷ tokens_left new
  pub text : new.text ≡ old.text
  pub depth : new.left.depth ≡ suc old.left.depth
  pub within : new.left.depth ≤ nesting_limit
  pub place : (fault : Fault) → found (lexed old.text) (record { fault = fault; left = suc (length (tokens_left new)) }) ≡ record { fault = fault; at = place_of at }

-- how a form began
abbrev pub Starts : Parse → Parse → FormStart → Type 0
Starts old new (start.Word w at) = TookWord old new w at
Starts old new (start.Head w at) = TookHead old new w at

abbrev pub IsHead : Parse → Parse → FormStart → Type 0
IsHead old new (start.Word w at) = ⊥
IsHead old new (start.Head w at) = TookWord old new w at

-- where reading stops that wants a word, or a `(` and a word
abbrev pub StopsAtStart : List Token → Stop → Type 0
StopsAtStart [] e = e ≡ record { fault = Unended; left = 0 }
StopsAtStart (Word w ∷ ts) e = ⊥
StopsAtStart (Opening ∷ ts) e = StopsAtWord ts e
StopsAtStart (Closing ∷ ts) e = e ≡ record { fault = BadForm; left = length (Closing ∷ ts) }
StopsAtStart (Quoted n ∷ ts) e = e ≡ record { fault = BadForm; left = length (Quoted n ∷ ts) }

-- a `(` comes only where a list may still open
abbrev pub OpensWithin : ℕ → List Token → Type 0
OpensWithin n [] = ⊤
OpensWithin n (Opening ∷ ts) = 0 < n
OpensWithin n (Word w ∷ ts) = ⊤
OpensWithin n (Closing ∷ ts) = ⊤
OpensWithin n (Quoted x ∷ ts) = ⊤

pub record NoStart (old : Parse) (f : FirstFault) : Type 0 where
  pub stop : Stop
  pub stops : StopsAtStart (tokens_left old) stop
  pub opens : OpensWithin (room old) (tokens_left old)
  pub place : found (lexed old.text) stop ≡ found_of f

pub record FailsAtStart (old : Parse) (e : ReadError) : Type 0 where
  pub failed : (f : FirstFault) → e ≡ a_fault f → NoStart old f

-- a `)` was taken off; or none comes, and all is left
abbrev pub ClosesParse : Parse → Parse → Bool → Type 0
ClosesParse old new true = (tokens_left old ≡ Closing ∷ tokens_left new) × (new.text ≡ old.text) × (new.left.depth ≡ old.left.depth - 1)
ClosesParse old new false = (tokens_left old ≡ tokens_left new) × (new.text ≡ old.text) × (new.left.depth ≡ old.left.depth) × BeginNotClosing (tokens_left old)

-- a `(` was taken off
pub record Opened (old new : Parse) : Type 0 where
  pub tokens : tokens_left old ≡ Opening ∷ tokens_left new
  pub text : new.text ≡ old.text
  pub depth : new.left.depth ≡ suc old.left.depth
  pub within : new.left.depth ≤ nesting_limit

-- where reading stops that wants a `(`
abbrev pub StopsAtOpening : List Token → Stop → Type 0
StopsAtOpening [] e = e ≡ record { fault = Unended; left = 0 }
StopsAtOpening (Opening ∷ ts) e = ⊥
StopsAtOpening (Closing ∷ ts) e = e ≡ record { fault = BadForm; left = length (Closing ∷ ts) }
StopsAtOpening (Word w ∷ ts) e = e ≡ record { fault = BadForm; left = length (Word w ∷ ts) }
StopsAtOpening (Quoted n ∷ ts) e = e ≡ record { fault = BadForm; left = length (Quoted n ∷ ts) }

pub record NoOpening (old : Parse) (f : FirstFault) : Type 0 where
  pub stop : Stop
  pub stops : StopsAtOpening (tokens_left old) stop
  pub place : found (lexed old.text) stop ≡ found_of f

pub record FailsAtOpening (old : Parse) (e : ReadError) : Type 0 where
  pub failed : (f : FirstFault) → e ≡ a_fault f → NoOpening old f
