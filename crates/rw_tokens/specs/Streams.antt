-- A text that is read from the left: what is left of it, and the tokens in that (this project's own).
use Rattle.std.specs.Prelude.{[], ◌∷◌, Bool, true, false, ⊤, ◌-◌, ◌≡◌, ℕ, List, Result, Ok, Err}
use Rattle.rich_text.specs.Tokens.{Token, Opening, Closing, Word, Quoted, Fault, BadUtf8, BadToken, TooDeep, NumberOut, BadForm, Unended}
use Rattle.rich_text.specs.Places.{Place}
use Rattle.rich_text.specs.Lexing.{Lexed, InBlank, stop, before, lexed_from}
use Rattle.rich_text.specs.Layout.{open_behind}
use Rattle.rich_text.specs.Texts.{Found}
use Rattle.rw_tokens.specs.declared.symbols.FirstFault.{FirstFault}
use Rattle.rw_tokens.specs.declared.symbols.Position.{Position}
use Rattle.rw_tokens.specs.declared.symbols.Symbol.{Symbol}
use Rattle.rw_tokens.specs.declared.symbols.Symbol.TheVariants as symbol
use Rattle.rw_tokens.specs.declared.symbols.TextFault.{TextFault}
use Rattle.rw_tokens.specs.declared.symbols.TextFault.TheVariants as fault
use Rattle.rw_tokens.specs.declared.symbols.TextToken.{TextToken}

-- bytes that are left, and the place of the first
pub record Remains : Type 0 where
  pub bytes : List ℕ
  pub at : Place

-- the same between two tokens, where so many lists are open
pub record Left : Type 0 where
  pub bytes : List ℕ
  pub at : Place
  pub depth : ℕ

-- the tokens that are left
abbrev pub ahead : Left → Lexed
ahead l = lexed_from l.bytes InBlank l.at l.depth

-- what the code's values stand for
abbrev pub place_of : Position → Place
place_of p = record { line = p.line; column = p.column }

abbrev pub token_of : Symbol → Token
token_of symbol.Opening = Opening
token_of symbol.Closing = Closing
token_of (symbol.Word w) = Word w
token_of (symbol.Quoted n) = Quoted n

abbrev pub fault_of : TextFault → Fault
fault_of fault.BadUtf8 = BadUtf8
fault_of fault.BadToken = BadToken
fault_of fault.BadForm = BadForm
fault_of fault.NumberOut = NumberOut
fault_of fault.TooDeep = TooDeep
fault_of fault.Unended = Unended

abbrev pub found_of : FirstFault → Found
found_of e = record { fault = fault_of e.fault; at = place_of e.at }

-- a token and what is left behind it; or what ends the tokens, and then the tokens ahead stay
abbrev pub Gives : Left → Left → Result TextToken FirstFault → Type 0
Gives old new (Ok t) = (ahead old ≡ before (token_of t.symbol) (place_of t.at) (ahead new)) × (new.depth ≡ open_behind (token_of t.symbol) old.depth)
Gives old new (Err e) = (ahead old ≡ stop (fault_of e.fault) (place_of e.at)) × (ahead new ≡ ahead old)

-- tokens that begin with no `)`
abbrev pub BeginNotClosing : List Token → Type 0
BeginNotClosing [] = ⊤
BeginNotClosing (Closing ∷ ts) = ⊥
BeginNotClosing (Opening ∷ ts) = ⊤
BeginNotClosing (Word w ∷ ts) = ⊤
BeginNotClosing (Quoted n ∷ ts) = ⊤

-- a `)` that was taken off; or none, and all is left
abbrev pub Closes : Left → Left → Bool → Type 0
Closes old new true = ((at : Place) × (ahead old ≡ before Closing at (ahead new))) × (new.depth ≡ old.depth - 1)
Closes old new false = (ahead old ≡ ahead new) × (new.depth ≡ old.depth) × BeginNotClosing (ahead old).tokens
