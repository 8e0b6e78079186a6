-- The tokens at the front of a text, up to the first byte that begins none, read byte by byte (this project's own).
use Rattle.std.specs.Prelude.{ℕ, suc, ◌-◌, ◌==◌, nat_lt, if◌then◌else◌, List, [], ◌∷◌, reverse}
use Rattle.rich_text.specs.Places.{Place, the_start, place_behind}
use Rattle.rich_text.specs.Tokens.{Token, Opening, Closing, Word, Quoted, Fault, BadToken, TooDeep, Unended, is_word_byte, is_blank, is_name, nesting_limit}

-- tokens and their places; what ends them, where: the first byte that begins no token, a `(` too deep, or the text's end
pub record Lexed : Type 0 where
  pub tokens : List Token
  pub places : List Place
  pub ending : Fault
  pub at : Place

-- where reading bytes stands: between tokens, in a comment, behind one `;`, or in a word or a name that began at a place
pub data Inside : Type 0 where
  InBlank : Inside
  InComment : Inside
  AfterSemicolon : Place → Inside
  InWord : Place → List ℕ → Inside
  InName : Place → List ℕ → Inside

-- no further token
abbrev pub stop : Fault → Place → Lexed
stop fault at = record { tokens = []; places = []; ending = fault; at = at }

-- a token before others
abbrev pub before : Token → Place → Lexed → Lexed
before t at s = record { tokens = t ∷ s.tokens; places = at ∷ s.places; ending = s.ending; at = s.at }

-- what a byte between tokens begins, with so many lists open, where `go` reads on
abbrev pub begun : (Inside → ℕ → Lexed) → Place → ℕ → ℕ → Lexed
begun go at depth b =
    if is_blank b then go InBlank depth
    else (if b == 40 then (if nat_lt depth nesting_limit then before Opening at (go InBlank (suc depth)) else stop TooDeep at)
    else (if b == 41 then before Closing at (go InBlank (depth - 1))
    else (if is_word_byte b then go (InWord at (b ∷ [])) depth
    else (if b == 34 then go (InName at []) depth
    else (if b == 59 then go (AfterSemicolon at) depth
    else stop BadToken at)))))

-- reading on, with so many lists open
abbrev pub lexed_from : List ℕ → Inside → Place → ℕ → Lexed
lexed_from [] InBlank at depth = stop Unended at
lexed_from [] InComment at depth = stop Unended at
lexed_from [] (AfterSemicolon from) at depth = stop BadToken from
lexed_from [] (InWord from w) at depth = before (Word (reverse w)) from (stop Unended at)
lexed_from [] (InName from n) at depth = stop BadToken from
lexed_from (b ∷ bs) InBlank at depth = begun (λ i. lexed_from bs i (place_behind b at)) at depth b
lexed_from (b ∷ bs) InComment at depth = if b == 10 then lexed_from bs InBlank (place_behind b at) depth else lexed_from bs InComment (place_behind b at) depth
lexed_from (b ∷ bs) (AfterSemicolon from) at depth = if b == 59 then lexed_from bs InComment (place_behind b at) depth else stop BadToken from
lexed_from (b ∷ bs) (InWord from w) at depth =
    if is_word_byte b then lexed_from bs (InWord from (b ∷ w)) (place_behind b at) depth
    else before (Word (reverse w)) from (begun (λ i. lexed_from bs i (place_behind b at)) at depth b)
lexed_from (b ∷ bs) (InName from n) at depth =
    if b == 34 then (if is_name (reverse n) then before (Quoted (reverse n)) from (lexed_from bs InBlank (place_behind b at) depth) else stop BadToken from)
    else lexed_from bs (InName from (b ∷ n)) (place_behind b at) depth

-- the tokens of a text
abbrev pub lexed : List ℕ → Lexed
lexed bytes = lexed_from bytes InBlank the_start 0
