-- The pieces that a Rich text is divided into, each as long as it can be, and the tokens among them (this project's own).
use Rattle.std.specs.Prelude.{◌≡◌, ℕ, ◌==◌, ◌<◌, ◌≤◌, Bool, true, not, List, [], ◌∷◌, ◌++◌, ⊤, ◌⊎◌}
use Rattle.std.specs.List.{list_all}
use Rattle.rich_text.specs.Places.{Place, the_start, place_after}
use Rattle.rich_text.specs.Tokens.{Token, Opening, Closing, Word, Quoted, Fault, BadUtf8, BadToken, TooDeep, NumberOut, BadForm, Unended, is_word_byte, is_blank, is_name, nesting_limit}
use Rattle.rich_text.specs.Lexing.{Lexed, before, stop}
use Rattle.rich_text.specs.Layout.{open_behind}

-- a blank, a comment or a token
pub data Piece : Type 0 where
  Blank : Piece
  Comment : Piece
  Lone : Token → Piece

-- bytes among which one does not stand
abbrev pub free_of : ℕ → List ℕ → Bool
free_of k bs = list_all (λ b. not (b == k)) bs

-- the bytes of a piece: a comment is `;;` and what stands behind it in its line, with the line's end or without
abbrev pub Writes : Piece → List ℕ → Type 0
Writes Blank bs = (b : ℕ) × (is_blank b ≡ true) × (bs ≡ b ∷ [])
Writes Comment bs = (c : List ℕ) × (free_of 10 c ≡ true) × ((bs ≡ 59 ∷ 59 ∷ c) ⊎ (bs ≡ 59 ∷ 59 ∷ (c ++ 10 ∷ [])))
Writes (Lone Opening) bs = bs ≡ 40 ∷ []
Writes (Lone Closing) bs = bs ≡ 41 ∷ []
Writes (Lone (Word [])) bs = ⊥
Writes (Lone (Word (b ∷ w))) bs = (list_all is_word_byte (b ∷ w) ≡ true) × (bs ≡ b ∷ w)
Writes (Lone (Quoted n)) bs = (is_name n ≡ true) × (bs ≡ 34 ∷ (n ++ 34 ∷ []))

-- no longer piece begins where these bytes do
abbrev pub IsLongest : List ℕ → List ℕ → Type 0
IsLongest front back = (p : Piece) (more rest : List ℕ) → back ≡ more ++ rest → Writes p (front ++ more) → more ≡ []

-- no piece begins a text
abbrev pub BeginsNothing : List ℕ → Type 0
BeginsNothing text = (p : Piece) (front back : List ℕ) → text ≡ front ++ back → Writes p front → ⊥

-- a `(` may stand where fewer lists are open than may nest
abbrev pub MayStand : ℕ → Piece → Type 0
MayStand depth (Lone Opening) = depth < nesting_limit
MayStand depth (Lone Closing) = ⊤
MayStand depth (Lone (Word w)) = ⊤
MayStand depth (Lone (Quoted n)) = ⊤
MayStand depth Blank = ⊤
MayStand depth Comment = ⊤

-- what ends the tokens, before the rest of a text
abbrev pub EndsTokens : ℕ → List ℕ → Fault → Type 0
EndsTokens depth rest Unended = rest ≡ []
EndsTokens depth rest BadToken = (rest ≡ [] → ⊥) × BeginsNothing rest
EndsTokens depth rest TooDeep = (back : List ℕ) × (rest ≡ 40 ∷ back) × (nesting_limit ≤ depth)
EndsTokens depth rest BadUtf8 = ⊥
EndsTokens depth rest NumberOut = ⊥
EndsTokens depth rest BadForm = ⊥

-- how many lists are open behind a piece
abbrev pub open_past : Piece → ℕ → ℕ
open_past Blank depth = depth
open_past Comment depth = depth
open_past (Lone t) depth = open_behind t depth

-- a piece before the tokens behind it
abbrev pub with_piece : Piece → Place → Lexed → Lexed
with_piece Blank at l = l
with_piece Comment at l = l
with_piece (Lone t) at l = before t at l

-- a text from a place on, with so many lists open, divided into its longest pieces; their tokens with their places, and what
-- ends them
abbrev pub IsDivided : List (Piece × List ℕ) → List ℕ → Place → ℕ → Lexed → Type 0
IsDivided [] text at depth l = (fault : Fault) × EndsTokens depth text fault × (l ≡ stop fault at)
IsDivided (p ∷ ps) text at depth l =
    (back : List ℕ) × (rest : Lexed) × (text ≡ p.1 ++ back) × Writes p.0 p.1 × IsLongest p.1 back × MayStand depth p.0
    × (l ≡ with_piece p.0 at rest) × IsDivided ps back (place_after p.1 at) (open_past p.0 depth) rest

-- the tokens of a text, and what ends them
abbrev pub AreTokens : List ℕ → Lexed → Type 0
AreTokens bytes l = (pieces : List (Piece × List ℕ)) × IsDivided pieces bytes the_start 0 l
