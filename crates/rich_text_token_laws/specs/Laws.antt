-- The tokens of a text (this project's own).
use Rattle.std.specs.Prelude.{◌≡◌, ℕ, List}
use Rattle.rich_text.specs.Lexing.{Lexed, lexed}
use Rattle.rich_text_token_laws.specs.Pieces.{AreTokens}

-- what is lexed are the tokens of the longest pieces
abbrev pub LexedAreTokens : Type 0
LexedAreTokens = (bytes : List ℕ) → AreTokens bytes (lexed bytes)

-- and there are no others
abbrev pub NoOtherTokens : Type 0
NoOtherTokens = (bytes : List ℕ) (l : Lexed) → AreTokens bytes l → l ≡ lexed bytes
