-- What the lexer's own functions make of the bytes that are left (this project's own).
use Rattle.std.specs.Prelude.{◌≡◌, ℕ, ◌+◌, ◌==◌, ◌&&◌, Bool, false, List, [], ◌∷◌, drop, Option, None, Some, MatchOption, MatchBool, nat_lt, nat_le}
use Rattle.rich_text.specs.Tokens.{is_blank}
use Rattle.rich_text.specs.Places.{place_behind}
use Rattle.rich_text.specs.Lexing.{Inside, lexed_from}
use Rattle.rw_tokens.specs.Streams.{Remains}

-- the first byte
abbrev pub first_of : List ℕ → Option ℕ
first_of [] = None
first_of (b ∷ bs) = Some b

-- a byte that was taken off, or none
abbrev pub TakesByte : Remains → Remains → Option ℕ → Type 0
TakesByte old new result = MatchOption result ((old.bytes ≡ []) × (new.bytes ≡ []) × (new.at ≡ old.at)) (λ b. (old.bytes ≡ b ∷ new.bytes) × (new.at ≡ place_behind b old.at))

-- a quote that was taken off, or none
abbrev pub TakesQuote : Remains → Remains → Bool → Type 0
TakesQuote old new came = MatchBool came ((old.bytes ≡ 34 ∷ new.bytes) × (new.at ≡ place_behind 34 old.at)) ((bs : List ℕ) → old.bytes ≡ 34 ∷ bs → ⊥)

-- whether a name can have so many bytes
abbrev pub fits_name : ℕ → Bool
fits_name n = nat_lt 0 n && nat_le n 64

-- so many bytes passed by, among which no line ends
abbrev pub along : ℕ → Remains → Remains
along n r = record { bytes = drop n r.bytes; at = record { line = r.at.line; column = r.at.column + n } }

abbrev pub begins_blank : List ℕ → Bool
begins_blank [] = false
begins_blank (b ∷ bs) = is_blank b

abbrev pub begins_comment : List ℕ → Bool
begins_comment [] = false
begins_comment (b ∷ []) = false
begins_comment (b ∷ c ∷ bs) = b == 59 && c == 59

-- the tokens ahead stay
abbrev pub Skips : Inside → Remains → Inside → Remains → Type 0
Skips inside old within new = (depth : ℕ) → lexed_from old.bytes inside old.at depth ≡ lexed_from new.bytes within new.at depth

-- bytes of which the first is no blank and begins no comment, parenthesis or name
abbrev pub IsNoMark : List ℕ → Type 0
IsNoMark [] = ⊥
IsNoMark (b ∷ bs) = (is_blank b ≡ false) × (begins_comment (b ∷ bs) ≡ false) × ((b == 40) ≡ false) × ((b == 41) ≡ false) × ((b == 34) ≡ false)
