-- The tokens of Rich texts, and what is wrong with a text that spells no module (this project's own).
use Rattle.std.specs.Prelude.{ℕ, ◌==◌, ◌||◌, ◌&&◌, nat_lt, nat_le, Bool, true, false, if◌then◌else◌, List, [], ◌∷◌, length}
use Rattle.std.specs.List.{list_all}
use Rattle.std.specs.Char.{is_ascii_alphanumeric, is_ascii_digit, is_ascii_lowercase}

-- `(`, `)`, a word, and a name between quotes
pub data Token : Type 0 where
  Opening : Token
  Closing : Token
  Word : List ℕ → Token
  Quoted : List ℕ → Token

-- why a text spells no module
pub data Fault : Type 0 where
  BadUtf8 : Fault
  BadToken : Fault
  TooDeep : Fault
  NumberOut : Fault
  BadForm : Fault
  Unended : Fault

-- whether two words are one
abbrev pub same_word : List ℕ → List ℕ → Bool
same_word [] [] = true
same_word (x ∷ xs) (y ∷ ys) = if x == y then same_word xs ys else false
same_word _ _ = false

-- letters, digits, `_`, `.` and `-`
abbrev pub is_word_byte : ℕ → Bool
is_word_byte b = is_ascii_alphanumeric b || b == 95 || b == 46 || b == 45

-- space, tab, newline and carriage return
abbrev pub is_blank : ℕ → Bool
is_blank b = b == 32 || b == 9 || b == 10 || b == 13

-- small letters, digits and `_`
abbrev pub is_name_byte : ℕ → Bool
is_name_byte b = is_ascii_lowercase b || is_ascii_digit b || b == 95

-- 1 to 64 of these
abbrev pub is_name : List ℕ → Bool
is_name bytes = nat_lt 0 (length bytes) && nat_le (length bytes) 64 && list_all is_name_byte bytes

-- how many lists may nest
abbrev pub nesting_limit : ℕ
nesting_limit = 200
