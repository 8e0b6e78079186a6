-- The canonical tokens of values, by how each value is written (this project's own).
use Rattle.std.specs.Prelude.{ℕ, zero, suc, ◌≡◌, ◌+◌, ◌-◌, ◌/◌, ◌%◌, ◌^◌, nat_lt, if◌then◌else◌, List, [], ◌∷◌, ◌++◌, Some}
use Rattle.rich_text.specs.Forms.{Form, Meaning}
use Rattle.rich_text.specs.Tokens.{Token, Opening, Closing, Word, Quoted}
use Rattle.rich_text.specs.Numbers.{NumberRange, Index, Constant32, Constant64}
use Rattle.rich_text.specs.Grammars.{Part, a_number, a_name, a_form, PartValue, Fields, done, one, many, parts, PartsValue, FieldsValue, Row, Shape, Grammar}
use Rattle.rich_text.specs.Reading.{look_up}

-- how a value is written: a word, a row and its fields, or the form that begins with no word
pub data View {X : Type 0} (shape : Shape X) : Type 0 where
  by_word : (w : List ℕ) → View shape
  by_row : (w : List ℕ) {row : Row X} → look_up w shape.heads ≡ Some row → FieldsValue row.fields → View shape
  by_plain : {row : Row X} → shape.plain ≡ Some row → FieldsValue row.fields → View shape

-- that it is written so
abbrev pub Makes : {X : Type 0} (shape : Shape X) → View shape → X → Type 0
Makes shape (by_word w) x = look_up w shape.words ≡ Some x
Makes shape (by_row w {row} e v) x = x ≡ row.make v
Makes shape (by_plain {row} e v) x = x ≡ row.make v

-- how the values of each form are written
abbrev pub Views : Grammar → Type 0
Views G = (s : Form) → Meaning s → View (G s)

-- decimal digits before others
abbrev pub digits_from : ℕ → ℕ → List ℕ → List ℕ
digits_from zero n ds = ds
digits_from (suc fuel) n ds = if nat_lt n 10 then (48 + n) ∷ ds else digits_from fuel (n / 10) ((48 + n % 10) ∷ ds)

-- a number below 2 ^ 64 in decimal
abbrev pub decimal_word : ℕ → List ℕ
decimal_word n = digits_from 20 n []

-- constants are written with their signs
abbrev pub number_word : NumberRange → ℕ → List ℕ
number_word Index n = decimal_word n
number_word Constant32 n = if nat_lt n (2 ^ 31) then decimal_word n else 45 ∷ decimal_word (2 ^ 32 - n)
number_word Constant64 n = if nat_lt n (2 ^ 63) then decimal_word n else 45 ∷ decimal_word (2 ^ 64 - n)

-- values and the `)` behind them
abbrev pub each_tokens : {A : Type 0} → (A → List Token) → List A → List Token
each_tokens item [] = Closing ∷ []
each_tokens item (x ∷ xs) = item x ++ each_tokens item xs

abbrev pub run_tokens : {A : Type 0} → (A → List Token) → List Token → List A → List Token
run_tokens item rest [] = rest
run_tokens item rest (x ∷ xs) = item x ++ run_tokens item rest xs

abbrev pub part_tokens : ((k : Part) → PartValue k → List Token) → (ps : List (Form × List ℕ)) → PartsValue ps → List Token
part_tokens item [] v = Closing ∷ []
part_tokens item (p ∷ ps) v = run_tokens (item (a_form p.0)) (part_tokens item ps v.1) v.0

abbrev pub field_tokens : ((k : Part) → PartValue k → List Token) → (f : Fields) → FieldsValue f → List Token
field_tokens item done v = Closing ∷ []
field_tokens item (one k f) v = item k v.0 ++ field_tokens item f v.1
field_tokens item (many k) v = each_tokens (item k) v
field_tokens item (parts ps) v = part_tokens item ps v

abbrev pub view_tokens : ((k : Part) → PartValue k → List Token) → {X : Type 0} {shape : Shape X} → View shape → List Token
view_tokens item (by_word w) = Word w ∷ []
view_tokens item (by_row w {row} e v) = Opening ∷ Word w ∷ field_tokens item row.fields v
view_tokens item (by_plain {row} e v) = Opening ∷ field_tokens item row.fields v

-- where no list may open, a word is all that is written
abbrev pub word_tokens : {X : Type 0} {shape : Shape X} → View shape → List Token
word_tokens (by_word w) = Word w ∷ []
word_tokens (by_row w e v) = []
word_tokens (by_plain e v) = []

-- the canonical tokens of a thing, where no more than so many lists nest
abbrev pub tokens_of : (G : Grammar) → Views G → ℕ → (k : Part) → PartValue k → List Token
tokens_of G views n (a_number k) v = Word (number_word k v) ∷ []
tokens_of G views n a_name v = Quoted v ∷ []
tokens_of G views zero (a_form s) v = word_tokens (views s v)
tokens_of G views (suc n) (a_form s) v = view_tokens (tokens_of G views n) (views s v)
