-- Reading forms from the left, up to the first token that breaks its rule (this project's own).
use Rattle.std.specs.Prelude.{ℕ, zero, suc, if◌then◌else◌, Bool, true, false, List, [], ◌∷◌, length, Option, None, Some, Result, Ok, Err}
use Rattle.rich_text.specs.Forms.{Form}
use Rattle.rich_text.specs.Tokens.{Token, Opening, Closing, Word, Quoted, same_word, Fault, NumberOut, BadForm, Unended}
use Rattle.rich_text.specs.Numbers.{NumberRange, Number, Within, OutOfRange, NoNumber, number_of}
use Rattle.rich_text.specs.Grammars.{Part, a_number, a_name, a_form, PartValue, Fields, done, one, many, parts, PartsValue, begins, FieldsValue, Row, Shape, Grammar}

-- a fault, and how many tokens there are from its own on
pub record Stop : Type 0 where
  pub fault : Fault
  pub left : ℕ

-- a value and the tokens behind it, or the first fault
abbrev pub Reader : Type 0 → Type 0
Reader A = List Token → Result (A × List Token) Stop

-- reading on behind a value
abbrev pub and_then : {A B : Type 0} → Result (A × List Token) Stop → (A → Reader B) → Result (B × List Token) Stop
and_then (Ok r) next = next r.0 r.1
and_then (Err e) next = Err e

infixl 10 ◌>>=◌
abbrev pub ◌>>=◌ : {A B : Type 0} → Reader A → (A → Reader B) → Reader B
◌>>=◌ first next = λ ts. and_then (first ts) next

abbrev pub give : {A : Type 0} → A → Reader A
give a = λ ts. Ok (a, ts)

-- a fault at the first of these tokens
abbrev pub fail_at : {A : Type 0} → Fault → List Token → Result (A × List Token) Stop
fail_at fault ts = Err (record { fault = fault; left = length ts })

-- the entry of a word in a table
abbrev pub look_up : {X : Type 0} → List ℕ → List (List ℕ × X) → Option X
look_up w [] = None
look_up w (e ∷ es) = if same_word e.0 w then Some e.1 else look_up w es

-- a `)`
abbrev pub read_close : Reader (Unit {0})
read_close [] = fail_at Unended []
read_close (Closing ∷ ts) = Ok (tt, ts)
read_close (t ∷ ts) = fail_at BadForm (t ∷ ts)

-- a string
abbrev pub read_name : Reader (List ℕ)
read_name [] = fail_at Unended []
read_name (Quoted n ∷ ts) = Ok (n, ts)
read_name (t ∷ ts) = fail_at BadForm (t ∷ ts)

abbrev pub number_or : Number → List ℕ → List Token → Result (ℕ × List Token) Stop
number_or (Within n) w ts = Ok (n, ts)
number_or OutOfRange w ts = fail_at NumberOut (Word w ∷ ts)
number_or NoNumber w ts = fail_at BadForm (Word w ∷ ts)

-- a number
abbrev pub read_number : NumberRange → Reader ℕ
read_number k [] = fail_at Unended []
read_number k (Word w ∷ ts) = number_or (number_of k w) w ts
read_number k (t ∷ ts) = fail_at BadForm (t ∷ ts)

-- values up to a `)`, of which there are no more than `fuel`
abbrev pub read_many : {A : Type 0} → Reader A → ℕ → Reader (List A)
read_many item zero ts = fail_at Unended ts
read_many item (suc fuel) [] = fail_at Unended []
read_many item (suc fuel) (Closing ∷ ts) = Ok ([], ts)
read_many item (suc fuel) (t ∷ ts) = (do
  x ← item
  xs ← read_many item fuel
  give (x ∷ xs)) (t ∷ ts)

-- lists that begin with a word, and then the rest
abbrev pub read_run : {A B : Type 0} → List ℕ → Reader A → Reader B → ℕ → Reader (List A × B)
read_run w item rest zero ts = fail_at Unended ts
read_run w item rest (suc fuel) ts = if begins w ts
    then (do
      x ← item
      r ← read_run w item rest fuel
      give (x ∷ r.0, r.1)) ts
    else (do
      b ← rest
      give ([], b)) ts

-- a `)`, where a list might have begun
abbrev pub read_last : Reader (Unit {0})
read_last [] = fail_at Unended []
read_last (Closing ∷ ts) = Ok (tt, ts)
read_last (Opening ∷ []) = fail_at Unended []
read_last (Opening ∷ t ∷ ts) = fail_at BadForm (t ∷ ts)
read_last (t ∷ ts) = fail_at BadForm (t ∷ ts)

abbrev pub read_parts : ((k : Part) → Reader (PartValue k)) → (ps : List (Form × List ℕ)) → Reader (PartsValue ps)
read_parts item [] = read_last
read_parts item (p ∷ ps) = λ ts. read_run p.1 (item (a_form p.0)) (read_parts item ps) (suc (length ts)) ts

-- the fields of a list, and its `)`
abbrev pub read_fields : ((k : Part) → Reader (PartValue k)) → (f : Fields) → Reader (FieldsValue f)
read_fields item done = read_close
read_fields item (one k f) = do
  v ← item k
  w ← read_fields item f
  give (v, w)
read_fields item (many k) = λ ts. read_many (item k) (length ts) ts
read_fields item (parts ps) = read_parts item ps

-- a row, behind the word that it begins with
abbrev pub read_row : ((k : Part) → Reader (PartValue k)) → {X : Type 0} → Row X → Reader X
read_row item row = do
  v ← read_fields item row.fields
  give (row.make v)

abbrev pub row_or : ((k : Part) → Reader (PartValue k)) → {X : Type 0} → Option (Row X) → Reader X
row_or item (Some row) ts = read_row item row ts
row_or item None [] = fail_at Unended []
row_or item None (t ∷ ts) = fail_at BadForm (t ∷ ts)

-- the row of a word, or else the form that begins with none
abbrev pub headed : ((k : Part) → Reader (PartValue k)) → {X : Type 0} → Option (Row X) → Option (Row X) → Token → List Token → Result (X × List Token) Stop
headed item (Some row) plain t ts = read_row item row ts
headed item None plain t ts = row_or item plain (t ∷ ts)

-- what stands behind `(`
abbrev pub read_inside : ((k : Part) → Reader (PartValue k)) → {X : Type 0} → Shape X → Reader X
read_inside item shape (Word w ∷ ts) = headed item (look_up w shape.heads) shape.plain (Word w) ts
read_inside item shape ts = row_or item shape.plain ts

abbrev pub word_or : {X : Type 0} → Option X → Token → List Token → Result (X × List Token) Stop
word_or (Some x) t ts = Ok (x, ts)
word_or None t ts = fail_at BadForm (t ∷ ts)

-- whether a shape has a form in parentheses
abbrev pub has_lists : {X : Type 0} → List (List ℕ × Row X) → Option (Row X) → Bool
has_lists [] None = false
has_lists [] (Some row) = true
has_lists (h ∷ hs) plain = true

-- a `(`, where one may stand
abbrev pub opens : {X : Type 0} → Bool → Reader X → Reader X
opens true inside ts = inside ts
opens false inside ts = fail_at BadForm (Opening ∷ ts)

-- a word, or a list
abbrev pub read_form : {X : Type 0} → Reader X → Shape X → Reader X
read_form inside shape [] = fail_at Unended []
read_form inside shape (Word w ∷ ts) = word_or (look_up w shape.words) (Word w) ts
read_form inside shape (Opening ∷ ts) = opens (has_lists shape.heads shape.plain) inside ts
read_form inside shape (t ∷ ts) = fail_at BadForm (t ∷ ts)

-- one thing, in which at most so many lists nest
abbrev pub read_part : Grammar → ℕ → (k : Part) → Reader (PartValue k)
read_part G n (a_number k) = read_number k
read_part G n a_name = read_name
read_part G zero (a_form s) = read_form (λ ts. fail_at Unended ts) (G s)
read_part G (suc n) (a_form s) = read_form (read_inside (read_part G n) (G s)) (G s)
