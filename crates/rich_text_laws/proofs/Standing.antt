-- Canonical tokens can stand in a text: their words are words, and no list is too deep.
use Rattle.std.proofs.Common.{◌≡◌, ◌∙◌, ℕ, zero, suc, ◌+◌, ◌-◌, ◌^◌, ◌<◌, ◌≤◌, Bool, true, false, List, [], ◌∷◌, ◌++◌, refl, sym, ap, subst, inl, inr, append_assoc, arith}
use Rattle.std.specs.Prelude.{if◌then◌else◌, ◌==◌, ◌||◌}
use Rattle.std.specs.List.{list_all}
use Rattle.std.specs.Int.{is_in_range}
use Rattle.std.specs.Char.{is_ascii_digit}
use Rattle.std.proofs.lemmas.Bool.{false≢true, and_parts, and_from}
use Rattle.rich_text.specs.Forms.{Form, Meaning}
use Rattle.rich_text.specs.Tokens.{Token, Word, is_word_byte, nesting_limit}
use Rattle.rich_text.specs.Numbers.{NumberRange, Index, Constant32, Constant64}
use Rattle.rich_text.specs.Grammars.{Part, a_number, a_name, a_form, PartValue, Fields, done, one, many, parts, PartsValue, FieldsValue, Shape, Grammar, Has}
use Rattle.rich_text.specs.Canonical.{View, by_word, by_row, by_plain, Views, Makes, decimal_word, number_word, each_tokens, run_tokens, part_tokens, field_tokens, view_tokens, word_tokens, tokens_of}
use Rattle.rich_text.specs.Writable.{IsInRange, Each, AllParts, AllFields, AllInside, IsWord, CanWrite}
use Rattle.rich_text_laws.proofs.Decimals.{Leads, decimal-leads}
use Rattle.rich_text_laws.proofs.Laid.{IsToken, LieWithin}
use Rattle.rich_text_laws.proofs.Looking.{from_look, present_case}
use Rattle.rich_text_laws.proofs.Writing.{Writer, Test}

-- ---- words

abbrev pub is_word : List ℕ → Bool
is_word [] = false
is_word (b ∷ bs) = list_all is_word_byte (b ∷ bs)

pub word_token : (w : List ℕ) → is_word w ≡ true → IsToken (Word w)
word_token [] e = false≢true e
word_token (b ∷ bs) e = e

abbrev pub are_words : {X : Type 0} → List (List ℕ × X) → Bool
are_words [] = true
are_words (e ∷ es) = if is_word e.0 then are_words es else false

table_word : {X : Type 0} (es : List (List ℕ × X)) (w : List ℕ) (x : X) → are_words es ≡ true → Has es w x → IsToken (Word w)
table_word [] w x e h = absurd h
table_word (y ∷ es) w x e (inl h) = word_token w (sym (ap is_word h.0) ∙ (present_case (is_word y.0) (are_words es) e).0)
table_word (y ∷ es) w x e (inr h) = table_word es w x (present_case (is_word y.0) (are_words es) e).1 h

digit_word : (b : ℕ) → is_ascii_digit b ≡ true → is_word_byte b ≡ true
digit_word b h = ap (λ x. ((((x || is_in_range 65 90 b) || is_in_range 97 122 b) || b == 95) || b == 46) || b == 45) h

digits_word : (bs : List ℕ) → list_all is_ascii_digit bs ≡ true → list_all is_word_byte bs ≡ true
digits_word [] h = refl
digits_word (b ∷ bs) h =
    let p = and_parts (is_ascii_digit b) (list_all is_ascii_digit bs) h in
    and_from (is_word_byte b) (list_all is_word_byte bs) (digit_word b p.0) (digits_word bs p.1)

leads_word : (w : List ℕ) → Leads w → is_word w ≡ true
leads_word w l = ap is_word l.is ∙ digits_word (l.first ∷ l.others) (sym (ap (list_all is_ascii_digit) l.is) ∙ l.all)

decimal-is_word : (n : ℕ) → n < 10 ^ 20 → is_word (decimal_word n) ≡ true
decimal-is_word zero h = refl
decimal-is_word (suc n) h = leads_word (decimal_word (suc n)) (decimal-leads (suc n) (omega arith) h)

signed-is_word : (w : List ℕ) → is_word w ≡ true → is_word (45 ∷ w) ≡ true
signed-is_word [] h = refl
signed-is_word (b ∷ bs) h = h

either_word : (b : Bool) (v w : List ℕ) → is_word v ≡ true → is_word w ≡ true → is_word (if b then v else w) ≡ true
either_word true v w h g = h
either_word false v w h g = g

number-is_word : (k : NumberRange) (n : ℕ) → IsInRange k n → is_word (number_word k n) ≡ true
number-is_word Index n h = decimal-is_word n (omega arith)
number-is_word Constant32 n h = either_word _ (decimal_word n) (45 ∷ decimal_word (2 ^ 32 - n)) (decimal-is_word n (omega arith)) (signed-is_word (decimal_word (2 ^ 32 - n)) (decimal-is_word (2 ^ 32 - n) (omega arith)))
number-is_word Constant64 n h = either_word _ (decimal_word n) (45 ∷ decimal_word (2 ^ 64 - n)) (decimal-is_word n (omega arith)) (signed-is_word (decimal_word (2 ^ 64 - n)) (decimal-is_word (2 ^ 64 - n) (omega arith)))

-- ---- forms

-- what a writer writes before tokens lies within a text, where so many lists may be open before it
abbrev pub Lies : ℕ → Writer → Test → Type 0
Lies n item P = (k : Part) (v : PartValue k) → P k v → (depth : ℕ) → depth + n ≤ nesting_limit → (rest : List Token) → LieWithin depth rest → LieWithin depth (item k v ++ rest)

joined_lie : (depth : ℕ) (front back rest : List Token) → LieWithin depth (front ++ (back ++ rest)) → LieWithin depth ((front ++ back) ++ rest)
joined_lie depth front back rest h = subst (λ ts. LieWithin depth ts) (sym (append_assoc front back rest)) h

each_lie : {A : Type 0} (item : A → List Token) (P : A → Type 0) (depth : ℕ) → ((x : A) → P x → (rest : List Token) → LieWithin depth rest → LieWithin depth (item x ++ rest)) → (xs : List A) → Each P xs → (rest : List Token) → LieWithin (depth - 1) rest → LieWithin depth (each_tokens item xs ++ rest)
each_lie item P depth h [] f rest r = (tt, tt, r)
each_lie item P depth h (x ∷ xs) f rest r =
    joined_lie depth (item x) (each_tokens item xs) rest (h x f.0 (each_tokens item xs ++ rest) (each_lie item P depth h xs f.1 rest r))

run_lie : {A : Type 0} (item : A → List Token) (P : A → Type 0) (depth : ℕ) → ((x : A) → P x → (rest : List Token) → LieWithin depth rest → LieWithin depth (item x ++ rest)) → (behind : List Token) (xs : List A) → Each P xs → (rest : List Token) → LieWithin depth (behind ++ rest) → LieWithin depth (run_tokens item behind xs ++ rest)
run_lie item P depth h behind [] f rest r = r
run_lie item P depth h behind (x ∷ xs) f rest r =
    joined_lie depth (item x) (run_tokens item behind xs) rest (h x f.0 (run_tokens item behind xs ++ rest) (run_lie item P depth h behind xs f.1 rest r))

parts_lie : (n : ℕ) (item : Writer) (P : Test) → Lies n item P → (ps : List (Form × List ℕ)) (v : PartsValue ps) → AllParts P ps v → (depth : ℕ) → depth + n ≤ nesting_limit → (rest : List Token) → LieWithin (depth - 1) rest → LieWithin depth (part_tokens item ps v ++ rest)
parts_lie n item P h [] v f depth d rest r = (tt, tt, r)
parts_lie n item P h (p ∷ ps) v f depth d rest r =
    run_lie (item (a_form p.0)) (P (a_form p.0)) depth (λ x g. h (a_form p.0) x g depth d) (part_tokens item ps v.1) v.0 f.0 rest (parts_lie n item P h ps v.1 f.1 depth d rest r)

fields_lie : (n : ℕ) (item : Writer) (P : Test) → Lies n item P → (g : Fields) (v : FieldsValue g) → AllFields P g v → (depth : ℕ) → depth + n ≤ nesting_limit → (rest : List Token) → LieWithin (depth - 1) rest → LieWithin depth (field_tokens item g v ++ rest)
fields_lie n item P h done v f depth d rest r = (tt, tt, r)
fields_lie n item P h (one k g) v f depth d rest r =
    joined_lie depth (item k v.0) (field_tokens item g v.1) rest (h k v.0 f.0 depth d (field_tokens item g v.1 ++ rest) (fields_lie n item P h g v.1 f.1 depth d rest r))
fields_lie n item P h (many k) v f depth d rest r = each_lie (item k) (P k) depth (λ x g. h k x g depth d) v f rest r
fields_lie n item P h (parts ps) v f depth d rest r = parts_lie n item P h ps v f depth d rest r

-- the fields of a list that opens, and its `)`
opened_lie : (n : ℕ) (item : Writer) (P : Test) → Lies n item P → (g : Fields) (v : FieldsValue g) → AllFields P g v → (depth : ℕ) → depth + suc n ≤ nesting_limit → (rest : List Token) → LieWithin depth rest → LieWithin (suc depth) (field_tokens item g v ++ rest)
opened_lie n item P h g v f depth d rest r =
    fields_lie n item P h g v f (suc depth) (omega arith) rest (subst (λ k. LieWithin k rest) (let e : depth ≡ suc depth - 1 = omega arith in e) r)

-- the words of a shape are words
pub record IsWorded {X : Type 0} (shape : Shape X) : Type 0 where
  pub words : are_words shape.words ≡ true
  pub heads : are_words shape.heads ≡ true

view_lies : (n : ℕ) (item : Writer) (P : Test) → Lies n item P → {X : Type 0} (shape : Shape X) → IsWorded shape → (x : X) (view : View shape) → Makes shape view x → AllInside P view → (depth : ℕ) → depth + suc n ≤ nesting_limit → (rest : List Token) → LieWithin depth rest → LieWithin depth (view_tokens item view ++ rest)
view_lies n item P h shape w x (by_word u) made f depth d rest r = (table_word shape.words u x w.words (from_look shape.words u x made), tt, r)
view_lies n item P h shape w x (by_row u {row} e v) made f depth d rest r =
    let below : depth < nesting_limit = omega arith in
    (tt, below, (table_word shape.heads u row w.heads (from_look shape.heads u row e), tt, opened_lie n item P h row.fields v f depth d rest r))
view_lies n item P h shape w x (by_plain {row} e v) made f depth d rest r =
    let below : depth < nesting_limit = omega arith in (tt, below, opened_lie n item P h row.fields v f depth d rest r)

word_lies : {X : Type 0} (shape : Shape X) → IsWorded shape → (x : X) (view : View shape) → Makes shape view x → IsWord view → (depth : ℕ) (rest : List Token) → LieWithin depth rest → LieWithin depth (word_tokens view ++ rest)
word_lies shape w x (by_word u) made f depth rest r = (table_word shape.words u x w.words (from_look shape.words u x made), tt, r)
word_lies shape w x (by_row u e v) made f depth rest r = absurd f
word_lies shape w x (by_plain e v) made f depth rest r = absurd f

pub canonical_lies : (G : Grammar) (views : Views G) → ((s : Form) (x : Meaning s) → Makes (G s) (views s x) x) → ((s : Form) → IsWorded (G s)) → (n : ℕ) → Lies n (tokens_of G views n) (CanWrite G views n)
canonical_lies G views made worded n (a_number k) v f depth d rest r = (word_token (number_word k v) (number-is_word k v f), tt, r)
canonical_lies G views made worded n a_name v f depth d rest r = (f, tt, r)
canonical_lies G views made worded zero (a_form s) v f depth d rest r = word_lies (G s) (worded s) v (views s v) (made s v) f depth rest r
canonical_lies G views made worded (suc n) (a_form s) v f depth d rest r =
    view_lies n (tokens_of G views n) (CanWrite G views n) (canonical_lies G views made worded n) (G s) (worded s) v (views s v) (made s v) f depth d rest r
