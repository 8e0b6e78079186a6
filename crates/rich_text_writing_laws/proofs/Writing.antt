-- What is spelled by version 1, of tokens whose names are names, can be written.
use Rattle.std.proofs.Common.{ℕ, zero, suc, List, [], ◌∷◌, sym, subst, inl, inr}
use Rattle.rich_text.specs.Forms.{Form, Meaning, module_form}
use Rattle.rich_text.specs.Tokens.{Token, nesting_limit}
use Rattle.rich_text.specs.Lexing.{lexed}
use Rattle.rich_text.specs.Grammars.{Part, a_number, a_name, a_form, PartValue, Fields, done, one, many, parts, PartsValue, FieldsValue, Joined, IsEach, IsRun, IsParts, SpellsFields, SpellsRow, SpellsInside, SpellsPart, Row, Shape}
use Rattle.rich_text.specs.Canonical.{View, by_word, by_row, by_plain}
use Rattle.rich_text.specs.FirstVersion.{first_version}
use Rattle.rich_text.specs.Views.{views}
use Rattle.rich_text.specs.Texts.{third}
use Rattle.rich_text.specs.Writable.{Each, AllParts, AllFields, AllInside, IsWord, CanWrite}
use Rattle.rich_text_laws.proofs.Canonical.{canonical_text_spells, canonical_is_read}
use Rattle.rich_text_laws.proofs.Whole.{read_is_spelled}
use Rattle.rich_text_fault_laws.proofs.Versions.{by_token}
use Rattle.rich_text_writing_laws.specs.Laws.{ReadAgain, SpelledIsWritable}
use Rattle.rich_text_writing_laws.proofs.Kept.{Kept, word_kept, head_kept, plain_kept}
use Rattle.rich_text_writing_laws.proofs.Named.{AreNamed, named_front, named_back, lexed_named}
use Rattle.rich_text_writing_laws.proofs.Ranges.{in_range}

word_inside : (P : (k : Part) → PartValue k → Type 0) {X : Type 0} {shape : Shape X} (v : View shape) → IsWord v → AllInside P v
word_inside P (by_word w) h = tt
word_inside P (by_row w e v) h = absurd h
word_inside P (by_plain e v) h = absurd h

-- ---- fields, of parts that are settled

module _ (S : (k : Part) → PartValue k → List Token → Type 0) (P : (k : Part) → PartValue k → Type 0) (settled : (k : Part) (v : PartValue k) (ts : List Token) → AreNamed ts → S k v ts → P k v) where
  joined_front : {A B : List Token → Type 0} (ts : List Token) → AreNamed ts → (j : Joined A B ts) → AreNamed j.front
  joined_front ts n j = named_front j.front j.back (subst AreNamed j.whole n)

  joined_back : {A B : List Token → Type 0} (ts : List Token) → AreNamed ts → (j : Joined A B ts) → AreNamed j.back
  joined_back ts n j = named_back j.front j.back (subst AreNamed j.whole n)

  each : (k : Part) (vs : List (PartValue k)) (ts : List Token) → AreNamed ts → IsEach (S k) vs ts → Each (P k) vs
  each k [] ts n h = tt
  each k (v ∷ vs) ts n h = (settled k v h.front (joined_front ts n h) h.first, each k vs h.back (joined_back ts n h) h.second)

  run : {R : List Token → Type 0} {Q : Type 0} (k : Part) (w : List ℕ) → ((ts : List Token) → AreNamed ts → R ts → Q) → (vs : List (PartValue k)) (ts : List Token) → AreNamed ts → IsRun (S k) w R vs ts → Each (P k) vs × Q
  run k w rest [] ts n h = (tt, rest ts n h.1)
  run k w rest (v ∷ vs) ts n h =
      let j = h.1 in
      let more = run k w rest vs j.back (joined_back ts n j) j.second in
      ((settled k v j.front (joined_front ts n j) j.first, more.0), more.1)

  in_parts : (ps : List (Form × List ℕ)) (v : PartsValue ps) (ts : List Token) → AreNamed ts → IsParts S ps v ts → AllParts P ps v
  in_parts [] v ts n h = tt
  in_parts (p ∷ ps) v ts n h = run (a_form p.0) p.1 (λ us m g. in_parts ps v.1 us m g) v.0 ts n h

  fields : (f : Fields) (v : FieldsValue f) (ts : List Token) → AreNamed ts → SpellsFields S f v ts → AllFields P f v
  fields done v ts n h = tt
  fields (one k f) v ts n h = (settled k v.0 h.front (joined_front ts n h) h.first, fields f v.1 h.back (joined_back ts n h) h.second)
  fields (many k) v ts n h = each k v ts n h
  fields (parts ps) v ts n h = in_parts ps v ts n h

  row : (s : Form) (r : Row (Meaning s)) → Kept P s r → (x : Meaning s) (ts : List Token) → AreNamed ts → SpellsRow S r x ts → AllInside P (views s x)
  row s r k x ts n h = subst (λ y. AllInside P (views s y)) (sym h.1) (k h.0 (fields r.fields h.0 ts n h.2))

  inside : (s : Form) (x : Meaning s) (ts : List Token) → AreNamed ts → SpellsInside S (first_version s) x ts → AllInside P (views s x)
  inside s x ts n (inl h) = row s h.2 (head_kept P s h.0 h.2 h.3) x h.1 (subst AreNamed h.5 n).1 h.4
  inside s x ts n (inr h) = row s h.0 (plain_kept P s h.0 h.1) x ts n h.2

-- ---- parts

can_write : (n : ℕ) (k : Part) (v : PartValue k) (ts : List Token) → AreNamed ts → SpellsPart first_version n k v ts → CanWrite first_version views n k v
can_write n (a_number k) v ts m h = in_range k h.0 v h.1
can_write n a_name v ts m h = (subst AreNamed h m).0
can_write zero (a_form s) v ts m (inl h) = word_kept s h.0 v h.1
can_write zero (a_form s) v ts m (inr h) = absurd h.1
can_write (suc n) (a_form s) v ts m (inl h) = word_inside (CanWrite first_version views n) (views s v) (word_kept s h.0 v h.1)
can_write (suc n) (a_form s) v ts m (inr h) = inside (SpellsPart first_version n) (CanWrite first_version views n) (can_write n) s v h.0 (subst AreNamed h.2 m).1 h.1

pub spelled_is_writable : SpelledIsWritable
spelled_is_writable bytes m h =
    let ts = (lexed bytes).tokens in
    can_write nesting_limit (a_form module_form) m ts (lexed_named bytes) (subst (λ G. SpellsPart G nesting_limit (a_form module_form) m ts) (by_token (third ts)) h.spelled)

pub read_again : ReadAgain
read_again bytes m e =
    let w = spelled_is_writable bytes m (read_is_spelled bytes m e) in
    (canonical_text_spells m w, canonical_is_read m w)
