-- Canonical tokens spell their value, for every grammar whose lists of fields begin with words of their own.
use Rattle.std.proofs.Common.{◌≡◌, ◌∙◌, ℕ, zero, suc, Bool, true, false, List, [], ◌∷◌, ◌++◌, refl, sym, ap, inl, inr, Some}
use Rattle.std.specs.Prelude.{⊤, not, if◌then◌else◌}
use Rattle.std.proofs.lemmas.Bool.{false≢true, cases_Bool}
use Rattle.rich_text.specs.Forms.{Form, Meaning}
use Rattle.rich_text.specs.Tokens.{Token, Opening, Closing, Word, Quoted, same_word}
use Rattle.rich_text.specs.Grammars.{Part, a_number, a_name, a_form, PartValue, Fields, done, one, many, parts, PartsValue, FieldsValue, Row, Shape, Grammar, begins, apart, IsEach, IsRun, IsParts, SpellsFields, SpellsInside, SpellsForm, SpellsPart}
use Rattle.rich_text.specs.Reading.{look_up}
use Rattle.rich_text.specs.Canonical.{View, by_word, by_row, by_plain, Views, Makes, number_word, each_tokens, run_tokens, part_tokens, field_tokens, view_tokens, word_tokens, tokens_of}
use Rattle.rich_text.specs.Writable.{Each, AllParts, AllFields, AllInside, IsWord, CanWrite}
use Rattle.rich_text_laws.proofs.Decimals.{number-written}
use Rattle.rich_text_laws.proofs.Looking.{same_sound, absent_case, present_case, from_look}

-- how things are written, and which can be
abbrev pub Writer : Type 0
Writer = (k : Part) → PartValue k → List Token

abbrev pub Test : Type 1
Test = (k : Part) → PartValue k → Type 0

-- a list of a form begins with its word
abbrev pub BeginsWith : Writer → Test → Form × List ℕ → Type 0
BeginsWith item P p = (x : Meaning p.0) → P (a_form p.0) x → (rest : List Token) → begins p.1 (item (a_form p.0) x ++ rest) ≡ true

abbrev pub AllBegin : Writer → Test → List (Form × List ℕ) → Type 0
AllBegin item P [] = ⊤
AllBegin item P (p ∷ ps) = BeginsWith item P p × AllBegin item P ps

-- no list of another form begins with this word, and each word begins those of one form
abbrev pub no_form_begins : List ℕ → List (Form × List ℕ) → Bool
no_form_begins w [] = true
no_form_begins w (p ∷ ps) = if same_word w p.1 then false else no_form_begins w ps

abbrev pub words_differ : List (Form × List ℕ) → Bool
words_differ [] = true
words_differ (p ∷ ps) = if no_form_begins p.1 ps then words_differ ps else false

-- the lists in these fields begin with words of their own
abbrev pub AreHeaded : Writer → Test → Fields → Type 0
AreHeaded item P done = ⊤
AreHeaded item P (one k f) = AreHeaded item P f
AreHeaded item P (many k) = ⊤
AreHeaded item P (parts ps) = (words_differ ps ≡ true) × AllBegin item P ps

each_spells : {A : Type 0} (item : A → List Token) (P : A → Type 0) (Q : A → List Token → Type 0) → ((x : A) → P x → Q x (item x)) → (xs : List A) → Each P xs → IsEach Q xs (each_tokens item xs)
each_spells item P Q h [] f = refl
each_spells item P Q h (x ∷ xs) f = record { front = item x; back = each_tokens item xs; first = h x f.0; second = each_spells item P Q h xs f.1; whole = refl }

-- tokens that begin with one word don't begin with another
same_apart : (u w p : List ℕ) → same_word u p ≡ true → same_word w p ≡ false → not (same_word u w) ≡ true
same_apart u w p same other =
    elim (cases_Bool (same_word u w)) [
      | inl t ↦ absurd (false≢true (sym other ∙ ap (λ x. same_word x p) (sym (same_sound u w t)) ∙ same))
      | inr f ↦ ap not f
    ]

begins_apart : (w p : List ℕ) (ts : List Token) → begins p ts ≡ true → same_word w p ≡ false → apart w ts ≡ true
begins_apart w p (Opening ∷ Word u ∷ ts) e other = same_apart u w p e other
begins_apart w p [] e other = absurd (false≢true e)
begins_apart w p (Closing ∷ ts) e other = refl
begins_apart w p (Word u ∷ ts) e other = absurd (false≢true e)
begins_apart w p (Quoted u ∷ ts) e other = absurd (false≢true e)
begins_apart w p (Opening ∷ []) e other = absurd (false≢true e)
begins_apart w p (Opening ∷ Opening ∷ ts) e other = absurd (false≢true e)
begins_apart w p (Opening ∷ Closing ∷ ts) e other = absurd (false≢true e)
begins_apart w p (Opening ∷ Quoted u ∷ ts) e other = absurd (false≢true e)

apart_first : (item : Writer) (P : Test) (w : List ℕ) (p : Form × List ℕ) (rest : List Token) → BeginsWith item P p → same_word w p.1 ≡ false → apart w rest ≡ true → (xs : List (Meaning p.0)) → Each (P (a_form p.0)) xs → apart w (run_tokens (item (a_form p.0)) rest xs) ≡ true
apart_first item P w p rest b other e [] f = e
apart_first item P w p rest b other e (x ∷ xs) f = begins_apart w p.1 (item (a_form p.0) x ++ run_tokens (item (a_form p.0)) rest xs) (b x f.0 (run_tokens (item (a_form p.0)) rest xs)) other

apart_parts : (item : Writer) (P : Test) (w : List ℕ) (ps : List (Form × List ℕ)) (v : PartsValue ps) → AllBegin item P ps → AllParts P ps v → no_form_begins w ps ≡ true → apart w (part_tokens item ps v) ≡ true
apart_parts item P w [] v b f e = refl
apart_parts item P w (p ∷ ps) v b f e =
    let t = absent_case (same_word w p.1) (no_form_begins w ps) e in
    apart_first item P w p (part_tokens item ps v.1) b.0 t.0 (apart_parts item P w ps v.1 b.1 f.1 t.1) v.0 f.0

-- what spells each part
abbrev Spelling : Type 1
Spelling = (k : Part) → PartValue k → List Token → Type 0

run_spells : (item : Writer) (P : Test) (Q : Spelling) (Rest : List Token → Type 0) (p : Form × List ℕ) (rest : List Token) → ((k : Part) (v : PartValue k) → P k v → Q k v (item k v)) → BeginsWith item P p → apart p.1 rest ≡ true → Rest rest → (xs : List (Meaning p.0)) → Each (P (a_form p.0)) xs → IsRun (Q (a_form p.0)) p.1 Rest xs (run_tokens (item (a_form p.0)) rest xs)
run_spells item P Q Rest p rest h b e r [] f = (e, r)
run_spells item P Q Rest p rest h b e r (x ∷ xs) f =
    let more = run_tokens (item (a_form p.0)) rest xs in
    (b x f.0 more, record { front = item (a_form p.0) x; back = more; first = h (a_form p.0) x f.0; second = run_spells item P Q Rest p rest h b e r xs f.1; whole = refl })

parts_spell : (item : Writer) (P : Test) (Q : Spelling) → ((k : Part) (v : PartValue k) → P k v → Q k v (item k v)) → (ps : List (Form × List ℕ)) (v : PartsValue ps) → words_differ ps ≡ true → AllBegin item P ps → AllParts P ps v → IsParts Q ps v (part_tokens item ps v)
parts_spell item P Q h [] v d b f = refl
parts_spell item P Q h (p ∷ ps) v d b f =
    let t = present_case (no_form_begins p.1 ps) (words_differ ps) d in
    run_spells item P Q (IsParts Q ps v.1) p (part_tokens item ps v.1) h b.0 (apart_parts item P p.1 ps v.1 b.1 f.1 t.0) (parts_spell item P Q h ps v.1 t.1 b.1 f.1) v.0 f.0

fields_spell : (item : Writer) (P : Test) (Q : Spelling) → ((k : Part) (v : PartValue k) → P k v → Q k v (item k v)) → (f : Fields) (v : FieldsValue f) → AreHeaded item P f → AllFields P f v → SpellsFields Q f v (field_tokens item f v)
fields_spell item P Q h done v b f = refl
fields_spell item P Q h (one k g) v b f = record { front = item k v.0; back = field_tokens item g v.1; first = h k v.0 f.0; second = fields_spell item P Q h g v.1 b f.1; whole = refl }
fields_spell item P Q h (many k) v b f = each_spells (item k) (P k) (Q k) (h k) v f
fields_spell item P Q h (parts ps) v b f = parts_spell item P Q h ps v b.0 b.1 f

-- the rows of a shape have such fields
pub record IsHeaded (item : Writer) (P : Test) {X : Type 0} (shape : Shape X) : Type 0 where
  pub heads : (w : List ℕ) (row : Row X) → look_up w shape.heads ≡ Some row → AreHeaded item P row.fields
  pub plain : (row : Row X) → shape.plain ≡ Some row → AreHeaded item P row.fields

view_spells : (item : Writer) (P : Test) (Q : Spelling) → ((k : Part) (v : PartValue k) → P k v → Q k v (item k v)) → {X : Type 0} (shape : Shape X) → IsHeaded item P shape → (x : X) (view : View shape) → Makes shape view x → AllInside P view → SpellsForm (SpellsInside Q shape x) shape x (view_tokens item view)
view_spells item P Q h shape b x (by_word w) made f = inl (w, from_look shape.words w x made, refl)
view_spells item P Q h shape b x (by_row w {row} e v) made f =
    let ts = field_tokens item row.fields v in
    inr (Word w ∷ ts, inl (w, ts, row, from_look shape.heads w row e, (v, made, fields_spell item P Q h row.fields v (b.heads w row e) f), refl), refl)
view_spells item P Q h shape b x (by_plain {row} e v) made f =
    let ts = field_tokens item row.fields v in
    inr (ts, inr (row, e, (v, made, fields_spell item P Q h row.fields v (b.plain row e) f)), refl)

word_spells : {X : Type 0} (shape : Shape X) (x : X) (view : View shape) → Makes shape view x → IsWord view → SpellsForm (λ more. ⊥) shape x (word_tokens view)
word_spells shape x (by_word w) made f = inl (w, from_look shape.words w x made, refl)
word_spells shape x (by_row w e v) made f = absurd f
word_spells shape x (by_plain e v) made f = absurd f

pub canonical_spells : (G : Grammar) (views : Views G) → ((s : Form) (x : Meaning s) → Makes (G s) (views s x) x) → ((n : ℕ) (s : Form) → IsHeaded (tokens_of G views n) (CanWrite G views n) (G s)) → (n : ℕ) (k : Part) (v : PartValue k) → CanWrite G views n k v → SpellsPart G n k v (tokens_of G views n k v)
canonical_spells G views made headed n (a_number k) v f = (number_word k v, number-written k v f, refl)
canonical_spells G views made headed n a_name v f = refl
canonical_spells G views made headed zero (a_form s) v f = word_spells (G s) v (views s v) (made s v) f
canonical_spells G views made headed (suc n) (a_form s) v f =
    view_spells (tokens_of G views n) (CanWrite G views n) (SpellsPart G n) (canonical_spells G views made headed n) (G s) (headed n s) v (views s v) (made s v) f
