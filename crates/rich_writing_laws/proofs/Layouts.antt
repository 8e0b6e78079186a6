-- Tokens that are laid out behind a token, where so many lists are open: what stands between them depends on that token alone.
use Rattle.std.proofs.Common.{◌≡◌, ◌∙◌, ℕ, suc, ◌-◌, Bool, false, List, [], ◌∷◌, ◌++◌, refl, sym, ap, append_assoc, arith}
use Rattle.std.specs.Prelude.{◌==◌, if◌then◌else◌}
use Rattle.std.proofs.lemmas.Bool.{ne_eqb}
use Rattle.rich_text.specs.Forms.{Form}
use Rattle.rich_text.specs.Tokens.{Token, Opening, Closing, Word, Quoted}
use Rattle.rich_text.specs.Grammars.{Part, a_form, PartValue, Fields, done, one, many, parts, PartsValue, FieldsValue, Shape}
use Rattle.rich_text.specs.Canonical.{View, by_word, by_row, by_plain, each_tokens, run_tokens, part_tokens, field_tokens, view_tokens}
use Rattle.rich_text.specs.Layout.{bytes_of, open_behind, gap, laid_out}
use Rattle.rich_text.specs.Writable.{Each, AllParts, AllFields, AllInside}
use Rattle.rich_text_laws.proofs.Writing.{Writer, Test}
use Rattle.rich_writing.specs.Pieces.{spaced, in_parentheses, quoted}

-- what is laid out behind a token
abbrev pub laid_behind : ℕ → Token → List Token → List ℕ
laid_behind depth t [] = 10 ∷ []
laid_behind depth t (u ∷ us) = gap depth t u ++ (bytes_of u ++ laid_behind (open_behind u depth) u us)

pub laid_first : (depth : ℕ) (t : Token) (ts : List Token) → laid_out depth (t ∷ ts) ≡ bytes_of t ++ laid_behind (open_behind t depth) t ts
laid_first depth t [] = refl
laid_first depth t (u ∷ us) = ap (λ (r : List ℕ). bytes_of t ++ (gap (open_behind t depth) t u ++ r)) (laid_first (open_behind t depth) u us)

pub behind_word : (depth : ℕ) (w : List ℕ) (us : List Token) → laid_behind depth (Word w) us ≡ laid_behind depth Closing us
behind_word depth w [] = refl
behind_word depth w (u ∷ us) = refl

behind_name : (depth : ℕ) (n : List ℕ) (us : List Token) → laid_behind depth (Quoted n) us ≡ laid_behind depth Closing us
behind_name depth n [] = refl
behind_name depth n (u ∷ us) = refl

-- the space before a form
abbrev pub space : Token → List ℕ
space Opening = []
space Closing = 32 ∷ []
space (Word w) = 32 ∷ []
space (Quoted n) = 32 ∷ []

-- tokens that are laid out inside a field as these bytes
abbrev pub Lays : List Token → List ℕ → Type 0
Lays ts b = (e : ℕ) (p : Token) (us : List Token) → laid_behind (suc (suc e)) p (ts ++ us) ≡ space p ++ (b ++ laid_behind (suc (suc e)) Closing us)

pub word_lays : (w : List ℕ) → Lays (Word w ∷ []) w
word_lays w e Opening us = ap (λ (r : List ℕ). w ++ r) (behind_word (suc (suc e)) w us)
word_lays w e Closing us = ap (λ (r : List ℕ). 32 ∷ (w ++ r)) (behind_word (suc (suc e)) w us)
word_lays w e (Word v) us = ap (λ (r : List ℕ). 32 ∷ (w ++ r)) (behind_word (suc (suc e)) w us)
word_lays w e (Quoted n) us = ap (λ (r : List ℕ). 32 ∷ (w ++ r)) (behind_word (suc (suc e)) w us)

pub name_lays : (n : List ℕ) → Lays (Quoted n ∷ []) (quoted n)
name_lays n e Opening us = ap (λ (r : List ℕ). quoted n ++ r) (behind_name (suc (suc e)) n us)
name_lays n e Closing us = ap (λ (r : List ℕ). 32 ∷ (quoted n ++ r)) (behind_name (suc (suc e)) n us)
name_lays n e (Word v) us = ap (λ (r : List ℕ). 32 ∷ (quoted n ++ r)) (behind_name (suc (suc e)) n us)
name_lays n e (Quoted v) us = ap (λ (r : List ℕ). 32 ∷ (quoted n ++ r)) (behind_name (suc (suc e)) n us)

-- ---- fields

-- forms behind a token: the first of a list has no space before it
abbrev pub joined : Token → List (List ℕ) → List ℕ
joined Opening [] = []
joined Opening (f ∷ fs) = f ++ spaced fs
joined Closing fs = spaced fs
joined (Word w) fs = spaced fs
joined (Quoted n) fs = spaced fs

joined-cons : (p : Token) (f : List ℕ) (fs : List (List ℕ)) → space p ++ (f ++ spaced fs) ≡ joined p (f ∷ fs)
joined-cons Opening f fs = refl
joined-cons Closing f fs = refl
joined-cons (Word w) f fs = refl
joined-cons (Quoted n) f fs = refl

-- tokens that are laid out as these forms and a `)`
abbrev pub FieldsLay : List Token → List (List ℕ) → Type 0
FieldsLay ts fs = (e : ℕ) (p : Token) (us : List Token) → laid_behind (suc (suc e)) p (ts ++ us) ≡ joined p fs ++ (41 ∷ laid_behind (suc e) Closing us)

-- no line ends inside a field
inside : (e : ℕ) → (suc (suc e) == 1) ≡ false
inside e = ne_eqb (suc (suc e)) 1 (λ q. omega (arith, q))

closed_tight : (e : ℕ) (us : List Token) → (if suc (suc e) == 1 then 10 ∷ [] else []) ++ (41 ∷ laid_behind (suc (suc e) - 1) Closing us) ≡ 41 ∷ laid_behind (suc e) Closing us
closed_tight e us =
    ap (λ (b : Bool). (if b then 10 ∷ [] else []) ++ (41 ∷ laid_behind (suc (suc e) - 1) Closing us)) (inside e)
    ∙ ap (λ (n : ℕ). 41 ∷ laid_behind n Closing us) (let q : suc (suc e) - 1 ≡ suc e = omega arith in q)

pub closing_lays : FieldsLay (Closing ∷ []) []
closing_lays e Opening us = closed_tight e us
closing_lays e Closing us = closed_tight e us
closing_lays e (Word w) us = closed_tight e us
closing_lays e (Quoted n) us = closed_tight e us

pub cons_lays : (ts rest : List Token) (b : List ℕ) (fs : List (List ℕ)) → Lays ts b → FieldsLay rest fs → FieldsLay (ts ++ rest) (b ∷ fs)
cons_lays ts rest b fs h g e p us =
    let tail = 41 ∷ laid_behind (suc e) Closing us in
    ap (laid_behind (suc (suc e)) p) (append_assoc ts rest us)
    ∙ h e p (rest ++ us)
    ∙ ap (λ (r : List ℕ). space p ++ (b ++ r)) (g e Closing us)
    ∙ ap (λ (r : List ℕ). space p ++ r) (sym (append_assoc b (spaced fs) tail))
    ∙ sym (append_assoc (space p) (b ++ spaced fs) tail)
    ∙ ap (λ (r : List ℕ). r ++ tail) (joined-cons p b fs)

-- ---- texts of fields, by those of their parts

abbrev pub PartText : Type 0
PartText = (k : Part) → PartValue k → List ℕ

abbrev pub run_texts : {A : Type 0} → (A → List ℕ) → List (List ℕ) → List A → List (List ℕ)
run_texts text rest [] = rest
run_texts text rest (x ∷ xs) = text x ∷ run_texts text rest xs

abbrev pub parts_texts : PartText → (ps : List (Form × List ℕ)) → PartsValue ps → List (List ℕ)
parts_texts text [] v = []
parts_texts text (p ∷ ps) v = run_texts (text (a_form p.0)) (parts_texts text ps v.1) v.0

abbrev pub fields_texts : PartText → (f : Fields) → FieldsValue f → List (List ℕ)
fields_texts text done v = []
fields_texts text (one k f) v = text k v.0 ∷ fields_texts text f v.1
fields_texts text (many k) v = run_texts (text k) [] v
fields_texts text (parts ps) v = parts_texts text ps v

abbrev pub view_text : PartText → {X : Type 0} {shape : Shape X} → View shape → List ℕ
view_text text (by_word w) = w
view_text text (by_row w {row} e v) = in_parentheses (w ∷ fields_texts text row.fields v)
view_text text (by_plain {row} e v) = in_parentheses (fields_texts text row.fields v)

module _ (item : Writer) (P : Test) (text : PartText) (h : (k : Part) (v : PartValue k) → P k v → Lays (item k v) (text k v)) where
  each_lay : (k : Part) (vs : List (PartValue k)) → Each (P k) vs → FieldsLay (each_tokens (item k) vs) (run_texts (text k) [] vs)
  each_lay k [] a = closing_lays
  each_lay k (v ∷ vs) a = cons_lays (item k v) (each_tokens (item k) vs) (text k v) (run_texts (text k) [] vs) (h k v a.0) (each_lay k vs a.1)

  run_lay : (k : Part) (rest : List Token) (fs : List (List ℕ)) → FieldsLay rest fs → (vs : List (PartValue k)) → Each (P k) vs → FieldsLay (run_tokens (item k) rest vs) (run_texts (text k) fs vs)
  run_lay k rest fs g [] a = g
  run_lay k rest fs g (v ∷ vs) a = cons_lays (item k v) (run_tokens (item k) rest vs) (text k v) (run_texts (text k) fs vs) (h k v a.0) (run_lay k rest fs g vs a.1)

  parts_lay : (ps : List (Form × List ℕ)) (v : PartsValue ps) → AllParts P ps v → FieldsLay (part_tokens item ps v) (parts_texts text ps v)
  parts_lay [] v a = closing_lays
  parts_lay (p ∷ ps) v a = run_lay (a_form p.0) (part_tokens item ps v.1) (parts_texts text ps v.1) (parts_lay ps v.1 a.1) v.0 a.0

  pub fields_lay : (f : Fields) (v : FieldsValue f) → AllFields P f v → FieldsLay (field_tokens item f v) (fields_texts text f v)
  fields_lay done v a = closing_lays
  fields_lay (one k f) v a = cons_lays (item k v.0) (field_tokens item f v.1) (text k v.0) (fields_texts text f v.1) (h k v.0 a.0) (fields_lay f v.1 a.1)
  fields_lay (many k) v a = each_lay k v a
  fields_lay (parts ps) v a = parts_lay ps v a

-- ---- lists

closed : (fs : List (List ℕ)) (r : List ℕ) → 40 ∷ (joined Opening fs ++ (41 ∷ r)) ≡ in_parentheses fs ++ r
closed [] r = refl
closed (f ∷ fs) r =
    ap (λ (x : List ℕ). 40 ∷ x) (append_assoc f (spaced fs) (41 ∷ r) ∙ ap (λ (x : List ℕ). f ++ x) (sym (append_assoc (spaced fs) (41 ∷ []) r)) ∙ sym (append_assoc f (spaced fs ++ 41 ∷ []) r))

opened_apart : (e : ℕ) (ts us : List Token) → (if suc (suc e) == 1 then 10 ∷ [] else 32 ∷ []) ++ (40 ∷ laid_behind (suc (suc (suc e))) Opening (ts ++ us)) ≡ 32 ∷ 40 ∷ laid_behind (suc (suc (suc e))) Opening (ts ++ us)
opened_apart e ts us = ap (λ (b : Bool). (if b then 10 ∷ [] else 32 ∷ []) ++ (40 ∷ laid_behind (suc (suc (suc e))) Opening (ts ++ us))) (inside e)

opened : (e : ℕ) (p : Token) (ts us : List Token) → laid_behind (suc (suc e)) p (Opening ∷ (ts ++ us)) ≡ space p ++ (40 ∷ laid_behind (suc (suc (suc e))) Opening (ts ++ us))
opened e Opening ts us = ap (λ (b : Bool). (if b then 10 ∷ [] else []) ++ (40 ∷ laid_behind (suc (suc (suc e))) Opening (ts ++ us))) (inside e)
opened e Closing ts us = opened_apart e ts us
opened e (Word w) ts us = opened_apart e ts us
opened e (Quoted n) ts us = opened_apart e ts us

pub list_lays : (ts : List Token) (fs : List (List ℕ)) → FieldsLay ts fs → Lays (Opening ∷ ts) (in_parentheses fs)
list_lays ts fs h e p us =
    opened e p ts us
    ∙ ap (λ (r : List ℕ). space p ++ (40 ∷ r)) (h (suc e) Opening us)
    ∙ ap (λ (r : List ℕ). space p ++ r) (closed fs (laid_behind (suc (suc e)) Closing us))

-- a field stands on a line
pub line_lays : (ts : List Token) (fs : List (List ℕ)) → FieldsLay ts fs → (p : Token) (us : List Token) → laid_behind 1 p (Opening ∷ (ts ++ us)) ≡ 10 ∷ (in_parentheses fs ++ laid_behind 1 Closing us)
line_lays ts fs h p us =
    ap (λ (r : List ℕ). 10 ∷ 40 ∷ r) (h 0 Opening us)
    ∙ ap (λ (r : List ℕ). 10 ∷ r) (closed fs (laid_behind 1 Closing us))

module _ (item : Writer) (P : Test) (text : PartText) (h : (k : Part) (v : PartValue k) → P k v → Lays (item k v) (text k v)) where
  pub view_lays : {X : Type 0} {shape : Shape X} (view : View shape) → AllInside P view → Lays (view_tokens item view) (view_text text view)
  view_lays (by_word w) a = word_lays w
  view_lays (by_row w {row} e v) a =
      list_lays (Word w ∷ field_tokens item row.fields v) (w ∷ fields_texts text row.fields v)
      (cons_lays (Word w ∷ []) (field_tokens item row.fields v) w (fields_texts text row.fields v) (word_lays w) (fields_lay item P text h row.fields v a))
  view_lays (by_plain {row} e v) a = list_lays (field_tokens item row.fields v) (fields_texts text row.fields v) (fields_lay item P text h row.fields v a)
