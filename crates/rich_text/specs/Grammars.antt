-- A grammar of forms as data: fields, rows of a table, and what their tokens spell (this project's own).
use Rattle.std.specs.Prelude.{ℕ, zero, suc, ◌≡◌, List, [], ◌∷◌, ◌++◌, ⊤, Option, None, Some, Bool, true, false, not, ◌⊎◌}
use Rattle.rich_text.specs.Forms.{Form, Meaning}
use Rattle.rich_text.specs.Tokens.{Token, Opening, Closing, Word, Quoted, same_word}
use Rattle.rich_text.specs.Numbers.{NumberRange, Index, number_of, Within}

-- one thing in a list
pub data Part : Type 0 where
  a_number : NumberRange → Part
  a_name : Part
  a_form : Form → Part

-- what it stands for
abbrev pub PartValue : Part → Type 0
PartValue (a_number k) = ℕ
PartValue a_name = List ℕ
PartValue (a_form s) = Meaning s

-- what stands in a list, up to its `)`
pub data Fields : Type 0 where
  done : Fields
  one : Part → Fields → Fields
  many : Part → Fields
  -- lists of some forms, each form after the other, with the word that a list of it begins with
  parts : List (Form × List ℕ) → Fields

abbrev pub PartsValue : List (Form × List ℕ) → Type 0
PartsValue [] = ⊤
PartsValue (p ∷ ps) = List (Meaning p.0) × PartsValue ps

-- what fields stand for
abbrev pub FieldsValue : Fields → Type 0
FieldsValue done = ⊤
FieldsValue (one k f) = PartValue k × FieldsValue f
FieldsValue (many k) = List (PartValue k)
FieldsValue (parts ps) = PartsValue ps

-- a form in parentheses: its fields, and what they make
pub record Row (X : Type 0) : Type 0 where
  pub fields : Fields
  pub make : FieldsValue fields → X

-- the words that stand alone; the forms that begin with a word; or else the form that begins with none
pub record Shape (X : Type 0) : Type 0 where
  pub words : List (List ℕ × X)
  pub heads : List (List ℕ × Row X)
  pub plain : Option (Row X)

-- a grammar: a shape for each form
abbrev pub Grammar : Type 0
Grammar = (s : Form) → Shape (Meaning s)

-- ---- rows and shapes, as tables write them

-- a number without a sign
abbrev pub index : Part
index = a_number Index

-- a form that is one of these words
abbrev pub words : {X : Type 0} → List (List ℕ × X) → Shape X
words table = record { words = table; heads = []; plain = None }

-- a form in parentheses that begins with no word
abbrev pub list : {X : Type 0} → Row X → Shape X
list row = record { words = []; heads = []; plain = Some row }

-- a form in parentheses that begins with one of these words
abbrev pub heads : {X : Type 0} → List (List ℕ × Row X) → Shape X
heads table = record { words = []; heads = table; plain = None }

abbrev pub row : {X : Type 0} (fields : Fields) → (FieldsValue fields → X) → Row X
row fields make = record { fields = fields; make = make }

-- a table has an entry
abbrev pub Has : {X : Type 0} → List (List ℕ × X) → List ℕ → X → Type 0
Has [] w x = ⊥
Has (e ∷ es) w x = ((e.0 ≡ w) × (e.1 ≡ x)) ⊎ Has es w x

-- tokens in two parts
pub record Joined (P Q : List Token → Type 0) (ts : List Token) : Type 0 where
  pub front : List Token
  pub back : List Token
  pub first : P front
  pub second : Q back
  pub whole : ts ≡ front ++ back

-- things, each behind the one before, and a `)`
abbrev pub IsEach : {A : Type 0} → (A → List Token → Type 0) → List A → List Token → Type 0
IsEach P [] ts = ts ≡ Closing ∷ []
IsEach P (x ∷ xs) ts = Joined (P x) (IsEach P xs) ts

-- tokens that begin a list with this word; tokens that begin another list or none
abbrev pub begins : List ℕ → List Token → Bool
begins w (Opening ∷ Word u ∷ ts) = same_word u w
begins w _ = false

abbrev pub apart : List ℕ → List Token → Bool
apart w (Closing ∷ ts) = true
apart w (Opening ∷ Word u ∷ ts) = not (same_word u w)
apart w _ = false

-- lists that begin with a word, and what stands behind the last of them
abbrev pub IsRun : {A : Type 0} → (A → List Token → Type 0) → List ℕ → (List Token → Type 0) → List A → List Token → Type 0
IsRun P w Rest [] ts = (apart w ts ≡ true) × Rest ts
IsRun P w Rest (x ∷ xs) ts = (begins w ts ≡ true) × Joined (P x) (IsRun P w Rest xs) ts

abbrev pub IsParts : ((k : Part) → PartValue k → List Token → Type 0) → (ps : List (Form × List ℕ)) → PartsValue ps → List Token → Type 0
IsParts P [] v ts = ts ≡ Closing ∷ []
IsParts P (p ∷ ps) v ts = IsRun (P (a_form p.0)) p.1 (IsParts P ps v.1) v.0 ts

-- the tokens of fields and the `)` behind them
abbrev pub SpellsFields : ((k : Part) → PartValue k → List Token → Type 0) → (f : Fields) → FieldsValue f → List Token → Type 0
SpellsFields P done v ts = ts ≡ Closing ∷ []
SpellsFields P (one k f) v ts = Joined (P k v.0) (SpellsFields P f v.1) ts
SpellsFields P (many k) v ts = IsEach (P k) v ts
SpellsFields P (parts ps) v ts = IsParts P ps v ts

-- a value of a row, by its fields
abbrev pub SpellsRow : ((k : Part) → PartValue k → List Token → Type 0) → {X : Type 0} → Row X → X → List Token → Type 0
SpellsRow P row x ts = (v : FieldsValue row.fields) × (x ≡ row.make v) × SpellsFields P row.fields v ts

-- what stands behind `(`
abbrev pub SpellsInside : ((k : Part) → PartValue k → List Token → Type 0) → {X : Type 0} → Shape X → X → List Token → Type 0
SpellsInside P {X} shape x ts =
    ((w : List ℕ) × (more : List Token) × (row : Row X) × Has shape.heads w row × SpellsRow P row x more × (ts ≡ Word w ∷ more))
    ⊎ ((row : Row X) × (shape.plain ≡ Some row) × SpellsRow P row x ts)

-- a word, or a list with what stands behind its `(`
abbrev pub SpellsForm : (inside : List Token → Type 0) → {X : Type 0} → Shape X → X → List Token → Type 0
SpellsForm inside shape x ts =
    ((w : List ℕ) × Has shape.words w x × (ts ≡ Word w ∷ [])) ⊎ ((more : List Token) × inside more × (ts ≡ Opening ∷ more))

-- a word that writes a number
abbrev pub SpellsNumber : NumberRange → ℕ → List Token → Type 0
SpellsNumber k n ts = (w : List ℕ) × (number_of k w ≡ Within n) × (ts ≡ Word w ∷ [])

-- the tokens of one thing, in which at most so many lists nest
abbrev pub SpellsPart : Grammar → ℕ → (k : Part) → PartValue k → List Token → Type 0
SpellsPart G n (a_number k) v ts = SpellsNumber k v ts
SpellsPart G n a_name v ts = ts ≡ Quoted v ∷ []
SpellsPart G zero (a_form s) v ts = SpellsForm (λ more. ⊥) (G s) v ts
SpellsPart G (suc n) (a_form s) v ts = SpellsForm (SpellsInside (SpellsPart G n) (G s) v) (G s) v ts
