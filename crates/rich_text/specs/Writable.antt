-- The values that canonical texts write: numbers in their ranges, names that are names, lists that nest no deeper than they may
-- (this project's own).
use Rattle.std.specs.Prelude.{ℕ, zero, suc, ◌^◌, ◌<◌, List, [], ◌∷◌, ⊤, IsTrue}
use Rattle.rw_types.specs.declared.modules.Module.{Module}
use Rattle.rich_text.specs.Forms.{Form, module_form}
use Rattle.rich_text.specs.Tokens.{is_name, nesting_limit}
use Rattle.rich_text.specs.Numbers.{NumberRange, Index, Constant32, Constant64}
use Rattle.rich_text.specs.Grammars.{Part, a_number, a_name, a_form, PartValue, Fields, done, one, many, parts, PartsValue, FieldsValue, Shape, Grammar}
use Rattle.rich_text.specs.Canonical.{View, by_word, by_row, by_plain, Views}
use Rattle.rich_text.specs.FirstVersion.{first_version}
use Rattle.rich_text.specs.Views.{views}

-- constants are kept modulo 2 to their width
abbrev pub IsInRange : NumberRange → ℕ → Type 0
IsInRange Index n = n < 2 ^ 32
IsInRange Constant32 n = n < 2 ^ 32
IsInRange Constant64 n = n < 2 ^ 64

-- what holds of each
abbrev pub Each : {A : Type 0} → (A → Type 0) → List A → Type 0
Each P [] = ⊤
Each P (x ∷ xs) = P x × Each P xs

abbrev pub AllParts : ((k : Part) → PartValue k → Type 0) → (ps : List (Form × List ℕ)) → PartsValue ps → Type 0
AllParts P [] v = ⊤
AllParts P (p ∷ ps) v = Each (P (a_form p.0)) v.0 × AllParts P ps v.1

abbrev pub AllFields : ((k : Part) → PartValue k → Type 0) → (f : Fields) → FieldsValue f → Type 0
AllFields P done v = ⊤
AllFields P (one k f) v = P k v.0 × AllFields P f v.1
AllFields P (many k) v = Each (P k) v
AllFields P (parts ps) v = AllParts P ps v

-- what holds of all fields of a value, as it is written
abbrev pub AllInside : ((k : Part) → PartValue k → Type 0) → {X : Type 0} {shape : Shape X} → View shape → Type 0
AllInside P (by_word w) = ⊤
AllInside P (by_row w {row} e v) = AllFields P row.fields v
AllInside P (by_plain {row} e v) = AllFields P row.fields v

-- written as a word alone
abbrev pub IsWord : {X : Type 0} {shape : Shape X} → View shape → Type 0
IsWord (by_word w) = ⊤
IsWord (by_row w e v) = ⊥
IsWord (by_plain e v) = ⊥

-- a thing in which no more than so many lists nest
abbrev pub CanWrite : (G : Grammar) → Views G → ℕ → (k : Part) → PartValue k → Type 0
CanWrite G writes n (a_number k) v = IsInRange k v
CanWrite G writes n a_name v = IsTrue (is_name v)
CanWrite G writes zero (a_form s) v = IsWord (writes s v)
CanWrite G writes (suc n) (a_form s) v = AllInside (CanWrite G writes n) (writes s v)

-- a module whose canonical text nests no deeper than a text may
abbrev pub IsWritable : Module → Type 0
IsWritable m = CanWrite first_version views nesting_limit (a_form module_form) m
