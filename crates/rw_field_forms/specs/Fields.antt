-- The fields of a module: how each begins, their order, and what reading one of them makes (this project's own).
use Rattle.std.specs.Prelude.{◌≡◌, ℕ, List, [], ◌∷◌, ◌++◌, codes, true, false, Err}
use Rattle.rw_types.specs.declared.modules.Module.{Module}
use Rattle.rich_text.specs.Forms.{Form, Meaning, import_form, function_form, global_form, export_form}
use Rattle.rich_text.specs.Tokens.{Token}
use Rattle.rich_text.specs.Lexing.{lexed}
use Rattle.rich_text.specs.Grammars.{Fields, FieldsValue, begins, parts}
use Rattle.rich_text.specs.Reading.{Stop, read_last}
use Rattle.rich_text.specs.Texts.{found}
use Rattle.rw_tokens.specs.declared.symbols.FirstFault.{FirstFault}
use Rattle.rw_tokens.specs.Streams.{found_of}
use Rattle.rw_parser.specs.declared.errors.ReadError.{ReadError}
use Rattle.rw_parser.specs.declared.errors.ReadError.TheVariants.{Fault as a_fault}
use Rattle.rw_parser.specs.Reads.{ClosesParse, Gave, Parse, TookHead, behind_head, tokens_left}
use Rattle.rw_field_forms.specs.declared.heads.FieldKind.{FieldKind}
use Rattle.rw_field_forms.specs.declared.heads.FieldKind.TheVariants.{Import, Function, Global, Export}
use Rattle.rw_field_forms.specs.declared.heads.FieldStart.{FieldStart}
use Rattle.rw_field_forms.specs.declared.heads.FieldStart.TheVariants.{Field, End}

-- the form of a field, and the word that it begins with
abbrev pub field_form : FieldKind → Form
field_form Import = import_form
field_form Function = function_form
field_form Global = global_form
field_form Export = export_form

abbrev pub field_word : FieldKind → List ℕ
field_word Import = codes "import"
field_word Function = codes "func"
field_word Global = codes "global"
field_word Export = codes "export"

-- the order of fields
abbrev pub place_in_order : FieldKind → ℕ
place_in_order Import = 0
place_in_order Function = 1
place_in_order Global = 2
place_in_order Export = 3

-- what stands in a module behind its version
abbrev pub module_fields : Fields
module_fields = parts ((import_form, codes "import") ∷ (function_form, codes "func") ∷ (global_form, codes "global") ∷ (export_form, codes "export") ∷ [])

-- the fields of a module, as they are read
abbrev pub fields_of : Module → FieldsValue module_fields
fields_of m = (m.imports, (m.funcs, (m.globals, (m.exports, tt))))

-- a module without fields
abbrev pub no_fields : Module
no_fields = record { imports = []; funcs = []; globals = []; exports = [] }

-- a module with one field more
abbrev pub with_field : (k : FieldKind) → Meaning (field_form k) → Module → Module
with_field Import x m = record { imports = m.imports ++ x ∷ []; funcs = m.funcs; globals = m.globals; exports = m.exports }
with_field Function x m = record { imports = m.imports; funcs = m.funcs ++ x ∷ []; globals = m.globals; exports = m.exports }
with_field Global x m = record { imports = m.imports; funcs = m.funcs; globals = m.globals ++ x ∷ []; exports = m.exports }
with_field Export x m = record { imports = m.imports; funcs = m.funcs; globals = m.globals; exports = m.exports ++ x ∷ [] }

-- a field was read behind its word, and put in
pub record AddedField (k : FieldKind) (old new : Parse) (m n : Module) : Type 0 where
  pub field : Meaning (field_form k)
  pub gave : Gave (behind_head (field_form k) (field_word k)) 1 old new field
  pub added : n ≡ with_field k field m

-- a word with which no field begins; tokens with which none begins
abbrev pub IsNoField : List ℕ → Type 0
IsNoField w = (k : FieldKind) → w ≡ field_word k → ⊥

abbrev pub BeginNoField : List Token → Type 0
BeginNoField ts = (k : FieldKind) → begins (field_word k) ts ≡ false

-- a `(` and the word of a field were taken off, or the `)` behind all fields
abbrev pub StartsField : Parse → Parse → FieldStart → Type 0
StartsField old new (Field k at) = TookHead old new (field_word k) at
StartsField old new End = ClosesParse old new true

-- where neither stands
pub record NoField (old : Parse) (f : FirstFault) : Type 0 where
  pub stop : Stop
  pub none : BeginNoField (tokens_left old)
  pub reads : read_last (tokens_left old) ≡ Err stop
  pub place : found (lexed old.text) stop ≡ found_of f

pub record FailsAtField (old : Parse) (e : ReadError) : Type 0 where
  pub failed : (f : FirstFault) → e ≡ a_fault f → NoField old f
