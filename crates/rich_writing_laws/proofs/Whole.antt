-- The tokens of each part are laid out as its text; so are those of a type alone, and those of a module.
use Rattle.std.proofs.Common.{◌≡◌, ◌∙◌, ℕ, zero, suc, List, [], ◌∷◌, ◌++◌, refl, sym, ap, subst, append_assoc, append-nil}
use Rattle.std.specs.Prelude.{codes}
use Rattle.rw_types.specs.declared.modules.Module.{Module}
use Rattle.rich_text.specs.Forms.{Form, Meaning, import_form, function_form, global_form, export_form, version_form, type_form, function_type_form}
use Rattle.rich_text.specs.Tokens.{Token, Opening, Closing, Word, nesting_limit}
use Rattle.rich_text.specs.Grammars.{Part, a_number, a_name, a_form, PartValue, Shape}
use Rattle.rich_text.specs.Canonical.{View, by_word, by_row, by_plain, number_word, run_tokens, field_tokens, view_tokens, word_tokens, tokens_of}
use Rattle.rich_text.specs.FirstVersion.{first_version}
use Rattle.rich_text.specs.Views.{views}
use Rattle.rich_text.specs.Layout.{laid_out}
use Rattle.rich_text.specs.Texts.{Spells, reading}
use Rattle.rich_text.specs.Writable.{Each, AllInside, IsWord, CanWrite}
use Rattle.rich_text_laws.proofs.Canonical.{canonical_spells_one, canonical_is_read}
use Rattle.rich_text_laws.proofs.Whole.{read_is_spelled}
use Rattle.rich_text_laws.proofs.Writing.{Writer}
use Rattle.rich_text_writing_laws.proofs.Writing.{spelled_is_writable}
use Rattle.rich_writing.specs.Modules.{lines, function_text, global_text, export_text}
use Rattle.rich_writing_laws.specs.Laws.{FunctionTypeIsLaidOut, ModuleIsLaidOut, TypeIsLaidOut, WrittenIsCanonical, WrittenIsRead, WrittenIsReadAgain, WrittenSpells}
use Rattle.rich_writing_laws.proofs.Decimals.{same_number}
use Rattle.rich_writing_laws.proofs.Forms.{form_text, part_text, formed}
use Rattle.rich_writing_laws.proofs.Layouts.{laid_behind, laid_first, behind_word, Lays, word_lays, name_lays, cons_lays, fields_lay, line_lays, view_lays, view_text, fields_texts}

-- ---- parts

alone : {X : Type 0} {shape : Shape X} (view : View shape) → IsWord view → Lays (word_tokens view) (view_text part_text view)
alone (by_word w) a = word_lays w
alone (by_row w e v) a = absurd a
alone (by_plain e v) a = absurd a

abbrev tokens : ℕ → (k : Part) → PartValue k → List Token
tokens n k v = tokens_of first_version views n k v

abbrev Can : ℕ → (k : Part) → PartValue k → Type 0
Can n k v = CanWrite first_version views n k v

lays : (n : ℕ) (k : Part) (v : PartValue k) → Can n k v → Lays (tokens n k v) (part_text k v)
lays n (a_number k) v a = subst (λ (b : List ℕ). Lays (Word (number_word k v) ∷ []) b) (same_number k v a) (word_lays (number_word k v))
lays n a_name v a = name_lays v
lays zero (a_form s) v a = subst (λ (b : List ℕ). Lays (word_tokens (views s v)) b) (formed s v) (alone (views s v) a)
lays (suc n) (a_form s) v a =
    subst (λ (b : List ℕ). Lays (view_tokens (tokens n) (views s v)) b) (formed s v)
    (view_lays (tokens n) (Can n) part_text (lays n) (views s v) a)

-- ---- a form alone

first_word : {X : Type 0} {shape : Shape X} (view : View shape) → IsWord view → laid_out 2 (word_tokens view) ≡ laid_behind 2 Opening (word_tokens view)
first_word (by_word w) a = refl
first_word (by_row w e v) a = absurd a
first_word (by_plain e v) a = absurd a

first_token : (item : Writer) {X : Type 0} {shape : Shape X} (view : View shape) → laid_out 2 (view_tokens item view) ≡ laid_behind 2 Opening (view_tokens item view)
first_token item (by_word w) = refl
first_token item (by_row w {row} e v) = laid_first 2 Opening (Word w ∷ field_tokens item row.fields v)
first_token item (by_plain {row} e v) = laid_first 2 Opening (field_tokens item row.fields v)

first_of : (n : ℕ) (s : Form) (v : Meaning s) → Can n (a_form s) v → laid_out 2 (tokens n (a_form s) v) ≡ laid_behind 2 Opening (tokens n (a_form s) v)
first_of zero s v a = first_word (views s v) a
first_of (suc n) s v a = first_token (tokens n) (views s v)

form_alone : (n : ℕ) (s : Form) (v : Meaning s) → Can n (a_form s) v → form_text s v ++ codes "\n" ≡ laid_out 2 (tokens n (a_form s) v)
form_alone n s v a =
    sym (first_of n s v a ∙ ap (laid_behind 2 Opening) (sym (append-nil (tokens n (a_form s) v))) ∙ lays n (a_form s) v a 0 Opening [])

pub type_is_laid_out : TypeIsLaidOut
type_is_laid_out n t a = form_alone n type_form t a

pub function_type_is_laid_out : FunctionTypeIsLaidOut
function_type_is_laid_out n f a = form_alone n function_type_form f a

-- ---- fields, each on a line

abbrev OnLine : List Token → List ℕ → Type 0
OnLine ts b = (p : Token) (us : List Token) → laid_behind 1 p (ts ++ us) ≡ 10 ∷ (b ++ laid_behind 1 Closing us)

view_on_line : (n : ℕ) {X : Type 0} {shape : Shape X} (view : View shape) → (IsWord view → ⊥) → AllInside (Can n) view → OnLine (view_tokens (tokens n) view) (view_text part_text view)
view_on_line n (by_word w) list a = absurd (list tt)
view_on_line n (by_row w {row} e v) list a =
    line_lays (Word w ∷ field_tokens (tokens n) row.fields v) (w ∷ fields_texts part_text row.fields v)
    (cons_lays (Word w ∷ []) (field_tokens (tokens n) row.fields v) w (fields_texts part_text row.fields v) (word_lays w) (fields_lay (tokens n) (Can n) part_text (lays n) row.fields v a))
view_on_line n (by_plain {row} e v) list a = line_lays (field_tokens (tokens n) row.fields v) (fields_texts part_text row.fields v) (fields_lay (tokens n) (Can n) part_text (lays n) row.fields v a)

module _ (s : Form) (list : (v : Meaning s) → IsWord (views s v) → ⊥) where
  form_on_line : (n : ℕ) (v : Meaning s) → Can n (a_form s) v → OnLine (tokens n (a_form s) v) (form_text s v)
  form_on_line zero v a = absurd (list v a)
  form_on_line (suc n) v a = subst (λ (b : List ℕ). OnLine (view_tokens (tokens n) (views s v)) b) (formed s v) (view_on_line n (views s v) (list v) a)

  run_on_lines : (n : ℕ) (rest : List Token) (r : List ℕ) → laid_behind 1 Closing rest ≡ 10 ∷ r → (vs : List (Meaning s)) → Each (Can n (a_form s)) vs
      → laid_behind 1 Closing (run_tokens (tokens n (a_form s)) rest vs) ≡ 10 ∷ (lines (form_text s) vs ++ r)
  run_on_lines n rest r h [] a = h
  run_on_lines n rest r h (v ∷ vs) a =
      form_on_line n v a.0 Closing (run_tokens (tokens n (a_form s)) rest vs)
      ∙ ap (λ (x : List ℕ). 10 ∷ (form_text s v ++ x)) (run_on_lines n rest r h vs a.1)
      ∙ ap (λ (x : List ℕ). 10 ∷ x) (sym (append_assoc (form_text s v) (10 ∷ lines (form_text s) vs) r))

-- ---- a module

version : (n : ℕ) → tokens n (a_form version_form) tt ≡ Word (codes "1") ∷ []
version zero = refl
version (suc n) = refl

pub module_is_laid_out : ModuleIsLaidOut
module_is_laid_out zero m a = absurd a
module_is_laid_out (suc n) m a =
    let exports = run_tokens (tokens n (a_form export_form)) (Closing ∷ []) m.exports in
    let globals = run_tokens (tokens n (a_form global_form)) exports m.globals in
    let funcs = run_tokens (tokens n (a_form function_form)) globals m.funcs in
    let imports = run_tokens (tokens n (a_form import_form)) funcs m.imports in
    let end = codes ")\n" in
    let export_lines = lines export_text m.exports ++ end in
    let global_lines = lines global_text m.globals ++ export_lines in
    let func_lines = lines function_text m.funcs ++ global_lines in
    let on_exports = run_on_lines export_form (λ v w. w) n (Closing ∷ []) end refl m.exports a.1.1.1.1.0 in
    let on_globals = run_on_lines global_form (λ v w. w) n exports export_lines on_exports m.globals a.1.1.1.0 in
    let on_funcs = run_on_lines function_form (λ v w. w) n globals global_lines on_globals m.funcs a.1.1.0 in
    let on_imports = run_on_lines import_form (λ v w. w) n funcs func_lines on_funcs m.imports a.1.0 in
    sym (
    ap (λ (v : List Token). laid_out 0 (Opening ∷ Word (codes "module") ∷ (v ++ imports))) (version n)
    ∙ laid_first 0 Opening (Word (codes "module") ∷ Word (codes "1") ∷ imports)
    ∙ ap (λ (r : List ℕ). codes "(module 1" ++ r) (behind_word 1 (codes "1") imports ∙ on_imports)
    )

pub written_is_canonical : WrittenIsCanonical
written_is_canonical m a = module_is_laid_out nesting_limit m a

pub written_spells : WrittenSpells
written_spells m a = subst (λ (b : List ℕ). Spells b m × ((other : Module) → Spells b other → m ≡ other)) (sym (written_is_canonical m a)) (canonical_spells_one m a)

pub written_is_read : WrittenIsRead
written_is_read m a = ap reading (written_is_canonical m a) ∙ canonical_is_read m a

pub written_is_read_again : WrittenIsReadAgain
written_is_read_again bytes m e = written_is_read m (spelled_is_writable bytes m (read_is_spelled bytes m e))
