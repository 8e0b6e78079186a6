-- In version 1 only the module's own list holds lists by kind, and each of these begins with its word.
use Rattle.std.proofs.Common.{◌≡◌, ℕ, zero, suc, Bool, true, false, List, [], ◌∷◌, refl, subst, inl, inr, Option, Some, None}
use Rattle.std.specs.Prelude.{if◌then◌else◌, codes}
use Rattle.std.proofs.lemmas.Bool.{false≢true}
use Rattle.rich_text.specs.Forms.{Form, Meaning, qualifier_form, memory_form, privilege_form, type_form, types_form, pretype_form, heap_form, slot_form, function_type_form, binder_form, binders_form, local_form, local_types_form, locals_form, instruction_form, argument_form, arm_form, then_form, else_form, function_form, export_form, import_form, global_form, mutability_form, version_form, module_form}
use Rattle.rich_text.specs.Grammars.{Fields, done, one, many, parts, Row, Shape, Has}
use Rattle.rich_text.specs.Canonical.{tokens_of}
use Rattle.rich_text.specs.Writable.{CanWrite}
use Rattle.rich_text.specs.FirstVersion.{first_version}
use Rattle.rich_text.specs.Views.{views}
use Rattle.rich_text_laws.proofs.Looking.{from_look, present_case}
use Rattle.rich_text_laws.proofs.Writing.{Writer, Test, BeginsWith, AreHeaded, IsHeaded}

abbrev no_parts : Fields → Bool
no_parts done = true
no_parts (one k f) = no_parts f
no_parts (many k) = true
no_parts (parts ps) = false

abbrev none_has_parts : {X : Type 0} → List (List ℕ × Row X) → Bool
none_has_parts [] = true
none_has_parts (e ∷ es) = if no_parts e.1.fields then none_has_parts es else false

abbrev plain_has_none : {X : Type 0} → Option (Row X) → Bool
plain_has_none None = true
plain_has_none (Some row) = no_parts row.fields

headed_fields : (item : Writer) (P : Test) (f : Fields) → no_parts f ≡ true → AreHeaded item P f
headed_fields item P done e = tt
headed_fields item P (one k f) e = headed_fields item P f e
headed_fields item P (many k) e = tt
headed_fields item P (parts ps) e = absurd (false≢true e)

headed_rows : (item : Writer) (P : Test) {X : Type 0} (es : List (List ℕ × Row X)) (w : List ℕ) (row : Row X) → none_has_parts es ≡ true → Has es w row → AreHeaded item P row.fields
headed_rows item P [] w row e h = absurd h
headed_rows item P (x ∷ es) w row e (inl h) = subst (λ r. AreHeaded item P r.fields) h.1 (headed_fields item P x.1.fields (present_case (no_parts x.1.fields) (none_has_parts es) e).0)
headed_rows item P (x ∷ es) w row e (inr h) = headed_rows item P es w row (present_case (no_parts x.1.fields) (none_has_parts es) e).1 h

headed_plain : (item : Writer) (P : Test) {X : Type 0} (plain : Option (Row X)) (row : Row X) → plain_has_none plain ≡ true → plain ≡ Some row → AreHeaded item P row.fields
headed_plain item P None row e h = absurd (cc)
headed_plain item P (Some r) row e h = subst (λ q. AreHeaded item P q.fields) (some_row r row h) (headed_fields item P r.fields e)
  where
    some_row : {X : Type 0} (r row : Row X) → ◌≡◌ {A = Option (Row X)} (Some r) (Some row) → r ≡ row
    some_row r row h = cc

by_test : (item : Writer) (P : Test) {X : Type 0} (shape : Shape X) → none_has_parts shape.heads ≡ true → plain_has_none shape.plain ≡ true → IsHeaded item P shape
by_test item P shape e f = record {
  heads = λ w row h. headed_rows item P shape.heads w row e (from_look shape.heads w row h);
  plain = λ row h. headed_plain item P shape.plain row f h;
}

abbrev item : ℕ → Writer
item n = tokens_of first_version views n

abbrev test : ℕ → Test
test n = CanWrite first_version views n

imports_begin : (n : ℕ) → BeginsWith (item n) (test n) (import_form, codes "import")
imports_begin zero x f rest = absurd f
imports_begin (suc n) x f rest = refl

functions_begin : (n : ℕ) → BeginsWith (item n) (test n) (function_form, codes "func")
functions_begin zero x f rest = absurd f
functions_begin (suc n) x f rest = refl

globals_begin : (n : ℕ) → BeginsWith (item n) (test n) (global_form, codes "global")
globals_begin zero x f rest = absurd f
globals_begin (suc n) x f rest = refl

exports_begin : (n : ℕ) → BeginsWith (item n) (test n) (export_form, codes "export")
exports_begin zero x f rest = absurd f
exports_begin (suc n) x f rest = refl

module_rows : (n : ℕ) (w : List ℕ) (row : Row (Meaning module_form)) → Has (first_version module_form).heads w row → AreHeaded (item n) (test n) row.fields
module_rows n w row (inl h) =
    subst (λ r. AreHeaded (item n) (test n) r.fields) h.1
    (refl, (imports_begin n, (functions_begin n, (globals_begin n, (exports_begin n, tt)))))
module_rows n w row (inr h) = absurd h

pub headed : (n : ℕ) (s : Form) → IsHeaded (item n) (test n) (first_version s)
headed n qualifier_form = by_test (item n) (test n) (first_version qualifier_form) refl refl
headed n memory_form = by_test (item n) (test n) (first_version memory_form) refl refl
headed n privilege_form = by_test (item n) (test n) (first_version privilege_form) refl refl
headed n type_form = by_test (item n) (test n) (first_version type_form) refl refl
headed n types_form = by_test (item n) (test n) (first_version types_form) refl refl
headed n pretype_form = by_test (item n) (test n) (first_version pretype_form) refl refl
headed n heap_form = by_test (item n) (test n) (first_version heap_form) refl refl
headed n slot_form = by_test (item n) (test n) (first_version slot_form) refl refl
headed n function_type_form = by_test (item n) (test n) (first_version function_type_form) refl refl
headed n binder_form = by_test (item n) (test n) (first_version binder_form) refl refl
headed n binders_form = by_test (item n) (test n) (first_version binders_form) refl refl
headed n local_form = by_test (item n) (test n) (first_version local_form) refl refl
headed n local_types_form = by_test (item n) (test n) (first_version local_types_form) refl refl
headed n locals_form = by_test (item n) (test n) (first_version locals_form) refl refl
headed n instruction_form = by_test (item n) (test n) (first_version instruction_form) refl refl
headed n argument_form = by_test (item n) (test n) (first_version argument_form) refl refl
headed n arm_form = by_test (item n) (test n) (first_version arm_form) refl refl
headed n then_form = by_test (item n) (test n) (first_version then_form) refl refl
headed n else_form = by_test (item n) (test n) (first_version else_form) refl refl
headed n function_form = by_test (item n) (test n) (first_version function_form) refl refl
headed n export_form = by_test (item n) (test n) (first_version export_form) refl refl
headed n import_form = by_test (item n) (test n) (first_version import_form) refl refl
headed n global_form = by_test (item n) (test n) (first_version global_form) refl refl
headed n mutability_form = by_test (item n) (test n) (first_version mutability_form) refl refl
headed n version_form = by_test (item n) (test n) (first_version version_form) refl refl
headed n module_form = record {
  heads = λ w row h. module_rows n w row (from_look (first_version module_form).heads w row h);
  plain = λ row h. absurd (no_plain row h);
}
  where
    no_plain : (row : Row (Meaning module_form)) → ◌≡◌ {A = Option (Row (Meaning module_form))} None (Some row) → ⊥
    no_plain row h = cc
