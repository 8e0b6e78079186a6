-- Fields in their order: what is read from a kind on, where a field of this or of a later kind comes, the `)`, or neither.
use Rattle.std.proofs.Common.{◌≡◌, ◌∙◌, ℕ, suc, ◌<◌, ◌≤◌, true, false, List, [], ◌∷◌, ◌++◌, length, refl, sym, ap, append_assoc, append-nil, arith, Result, Ok, Err}
use Rattle.std.specs.Prelude.{codes}
use Rattle.std.proofs.lemmas.Bool.{cond-true, cond-false}
use Rattle.rw_types.specs.declared.modules.ExportDef.{ExportDef}
use Rattle.rw_types.specs.declared.modules.FuncDef.{FuncDef}
use Rattle.rw_types.specs.declared.modules.GlobalDef.{GlobalDef}
use Rattle.rw_types.specs.declared.modules.ImportDef.{ImportDef}
use Rattle.rw_types.specs.declared.modules.Module.{Module}
use Rattle.rich_text.specs.Forms.{Form, Meaning, import_form, function_form, global_form, export_form}
use Rattle.rich_text.specs.Tokens.{Token, Opening, Word, BadForm}
use Rattle.rich_text.specs.Grammars.{Part, PartValue, PartsValue, FieldsValue, a_form, begins}
use Rattle.rich_text.specs.Reading.{Reader, Stop, and_then, ◌>>=◌, give, read_last, read_parts, read_run}
use Rattle.rw_field_forms.specs.declared.heads.FieldKind.{FieldKind}
use Rattle.rw_field_forms.specs.declared.heads.FieldKind.TheVariants.{Import, Function, Global, Export}
use Rattle.rw_field_forms.specs.Fields.{BeginNoField, field_form, field_word, fields_of, module_fields, no_fields, place_in_order, with_field}

-- readers of parts
abbrev pub Item : Type 0
Item = (k : Part) → Reader (PartValue k)

abbrev pub Values : Type 0
Values = FieldsValue module_fields

abbrev pub Answer : Type 0
Answer = Result (Values × List Token) Stop

abbrev behind_imports : List (Form × List ℕ)
behind_imports = (function_form, codes "func") ∷ (global_form, codes "global") ∷ (export_form, codes "export") ∷ []

abbrev behind_functions : List (Form × List ℕ)
behind_functions = (global_form, codes "global") ∷ (export_form, codes "export") ∷ []

abbrev behind_globals : List (Form × List ℕ)
behind_globals = (export_form, codes "export") ∷ []

-- fields of a kind and of those behind it
abbrev pub reading_from : FieldKind → Item → ℕ → Reader Values
reading_from Import item fuel = read_run (codes "import") (item (a_form import_form)) (read_parts item behind_imports) fuel
reading_from Function item fuel = λ ts. and_then (read_run (codes "func") (item (a_form function_form)) (read_parts item behind_functions) fuel ts) (λ v. give ([], v))
reading_from Global item fuel = λ ts. and_then (read_run (codes "global") (item (a_form global_form)) (read_parts item behind_globals) fuel ts) (λ v. give ([], ([], v)))
reading_from Export item fuel = λ ts. and_then (read_run (codes "export") (item (a_form export_form)) (read_parts item []) fuel ts) (λ v. give ([], ([], ([], v))))

-- no field more
abbrev pub nothing : Values
nothing = ([], ([], ([], ([], tt))))

-- ---- a run

skips : {A B : Type 0} (w : List ℕ) (item : Reader A) (rest : Reader B) (fuel : ℕ) (ts : List Token) → begins w ts ≡ false → read_run w item rest (suc fuel) ts ≡ and_then (rest ts) (λ b. give ([], b))
skips w item rest fuel ts e = cond-false (begins w ts) _ _ e

takes : {A B : Type 0} (w : List ℕ) (item : Reader A) (rest : Reader B) (fuel : ℕ) (ts us : List Token) (x : A) → begins w ts ≡ true → item ts ≡ Ok (x, us)
    → read_run w item rest (suc fuel) ts ≡ and_then (read_run w item rest fuel us) (λ r. give (x ∷ r.0, r.1))
takes w item rest fuel ts us x b e = cond-true (begins w ts) _ _ b ∙ ap (λ r. and_then r (λ y. read_run w item rest fuel >>= λ r. give (y ∷ r.0, r.1))) e

fails : {A B : Type 0} (w : List ℕ) (item : Reader A) (rest : Reader B) (fuel : ℕ) (ts : List Token) (e : Stop) → begins w ts ≡ true → item ts ≡ Err e → read_run w item rest (suc fuel) ts ≡ Err e
fails w item rest fuel ts e b h = cond-true (begins w ts) _ _ b ∙ ap (λ r. and_then r (λ y. read_run w item rest fuel >>= λ r. give (y ∷ r.0, r.1))) h

grouped : {A B C : Type 0} (r : Result (A × List Token) Stop) (f : A → Reader B) (g : B → Reader C) → and_then (and_then r f) g ≡ and_then r (λ a ts. and_then (f a ts) g)
grouped (Ok r) f g = refl
grouped (Err e) f g = refl

-- ---- where no field of a kind comes

no_import : (item : Item) (fuel : ℕ) (ts : List Token) → begins (codes "import") ts ≡ false → reading_from Import item (suc fuel) ts ≡ reading_from Function item (suc (length ts)) ts
no_import item fuel ts e = skips (codes "import") (item (a_form import_form)) (read_parts item behind_imports) fuel ts e

no_function : (item : Item) (fuel : ℕ) (ts : List Token) → begins (codes "func") ts ≡ false → reading_from Function item (suc fuel) ts ≡ reading_from Global item (suc (length ts)) ts
no_function item fuel ts e =
    ap (λ r. and_then r (λ v. let g : Reader Values = give ([], v) in g)) (skips (codes "func") (item (a_form function_form)) (read_parts item behind_functions) fuel ts e)
    ∙ grouped (read_parts item behind_functions ts) (λ b. give ([], b)) (λ v. give ([], v))

no_global : (item : Item) (fuel : ℕ) (ts : List Token) → begins (codes "global") ts ≡ false → reading_from Global item (suc fuel) ts ≡ reading_from Export item (suc (length ts)) ts
no_global item fuel ts e =
    ap (λ r. and_then r (λ v. let g : Reader Values = give ([], ([], v)) in g)) (skips (codes "global") (item (a_form global_form)) (read_parts item behind_globals) fuel ts e)
    ∙ grouped (read_parts item behind_globals ts) (λ b. give ([], b)) (λ v. give ([], ([], v)))

-- at the end of all fields
abbrev pub last_of : List Token → Answer
last_of ts = and_then (read_last ts) (λ v. give ([], ([], ([], ([], v)))))

no_export : (item : Item) (fuel : ℕ) (ts : List Token) → begins (codes "export") ts ≡ false → reading_from Export item (suc fuel) ts ≡ last_of ts
no_export item fuel ts e =
    ap (λ r. and_then r (λ v. let g : Reader Values = give ([], ([], ([], v))) in g)) (skips (codes "export") (item (a_form export_form)) read_last fuel ts e)
    ∙ grouped (read_last ts) (λ b. give ([], b)) (λ v. give ([], ([], ([], v))))

pub no_field : (k : FieldKind) (item : Item) (fuel : ℕ) (ts : List Token) → BeginNoField ts → reading_from k item (suc fuel) ts ≡ last_of ts
no_field Import item fuel ts h = no_import item fuel ts (h Import) ∙ no_function item (length ts) ts (h Function) ∙ no_global item (length ts) ts (h Global) ∙ no_export item (length ts) ts (h Export)
no_field Function item fuel ts h = no_function item fuel ts (h Function) ∙ no_global item (length ts) ts (h Global) ∙ no_export item (length ts) ts (h Export)
no_field Global item fuel ts h = no_global item fuel ts (h Global) ∙ no_export item (length ts) ts (h Export)
no_field Export item fuel ts h = no_export item fuel ts (h Export)

-- ---- where one comes

-- tokens that begin a field
abbrev pub field_begun : FieldKind → List Token → List Token
field_begun k us = Opening ∷ Word (field_word k) ∷ us

begins_this : (k : FieldKind) (us : List Token) → begins (field_word k) (field_begun k us) ≡ true
begins_this Import us = refl
begins_this Function us = refl
begins_this Global us = refl
begins_this Export us = refl

-- reading goes on with its kind
pub record Onward (item : Item) (last k : FieldKind) (fuel : ℕ) (ts : List Token) : Type 0 where
  pub more : ℕ
  pub enough : length ts ≤ more
  pub same : reading_from last item (suc fuel) ts ≡ reading_from k item (suc more) ts

pub onward : (item : Item) (last k : FieldKind) (fuel : ℕ) (us : List Token) → (place_in_order k < place_in_order last → ⊥) → length (field_begun k us) ≤ fuel → Onward item last k fuel (field_begun k us)
onward item Import Import fuel us h n = record { more = fuel; enough = n; same = refl }
onward item Import Function fuel us h n = record { more = length (field_begun Function us); enough = omega arith; same = no_import item fuel (field_begun Function us) refl }
onward item Import Global fuel us h n = record {
  more = length (field_begun Global us);
  enough = omega arith;
  same = no_import item fuel (field_begun Global us) refl ∙ no_function item (length (field_begun Global us)) (field_begun Global us) refl;
}
onward item Import Export fuel us h n = record {
  more = length (field_begun Export us);
  enough = omega arith;
  same =
      no_import item fuel (field_begun Export us) refl
      ∙ no_function item (length (field_begun Export us)) (field_begun Export us) refl
      ∙ no_global item (length (field_begun Export us)) (field_begun Export us) refl;
}
onward item Function Import fuel us h n = absurd (h (omega arith))
onward item Function Function fuel us h n = record { more = fuel; enough = n; same = refl }
onward item Function Global fuel us h n = record { more = length (field_begun Global us); enough = omega arith; same = no_function item fuel (field_begun Global us) refl }
onward item Function Export fuel us h n = record {
  more = length (field_begun Export us);
  enough = omega arith;
  same = no_function item fuel (field_begun Export us) refl ∙ no_global item (length (field_begun Export us)) (field_begun Export us) refl;
}
onward item Global Import fuel us h n = absurd (h (omega arith))
onward item Global Function fuel us h n = absurd (h (omega arith))
onward item Global Global fuel us h n = record { more = fuel; enough = n; same = refl }
onward item Global Export fuel us h n = record { more = length (field_begun Export us); enough = omega arith; same = no_global item fuel (field_begun Export us) refl }
onward item Export Import fuel us h n = absurd (h (omega arith))
onward item Export Function fuel us h n = absurd (h (omega arith))
onward item Export Global fuel us h n = absurd (h (omega arith))
onward item Export Export fuel us h n = record { more = fuel; enough = n; same = refl }

-- a field of an earlier kind
pub misplaced : (item : Item) (last k : FieldKind) (fuel : ℕ) (us : List Token) → place_in_order k < place_in_order last → reading_from last item (suc fuel) (field_begun k us) ≡ Err (record { fault = BadForm; left = suc (length us) })
misplaced item Import k fuel us h = absurd (omega arith)
misplaced item Function Import fuel us h =
    no_function item fuel (field_begun Import us) refl
    ∙ no_global item (length (field_begun Import us)) (field_begun Import us) refl
    ∙ no_export item (length (field_begun Import us)) (field_begun Import us) refl
misplaced item Function Function fuel us h = absurd (omega arith)
misplaced item Function Global fuel us h = absurd (omega arith)
misplaced item Function Export fuel us h = absurd (omega arith)
misplaced item Global Import fuel us h = no_global item fuel (field_begun Import us) refl ∙ no_export item (length (field_begun Import us)) (field_begun Import us) refl
misplaced item Global Function fuel us h = no_global item fuel (field_begun Function us) refl ∙ no_export item (length (field_begun Function us)) (field_begun Function us) refl
misplaced item Global Global fuel us h = absurd (omega arith)
misplaced item Global Export fuel us h = absurd (omega arith)
misplaced item Export Import fuel us h = no_export item fuel (field_begun Import us) refl
misplaced item Export Function fuel us h = no_export item fuel (field_begun Function us) refl
misplaced item Export Global fuel us h = no_export item fuel (field_begun Global us) refl
misplaced item Export Export fuel us h = absurd (omega arith)

-- ---- what was read before

-- the fields of a module before others
abbrev pub onto : Module → Values → Values
onto m v = (m.imports ++ v.0, (m.funcs ++ v.1.0, (m.globals ++ v.1.1.0, (m.exports ++ v.1.1.1.0, v.1.1.1.1))))

abbrev pub behind : Module → Answer → Answer
behind m (Ok r) = Ok (onto m r.0, r.1)
behind m (Err e) = Err e

pub behind_none : (r : Answer) → r ≡ behind no_fields r
behind_none (Ok r) = refl
behind_none (Err e) = refl

pub onto_nothing : (m : Module) → onto m nothing ≡ fields_of m
onto_nothing m =
    ap (λ xs. let v : Values = (xs, (m.funcs ++ [], (m.globals ++ [], (m.exports ++ [], tt)))) in v) (append-nil m.imports)
    ∙ ap (λ xs. let v : Values = (m.imports, (xs, (m.globals ++ [], (m.exports ++ [], tt)))) in v) (append-nil m.funcs)
    ∙ ap (λ xs. let v : Values = (m.imports, (m.funcs, (xs, (m.exports ++ [], tt)))) in v) (append-nil m.globals)
    ∙ ap (λ xs. let v : Values = (m.imports, (m.funcs, (m.globals, (xs, tt)))) in v) (append-nil m.exports)

import_more : (m : Module) (x : ImportDef) (r : Answer) → behind m (and_then r (λ v. give (x ∷ v.0, v.1))) ≡ behind (with_field Import x m) r
import_more m x (Ok r) = ap (λ xs. let y : Answer = Ok ((xs, (m.funcs ++ r.0.1.0, (m.globals ++ r.0.1.1.0, (m.exports ++ r.0.1.1.1.0, r.0.1.1.1.1)))), r.1) in y) (sym (append_assoc m.imports (x ∷ []) r.0.0))
import_more m x (Err e) = refl

function_more : (m : Module) (x : FuncDef) (r : Result (PartsValue behind_imports × List Token) Stop)
    → behind m (and_then (and_then r (λ v. give (x ∷ v.0, v.1))) (λ v. give ([], v))) ≡ behind (with_field Function x m) (and_then r (λ v. give ([], v)))
function_more m x (Ok r) = ap (λ xs. let y : Answer = Ok ((m.imports ++ [], (xs, (m.globals ++ r.0.1.0, (m.exports ++ r.0.1.1.0, r.0.1.1.1)))), r.1) in y) (sym (append_assoc m.funcs (x ∷ []) r.0.0))
function_more m x (Err e) = refl

global_more : (m : Module) (x : GlobalDef) (r : Result (PartsValue behind_functions × List Token) Stop)
    → behind m (and_then (and_then r (λ v. give (x ∷ v.0, v.1))) (λ v. give ([], ([], v)))) ≡ behind (with_field Global x m) (and_then r (λ v. give ([], ([], v))))
global_more m x (Ok r) = ap (λ xs. let y : Answer = Ok ((m.imports ++ [], (m.funcs ++ [], (xs, (m.exports ++ r.0.1.0, r.0.1.1)))), r.1) in y) (sym (append_assoc m.globals (x ∷ []) r.0.0))
global_more m x (Err e) = refl

export_more : (m : Module) (x : ExportDef) (r : Result (PartsValue behind_globals × List Token) Stop)
    → behind m (and_then (and_then r (λ v. give (x ∷ v.0, v.1))) (λ v. give ([], ([], ([], v))))) ≡ behind (with_field Export x m) (and_then r (λ v. give ([], ([], ([], v)))))
export_more m x (Ok r) = ap (λ xs. let y : Answer = Ok ((m.imports ++ [], (m.funcs ++ [], (m.globals ++ [], (xs, r.0.1)))), r.1) in y) (sym (append_assoc m.exports (x ∷ []) r.0.0))
export_more m x (Err e) = refl

-- a field is read, and put behind those before
pub one_more : (item : Item) (k : FieldKind) (m : Module) (fuel : ℕ) (us vs : List Token) (x : Meaning (field_form k)) → item (a_form (field_form k)) (field_begun k us) ≡ Ok (x, vs)
    → behind m (reading_from k item (suc fuel) (field_begun k us)) ≡ behind (with_field k x m) (reading_from k item fuel vs)
one_more item Import m fuel us vs x e =
    ap (behind m) (takes (codes "import") (item (a_form import_form)) (read_parts item behind_imports) fuel (field_begun Import us) vs x refl e)
    ∙ import_more m x (read_run (codes "import") (item (a_form import_form)) (read_parts item behind_imports) fuel vs)
one_more item Function m fuel us vs x e =
    ap (λ r. behind m (and_then r (λ v. give ([], v)))) (takes (codes "func") (item (a_form function_form)) (read_parts item behind_functions) fuel (field_begun Function us) vs x refl e)
    ∙ function_more m x (read_run (codes "func") (item (a_form function_form)) (read_parts item behind_functions) fuel vs)
one_more item Global m fuel us vs x e =
    ap (λ r. behind m (and_then r (λ v. give ([], ([], v))))) (takes (codes "global") (item (a_form global_form)) (read_parts item behind_globals) fuel (field_begun Global us) vs x refl e)
    ∙ global_more m x (read_run (codes "global") (item (a_form global_form)) (read_parts item behind_globals) fuel vs)
one_more item Export m fuel us vs x e =
    ap (λ r. behind m (and_then r (λ v. give ([], ([], ([], v)))))) (takes (codes "export") (item (a_form export_form)) (read_parts item []) fuel (field_begun Export us) vs x refl e)
    ∙ export_more m x (read_run (codes "export") (item (a_form export_form)) (read_parts item []) fuel vs)

pub none_more : (item : Item) (k : FieldKind) (fuel : ℕ) (us : List Token) (e : Stop) → item (a_form (field_form k)) (field_begun k us) ≡ Err e → reading_from k item (suc fuel) (field_begun k us) ≡ Err e
none_more item Import fuel us e h = fails (codes "import") (item (a_form import_form)) (read_parts item behind_imports) fuel (field_begun Import us) e refl h
none_more item Function fuel us e h = ap (λ r. and_then r (λ v. let g : Reader Values = give ([], v) in g)) (fails (codes "func") (item (a_form function_form)) (read_parts item behind_functions) fuel (field_begun Function us) e refl h)
none_more item Global fuel us e h = ap (λ r. and_then r (λ v. let g : Reader Values = give ([], ([], v)) in g)) (fails (codes "global") (item (a_form global_form)) (read_parts item behind_globals) fuel (field_begun Global us) e refl h)
none_more item Export fuel us e h = ap (λ r. and_then r (λ v. let g : Reader Values = give ([], ([], ([], v))) in g)) (fails (codes "export") (item (a_form export_form)) (read_parts item []) fuel (field_begun Export us) e refl h)
