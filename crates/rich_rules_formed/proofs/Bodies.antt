-- The start of each body of a well-typed module has well-formed types, and so has each of its points.
use Rattle.std.proofs.Common.{◌≡◌, ℕ, zero, suc, List, [], ◌∷◌, ◌++◌, Option, Some, None, refl, subst, length}
use Rattle.std.specs.Prelude.{slice_get, ⊤}
use Rattle.rw_types.specs.declared.modules.ExportDef.{ExportDef}
use Rattle.rw_types.specs.declared.modules.FuncDef.{FuncDef}
use Rattle.rw_types.specs.declared.modules.GlobalDef.{GlobalDef}
use Rattle.rw_types.specs.declared.modules.ImportDef.{ImportDef}
use Rattle.rw_types.specs.declared.modules.Module.{Module}
use Rattle.rich_typing.specs.declared.notes.Note.{Note}
use Rattle.rich_rules.specs.Modules.{AreTyped, Body, Field, Part, body, export_parts, field, function_parts, function_type_broken, global_parts, import_parts, parts_of}
use Rattle.rich_rules.specs.Takers.{or_else}
use Rattle.rich_rules_formed.specs.Formed.{IsFormedPoint}
use Rattle.rich_rules_formed.specs.Laws.{BodiesFormed}
use Rattle.rich_rules_formed.proofs.Rows.{function_formed, starts_formed}
use Rattle.rich_rules_formed.proofs.Points.{points_formed}

-- the start of a body has well-formed types
abbrev Begins : Part → Type 0
Begins (Field place o) = ⊤
Begins (Body place f d p is) = IsFormedPoint p

abbrev AllBegin : List Part → Type 0
AllBegin [] = ⊤
AllBegin (x ∷ xs) = Begins x × AllBegin xs

begin_joined : (xs ys : List Part) → AllBegin xs → AllBegin ys → AllBegin (xs ++ ys)
begin_joined [] ys v w = w
begin_joined (x ∷ xs) ys v w = (v.0, begin_joined xs ys v.1 w)

begin_found : (xs : List Part) (n : ℕ) (x : Part) → slice_get xs n ≡ Some x → AllBegin xs → Begins x
begin_found [] n x e w = cc
begin_found (y ∷ xs) zero x e w = let same : y ≡ x = cc in subst Begins same w.0
begin_found (y ∷ xs) (suc n) x e w = begin_found xs n x e w.1

first_none : {A : Type 0} (x y : Option A) → or_else x y ≡ None → x ≡ None
first_none None y e = refl
first_none (Some a) y e = cc

imports_begin : (n : ℕ) (is : List ImportDef) → AllBegin (import_parts n is)
imports_begin n [] = tt
imports_begin n (i ∷ is) = (tt, imports_begin (suc n) is)

exports_begin : (m : Module) (n : ℕ) (before es : List ExportDef) → AllBegin (export_parts m n before es)
exports_begin m n before [] = tt
exports_begin m n before (e ∷ es) = (tt, exports_begin m (suc n) (before ++ e ∷ []) es)

globals_begin : (m : Module) (n : ℕ) (gs : List GlobalDef) → AllBegin (global_parts m n gs)
globals_begin m n [] = tt
globals_begin m n (g ∷ gs) = (tt, (starts_formed.initialiser, globals_begin m (suc n) gs))

functions_begin : (m : Module) (n : ℕ) (fs : List FuncDef) (ps : List Part) (notes : List (List Note)) → AreTyped (function_parts m n fs ++ ps) notes → AllBegin (function_parts m n fs)
functions_begin m n [] ps notes x = tt
functions_begin m n (f ∷ fs) ps notes (field e (body own others nn y z)) = (tt, (function_formed f (first_none (function_type_broken f.ty) _ e), functions_begin m (suc n) fs ps others z))

after_imports : (n : ℕ) (is : List ImportDef) (ps : List Part) (notes : List (List Note)) → AreTyped (import_parts n is ++ ps) notes → AreTyped ps notes
after_imports n [] ps notes x = x
after_imports n (i ∷ is) ps notes (field e x) = after_imports (suc n) is ps notes x

all_begin : (m : Module) (notes : List (List Note)) → AreTyped (parts_of m) notes → AllBegin (parts_of m)
all_begin m notes x =
    let others = global_parts m 0 m.globals ++ export_parts m 0 [] m.exports in
    let functions = function_parts m (length m.imports) m.funcs in
    begin_joined (import_parts 0 m.imports) (functions ++ others) (imports_begin 0 m.imports)
    (begin_joined functions others (functions_begin m (length m.imports) m.funcs others notes (after_imports 0 m.imports (functions ++ others) notes x))
    (begin_joined (global_parts m 0 m.globals) (export_parts m 0 [] m.exports) (globals_begin m 0 m.globals) (exports_begin m 0 [] m.exports)))

pub bodies_formed : BodiesFormed
bodies_formed m notes n place f d p is q x g s = points_formed f is (begin_found (parts_of m) n (Body place f d p is) g (all_begin m notes x)) s
