-- What holds of the functions and the globals of well-typed files holds of those of the program, file by file.
use Rattle.std.proofs.Common.{◌≡◌, ℕ, zero, suc, List, [], ◌∷◌, ◌++◌, None, Option, Some, refl, sym, subst, length, drop}
use Rattle.std.specs.Prelude.{Ok, Result, ⊤, slice_get}
use Rattle.rw_types.specs.declared.modules.FuncDef.{FuncDef}
use Rattle.rw_types.specs.declared.modules.GlobalDef.{GlobalDef}
use Rattle.rw_types.specs.declared.modules.Module.{Module}
use Rattle.rw_program.specs.declared.linked.LinkedFunc.{LinkedFunc}
use Rattle.rw_program.specs.declared.linked.LinkedGlobal.{LinkedGlobal}
use Rattle.rw_program.specs.Linking.{global_of}
use Rattle.rich_typing.specs.declared.notes.Note.{Note}
use Rattle.rich_rules.specs.Takers.{or_else}
use Rattle.rich_rules.specs.Modules.{AreTyped, Part, body, field, export_parts, function_parts, global_parts, function_type_broken, global_broken}
use Rattle.rich_linking.specs.Numbers.{NewNumbers}
use Rattle.rich_linking.specs.Linked.{File, LinkedFields, LinkRefusal, all_imported, linked_from, linked_functions, linked_globals, new_numbers}
use Rattle.rich_linking.specs.TypedPrograms.{AreWellTyped}
use Rattle.rich_linking_laws.proofs.Found.{answered}
use Rattle.rich_linking_laws.proofs.Programs.{without_imports}
use Rattle.rich_soundness_points.specs.Programs.{AllFit}
use Rattle.rich_linking_sound.specs.Laws.{AreFit, FunctionsFit, GlobalsFit}
use Rattle.rich_linking_sound.proofs.Renumbered.{all_fit}

-- functions of a program whose types break no rule and whose constants fit, and globals
abbrev pub FineFunctions : List LinkedFunc → Type 0
FineFunctions [] = ⊤
FineFunctions (f ∷ fs) = (function_type_broken f.ty ≡ None) × AllFit f.body × FineFunctions fs

abbrev pub FineGlobals : List LinkedGlobal → Type 0
FineGlobals [] = ⊤
FineGlobals (g ∷ gs) = (global_broken (global_of g) ≡ None) × AllFit g.body × FineGlobals gs

pub function_is : (fs : List LinkedFunc) (n : ℕ) (f : LinkedFunc) → FineFunctions fs → slice_get fs n ≡ Some f → (function_type_broken f.ty ≡ None) × AllFit f.body
function_is [] n f h e = cc
function_is (x ∷ fs) zero f h e = let s : x ≡ f = cc in subst (λ (y : LinkedFunc). (function_type_broken y.ty ≡ None) × AllFit y.body) s (h.0, h.1)
function_is (x ∷ fs) (suc n) f h e = function_is fs n f h.2 e

pub global_is : (gs : List LinkedGlobal) (n : ℕ) (g : LinkedGlobal) → FineGlobals gs → slice_get gs n ≡ Some g → (global_broken (global_of g) ≡ None) × AllFit g.body
global_is [] n g h e = cc
global_is (x ∷ gs) zero g h e = let s : x ≡ g = cc in subst (λ (y : LinkedGlobal). (global_broken (global_of y) ≡ None) × AllFit y.body) s (h.0, h.1)
global_is (x ∷ gs) (suc n) g h e = global_is gs n g h.2 e

functions_joined : (xs ys : List LinkedFunc) → FineFunctions xs → FineFunctions ys → FineFunctions (xs ++ ys)
functions_joined [] ys x y = y
functions_joined (f ∷ xs) ys x y = (x.0, x.1, functions_joined xs ys x.2 y)

globals_joined : (xs ys : List LinkedGlobal) → FineGlobals xs → FineGlobals ys → FineGlobals (xs ++ ys)
globals_joined [] ys x y = y
globals_joined (g ∷ xs) ys x y = (x.0, x.1, globals_joined xs ys x.2 y)

first_none : {A : Type 0} (o p : Option A) → or_else o p ≡ None → o ≡ None
first_none None p e = refl
first_none (Some x) p e = cc

module _ (k : NewNumbers) (file : ℕ) (m : Module) where
  record FunctionsFine (fs : List FuncDef) (ps : List Part) (notes : List (List Note)) : Type 0 where
    pub fine : FineFunctions (linked_functions file k fs notes)
    pub rest : AreTyped ps (drop (length fs) notes)

  functions_fine : (n : ℕ) (fs : List FuncDef) (ps : List Part) (notes : List (List Note)) → FunctionsFit fs → AreTyped (function_parts m n fs ++ ps) notes → FunctionsFine fs ps notes
  functions_fine n [] ps notes h x = record { fine = tt; rest = x }
  functions_fine n (f ∷ fs) ps notes h (field e (body own others nn y z)) =
      let more = functions_fine (suc n) fs ps others h.1 z in
      subst (FunctionsFine (f ∷ fs) ps) (sym nn) (record {
        fine = (first_none (function_type_broken f.ty) _ e, all_fit k f.body h.0, more.fine);
        rest = more.rest;
      })

  globals_fine : (n : ℕ) (gs : List GlobalDef) (ps : List Part) (notes : List (List Note)) → GlobalsFit gs → AreTyped (global_parts m n gs ++ ps) notes → FineGlobals (linked_globals file k gs notes)
  globals_fine n [] ps notes h x = tt
  globals_fine n (g ∷ gs) ps notes h (field e (body own others nn y z)) =
      subst (λ (l : List (List Note)). FineGlobals (linked_globals file k (g ∷ gs) l)) (sym nn) (e, all_fit k g.body h.0, globals_fine (suc n) gs ps others h.1 z)

-- those of files
abbrev pub AreFine : LinkedFields → Type 0
AreFine fields = FineFunctions fields.funcs × FineGlobals fields.globals

module _ (files : List File) where
  pub fields_fine : (at : ℕ) (fs : List File) (fields : LinkedFields) → AreWellTyped fs → AreFit fs → linked_from files at fs ≡ Ok fields → AreFine fields
  fields_fine at [] fields w h e = let none : record { funcs = []; globals = [] } ≡ fields = cc in subst AreFine none (tt, tt)
  fields_fine at (f ∷ fs) fields w h e =
      let imports = answered (all_imported files at 0 f.1.source.imports) _ fields e in
      let more = answered (linked_from files (suc at) fs) _ fields imports.2 in
      let rest = fields_fine (suc at) fs more.0 w.1 h.2 more.1 in
      let m = f.1.source in
      let k : NewNumbers = new_numbers files at m imports.0 in
      let bodies = functions_fine k at m (length m.imports) m.funcs (global_parts m 0 m.globals ++ export_parts m 0 [] m.exports) f.1.notes h.0
      (without_imports 0 m.imports (function_parts m (length m.imports) m.funcs ++ (global_parts m 0 m.globals ++ export_parts m 0 [] m.exports)) f.1.notes w.0) in
      let inits = globals_fine k at m 0 m.globals (export_parts m 0 [] m.exports) (drop (length m.funcs) f.1.notes) h.1 bodies.rest in
      let funcs = linked_functions at k m.funcs f.1.notes in
      let globs = linked_globals at k m.globals (drop (length m.funcs) f.1.notes) in
      let whole : record { funcs = funcs ++ more.0.funcs; globals = globs ++ more.0.globals } ≡ fields = ok_of more.2 in
      subst AreFine whole (functions_joined funcs more.0.funcs bodies.fine rest.0, globals_joined globs more.0.globals inits rest.1)
    where
      ok_of : {x y : LinkedFields} → (let r : Result LinkedFields LinkRefusal = Ok x in r) ≡ Ok y → x ≡ y
      ok_of e = cc
