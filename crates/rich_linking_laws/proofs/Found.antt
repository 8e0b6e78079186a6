-- What an import names, and what a file exports, stands in the program under its number, with its type.
use Rattle.std.proofs.Common.{◌≡◌, ◌∙◌, ℕ, zero, suc, ◌+◌, ◌-◌, List, [], ◌∷◌, ◌++◌, Bool, true, false, Option, Some, None, refl, ap, sym, subst, length, map, cond, arith}
use Rattle.std.specs.Prelude.{slice_get, unwrap_or, Result, Ok, Err, option_map, option_and_then}
use Rattle.rw_types.specs.declared.modules.FuncDef.{FuncDef}
use Rattle.rw_types.specs.declared.modules.GlobalDef.{GlobalDef}
use Rattle.rw_types.specs.declared.modules.ImportDef.{ImportDef}
use Rattle.rw_types.specs.declared.modules.Module.{Module}
use Rattle.rw_types.specs.declared.types.FunType.{FunType}
use Rattle.rw_program.specs.Modules.{TypedModule}
use Rattle.rw_program.specs.Linking.{exported}
use Rattle.rich_rules.specs.Equality.{same_function}
use Rattle.rich_rules.specs.Modules.{global_types}
use Rattle.rich_rules.specs.Points.{GlobalType}
use Rattle.rich_rules_laws.proofs.Compared.{sound_function}
use Rattle.rich_linking.specs.Linked.{File, LinkRefusal, Target, all_imported, and_then, at_place, defined_target, exported_target, functions_before, globals_before, imported, in_file, place_of, with_type}
use Rattle.rich_linking_laws.proofs.Placed.{Placed, mapped, placed_behind, placed_here}

-- the types of the functions that a module defines
abbrev pub own_types : Module → List FunType
own_types m = map (λ (f : FuncDef). f.ty) m.funcs

-- those of all files
abbrev pub all_types : List File → List FunType
all_types [] = []
all_types (f ∷ fs) = own_types f.1.source ++ all_types fs

-- an answer that is no refusal comes from one
pub answered : {A B : Type 0} (x : Result A LinkRefusal) (next : A → Result B LinkRefusal) (y : B) → and_then x next ≡ Ok y → (a : A) × (x ≡ Ok a) × (next a ≡ Ok y)
answered (Ok a) next y e = (a, refl, e)
answered (Err r) next y e = cc

same_length : (fs : List FuncDef) → length fs ≡ length (map (λ (f : FuncDef). f.ty) fs)
same_length [] = refl
same_length (f ∷ fs) = ap (λ (n : ℕ). suc n) (same_length fs)

pub types_placed : (files : List File) (at : ℕ) (f : File) → slice_get files at ≡ Some f → Placed (all_types files) (own_types f.1.source) (functions_before at files)
types_placed [] at f e = cc
types_placed (g ∷ files) zero f e = first e
  where
    first : Some g ≡ Some f → Placed (all_types (g ∷ files)) (own_types f.1.source) 0
    first e = let same : g ≡ f = cc in subst (λ (x : File). Placed (all_types (g ∷ files)) (own_types x.1.source) 0) same (placed_here (own_types g.1.source) (all_types files))
types_placed (g ∷ files) (suc at) f e = placed_behind (own_types g.1.source) (all_types files) (own_types f.1.source) (functions_before at files) (length g.1.source.funcs) (same_length g.1.source.funcs) (types_placed files at f e)

module _ (all : List FunType) (files : List File) where
  -- an exported function
  defined_found : (base : ℕ) (m : Module) (n : ℕ) (t : Target) → Placed all (own_types m) base → defined_target base m n ≡ Some t → slice_get all t.number ≡ Some t.ty
  defined_found base m n t h e = go (slice_get m.funcs (n - length m.imports)) refl e
    where
      go : (x : Option FuncDef) → slice_get m.funcs (n - length m.imports) ≡ x → option_map (λ (f : FuncDef). record { number = base + (n - length m.imports); ty = f.ty }) x ≡ Some t → slice_get all t.number ≡ Some t.ty
      go None s e = cc
      go (Some f) s e =
          let same : record { number = base + (n - length m.imports); ty = f.ty } ≡ t = cc in
          subst (λ (x : Target). slice_get all x.number ≡ Some x.ty) same (h (n - length m.imports) f.ty (mapped (λ (f : FuncDef). f.ty) m.funcs (n - length m.imports) f s))

  pub export_found : (at : ℕ) (file : TypedModule) (name : List ℕ) (t : Target) → Placed all (own_types file.source) (functions_before at files) → exported_target files at file name ≡ Some t → slice_get all t.number ≡ Some t.ty
  export_found at file name t h e = go (exported name file.source.exports) e
    where
      go : (x : Option ℕ) → option_and_then (λ n. defined_target (functions_before at files) file.source n) x ≡ Some t → slice_get all t.number ≡ Some t.ty
      go None e = cc
      go (Some n) e = defined_found (functions_before at files) file.source n t h e

  module _ (placed : (at : ℕ) (f : File) → slice_get files at ≡ Some f → Placed all (own_types f.1.source) (functions_before at files)) where
    typed_found : (file n : ℕ) (ty : FunType) (o : Option Target) (number : ℕ) → ((t : Target) → o ≡ Some t → slice_get all t.number ≡ Some t.ty) → with_type file n ty o ≡ Ok number → slice_get all number ≡ Some ty
    typed_found file n ty None number h e = cc
    typed_found file n ty (Some t) number h e = by_test (same_function t.ty ty) refl e
      where
        by_test : (b : Bool) → same_function t.ty ty ≡ b → cond b (Ok t.number) (Err (Rattle.rich_linking.specs.Linked.TypeDiffers file n t.ty ty)) ≡ Ok number → slice_get all number ≡ Some ty
        by_test true s e = let at : t.number ≡ number = cc in ap (slice_get all) (sym at) ∙ h t refl ∙ ap Some (sound_function t.ty ty s)
        by_test false s e = cc

    pub import_found : (file n : ℕ) (i : ImportDef) (number : ℕ) → imported files file n i ≡ Ok number → slice_get all number ≡ Some i.ty
    import_found file n i number e = at_found (place_of i.«module» files) e
      where
        in_found : (at : ℕ) (o : Option File) → slice_get files at ≡ o → in_file files file n i at o ≡ Ok number → slice_get all number ≡ Some i.ty
        in_found at None s e = cc
        in_found at (Some f) s e = typed_found file n i.ty (exported_target files at f.1 i.name) number (λ t x. export_found at f.1 i.name t (placed at f s) x) e

        at_found : (o : Option ℕ) → at_place files file n i o ≡ Ok number → slice_get all number ≡ Some i.ty
        at_found None e = cc
        at_found (Some at) e = in_found at (slice_get files at) refl e

    -- imports before what a file defines
    pub imports_found : (file n : ℕ) (is : List ImportDef) (numbers own : List ℕ) (rest : List FunType) → all_imported files file n is ≡ Ok numbers →
        ((j : ℕ) (t : FunType) (d : ℕ) → slice_get rest j ≡ Some t → slice_get all (unwrap_or (slice_get own j) d) ≡ Some t) →
        (j : ℕ) (t : FunType) (d : ℕ) → slice_get (map (λ (i : ImportDef). i.ty) is ++ rest) j ≡ Some t → slice_get all (unwrap_or (slice_get (numbers ++ own) j) d) ≡ Some t
    imports_found file n [] numbers own rest e h j t d f = let none : [] ≡ numbers = cc in subst (λ (l : List ℕ). slice_get all (unwrap_or (slice_get (l ++ own) j) d) ≡ Some t) none (h j t d f)
    imports_found file n (i ∷ is) numbers own rest e h j t d f =
        let one = answered (imported files file n i) _ numbers e in
        let more = answered (all_imported files file (suc n) is) _ numbers one.2 in
        let whole : one.0 ∷ more.0 ≡ numbers = cc in
        subst (λ (l : List ℕ). slice_get all (unwrap_or (slice_get (l ++ own) j) d) ≡ Some t) whole (by_number (λ others y j f. imports_found file (suc n) is others own rest y h j t d f) j one.0 more.0 one.1 more.1 f)
      where
        by_number : ((others : List ℕ) → all_imported files file (suc n) is ≡ Ok others → (j : ℕ) → slice_get (map (λ (i : ImportDef). i.ty) is ++ rest) j ≡ Some t → slice_get all (unwrap_or (slice_get (others ++ own) j) d) ≡ Some t) → (j : ℕ) (number : ℕ) (others : List ℕ) → imported files file n i ≡ Ok number → all_imported files file (suc n) is ≡ Ok others → slice_get (i.ty ∷ (map (λ (i : ImportDef). i.ty) is ++ rest)) j ≡ Some t → slice_get all (unwrap_or (slice_get (number ∷ (others ++ own)) j) d) ≡ Some t
        by_number more zero number others x y f = import_found file n i number x ∙ f
        by_number more (suc j) number others x y f = more others y j f

-- what globals are to bodies, in one file and in all
abbrev pub own_globals : Module → List GlobalType
own_globals m = global_types m

abbrev pub all_globals : List File → List GlobalType
all_globals [] = []
all_globals (f ∷ fs) = own_globals f.1.source ++ all_globals fs

same_count : (gs : List GlobalDef) → length gs ≡ length (map (λ (g : GlobalDef). let t : GlobalType = record { mutable = g.mutable; ty = g.ty } in t) gs)
same_count [] = refl
same_count (g ∷ gs) = ap (λ (n : ℕ). suc n) (same_count gs)

pub globals_placed : (files : List File) (at : ℕ) (f : File) → slice_get files at ≡ Some f → Placed (all_globals files) (own_globals f.1.source) (globals_before at files)
globals_placed [] at f e = cc
globals_placed (g ∷ files) zero f e = first e
  where
    first : Some g ≡ Some f → Placed (all_globals (g ∷ files)) (own_globals f.1.source) 0
    first e = let same : g ≡ f = cc in subst (λ (x : File). Placed (all_globals (g ∷ files)) (own_globals x.1.source) 0) same (placed_here (own_globals g.1.source) (all_globals files))
globals_placed (g ∷ files) (suc at) f e = placed_behind (own_globals g.1.source) (all_globals files) (own_globals f.1.source) (globals_before at files) (length g.1.source.globals) (same_count g.1.source.globals) (globals_placed files at f e)

-- the globals before the next file
pub globals_next : (files : List File) (at : ℕ) (f : File) → slice_get files at ≡ Some f → globals_before (suc at) files ≡ globals_before at files + length f.1.source.globals
globals_next [] at f e = cc
globals_next (g ∷ files) zero f e = let same : g ≡ f = cc in ap (λ (x : File). length x.1.source.globals + 0) same ∙ last (length f.1.source.globals)
  where
    last : (n : ℕ) → n + 0 ≡ 0 + n
    last n = omega arith
globals_next (g ∷ files) (suc at) f e = ap (λ (n : ℕ). length g.1.source.globals + n) (globals_next files at f e) ∙ regroup (length g.1.source.globals) (globals_before at files) (length f.1.source.globals)
  where
    regroup : (a b c : ℕ) → a + (b + c) ≡ (a + b) + c
    regroup a b c = omega arith
