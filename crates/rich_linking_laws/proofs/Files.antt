-- The program that well-typed files link to is typed.
use Rattle.std.proofs.Common.{◌≡◌, ◌∙◌, ◌<◌, ℕ, zero, suc, ◌+◌, List, [], ◌∷◌, ◌++◌, Bool, true, false, Option, Some, None, refl, ap, sym, subst, length, map, cond, drop, arith}
use Rattle.std.specs.Prelude.{slice_get, unwrap_or, Result, Ok, Err, codes}
use Rattle.rw_types.specs.declared.modules.FuncDef.{FuncDef}
use Rattle.rw_types.specs.declared.modules.GlobalDef.{GlobalDef}
use Rattle.rw_types.specs.declared.types.FunType.{FunType}
use Rattle.rw_program.specs.declared.linked.LinkedFunc.{LinkedFunc}
use Rattle.rw_program.specs.declared.linked.LinkedGlobal.{LinkedGlobal}
use Rattle.rw_program.specs.Programs.{Program}
use Rattle.rich_rules.specs.Equality.{same_function}
use Rattle.rich_rules.specs.Points.{GlobalType, OfFunction, OfGlobal}
use Rattle.rich_rules.specs.Modules.{export_parts, function_frame, function_parts, global_parts, initialiser_frame, slots_of_locals}
use Rattle.rich_rules_laws.proofs.Compared.{sound_function}
use Rattle.rich_linking.specs.Numbers.{NewNumbers}
use Rattle.rich_linking.specs.Linked.{File, LinkedFields, LinkRefusal, MainType, Target, all_imported, counting, functions_before, globals_before, linked, linked_apart, linked_from, linked_functions, linked_globals, main_of, main_type, new_numbers, twice_named, with_main}
use Rattle.rich_linking.specs.TypedPrograms.{AreTypedFunctions, AreTypedGlobals, AreWellTyped, IsTypedProgram, linked_frame, types_of_functions, types_of_globals}
use Rattle.rich_linking_laws.specs.Laws.{FramesAgree}
use Rattle.rich_linking_laws.proofs.Placed.{Placed, counted, placed_head, placed_tail}
use Rattle.rich_linking_laws.proofs.Found.{all_globals, all_types, answered, export_found, globals_next, globals_placed, imports_found, own_globals, own_types, types_placed}
use Rattle.rich_linking_laws.proofs.Programs.{functions_linked, globals_linked, without_imports}

-- typed functions one after another, and typed globals
functions_joined : (functions : List FunType) (globals : List GlobalType) (xs ys : List LinkedFunc) → AreTypedFunctions functions globals xs → AreTypedFunctions functions globals ys → AreTypedFunctions functions globals (xs ++ ys)
functions_joined functions globals [] ys x y = y
functions_joined functions globals (f ∷ xs) ys x y = (x.0, functions_joined functions globals xs ys x.1 y)

globals_joined : (functions : List FunType) (globals : List GlobalType) (n m : ℕ) (xs ys : List LinkedGlobal) → m ≡ n + length xs → AreTypedGlobals functions globals n xs → AreTypedGlobals functions globals m ys → AreTypedGlobals functions globals n (xs ++ ys)
globals_joined functions globals n m [] ys e x y = let same : m ≡ n = omega (arith, e) in subst (λ (i : ℕ). AreTypedGlobals functions globals i ys) same y
globals_joined functions globals n m (g ∷ xs) ys e x y = let less : m ≡ suc n + length xs = omega (arith, e) in (x.0, globals_joined functions globals (suc n) m xs ys less x.1 y)

types_joined : (xs ys : List LinkedFunc) → types_of_functions (xs ++ ys) ≡ types_of_functions xs ++ types_of_functions ys
types_joined [] ys = refl
types_joined (f ∷ xs) ys = ap (λ (l : List FunType). f.ty ∷ l) (types_joined xs ys)

global_types_joined : (xs ys : List LinkedGlobal) → types_of_globals (xs ++ ys) ≡ types_of_globals xs ++ types_of_globals ys
global_types_joined [] ys = refl
global_types_joined (g ∷ xs) ys = ap (λ (l : List GlobalType). record { mutable = g.mutable; ty = g.ty } ∷ l) (global_types_joined xs ys)

same_count : (xs : List LinkedGlobal) → length (types_of_globals xs) ≡ length xs
same_count [] = refl
same_count (g ∷ xs) = ap (λ (n : ℕ). suc n) (same_count xs)

same_total : (gs : List GlobalDef) → length (map (λ (g : GlobalDef). let t : GlobalType = record { mutable = g.mutable; ty = g.ty } in t) gs) ≡ length gs
same_total [] = refl
same_total (g ∷ gs) = ap (λ (n : ℕ). suc n) (same_total gs)

-- numbers that are counted keep their order
counted_number : (c b n d : ℕ) → n < c → unwrap_or (slice_get (counting c b) n) d ≡ b + n
counted_number zero b n d l = absurd (omega (arith, l))
counted_number (suc c) b zero d l = base b
  where
    base : (b : ℕ) → b ≡ b + 0
    base b = omega arith
counted_number (suc c) b (suc n) d l = let less : n < c = omega (arith, l) in counted_number c (suc b) n d less ∙ move b n
  where
    move : (b n : ℕ) → suc b + n ≡ b + suc n
    move b n = omega arith

module _ (files : List File) where
  -- the frames of a file and of the program agree
  agree : (at : ℕ) (f : File) → slice_get files at ≡ Some f → (imports : List ℕ) → all_imported files at 0 f.1.source.imports ≡ Ok imports → (d : FuncDef) → FramesAgree (new_numbers files at f.1.source imports) (function_frame f.1.source d) (linked_frame (all_types files) (all_globals files) (slots_of_locals d) OfFunction)
  agree at f s imports e d = record {
    functions = λ n t x. imports_found (all_types files) files (types_placed files) at 0 f.1.source.imports imports (counting (length f.1.source.funcs) (functions_before at files)) (own_types f.1.source) e (λ j u c y. counted (all_types files) (λ (g : FuncDef). g.ty) f.1.source.funcs (functions_before at files) (types_placed files at f s) j u c y) n t n x;
    globals = λ n t x. counted (all_globals files) (λ (g : GlobalDef). let t : GlobalType = record { mutable = g.mutable; ty = g.ty } in t) f.1.source.globals (globals_before at files) (globals_placed files at f s) n t n x;
    slots = refl;
    owners = tt;
  }

  agree_of_globals : (at : ℕ) (f : File) → slice_get files at ≡ Some f → (imports : List ℕ) → all_imported files at 0 f.1.source.imports ≡ Ok imports → (own : ℕ) → own < length f.1.source.globals → FramesAgree (new_numbers files at f.1.source imports) (initialiser_frame f.1.source own) (linked_frame (all_types files) (all_globals files) [] (OfGlobal (globals_before at files + own)))
  agree_of_globals at f s imports e own l = record {
    functions = λ n t x. imports_found (all_types files) files (types_placed files) at 0 f.1.source.imports imports (counting (length f.1.source.funcs) (functions_before at files)) (own_types f.1.source) e (λ j u c y. counted (all_types files) (λ (g : FuncDef). g.ty) f.1.source.funcs (functions_before at files) (types_placed files at f s) j u c y) n t n x;
    globals = λ n t x. counted (all_globals files) (λ (g : GlobalDef). let t : GlobalType = record { mutable = g.mutable; ty = g.ty } in t) f.1.source.globals (globals_before at files) (globals_placed files at f s) n t n x;
    slots = refl;
    owners = λ n less. before n less;
  }
    where
      before : (n : ℕ) → n < own → unwrap_or (slice_get (counting (length f.1.source.globals) (globals_before at files)) n) n < globals_before at files + own
      before n less = let few : n < length f.1.source.globals = omega (arith, l, less) in let is = counted_number (length f.1.source.globals) (globals_before at files) n n few in omega (arith, is, less)

  -- what files from a place on become
  pub record FieldsTyped (at : ℕ) (fs : List File) (fields : LinkedFields) : Type 0 where
    pub functions : AreTypedFunctions (all_types files) (all_globals files) fields.funcs
    pub globals : AreTypedGlobals (all_types files) (all_globals files) (globals_before at files) fields.globals
    pub types : types_of_functions fields.funcs ≡ all_types fs
    pub global_types : types_of_globals fields.globals ≡ all_globals fs

  fields_typed : (at : ℕ) (fs : List File) (fields : LinkedFields) → Placed files fs at → AreWellTyped fs → linked_from files at fs ≡ Ok fields → FieldsTyped at fs fields
  fields_typed at [] fields h w e = let none : record { funcs = []; globals = [] } ≡ fields = cc in subst (FieldsTyped at []) none (record { functions = tt; globals = tt; types = refl; global_types = refl })
  fields_typed at (f ∷ fs) fields h w e =
      let s : slice_get files at ≡ Some f = placed_head files f fs at h in
      let imports = answered (all_imported files at 0 f.1.source.imports) _ fields e in
      let more = answered (linked_from files (suc at) fs) _ fields imports.2 in
      let rest = fields_typed (suc at) fs more.0 (placed_tail files f fs at h) w.1 more.1 in
      let m = f.1.source in
      let k : NewNumbers = new_numbers files at m imports.0 in
      let bodies = functions_linked (all_types files) (all_globals files) k at m (agree at f s imports.0 imports.1) (length m.imports) m.funcs (global_parts m 0 m.globals ++ export_parts m 0 [] m.exports) f.1.notes
      (without_imports 0 m.imports (function_parts m (length m.imports) m.funcs ++ (global_parts m 0 m.globals ++ export_parts m 0 [] m.exports)) f.1.notes w.0) in
      let values = globals_linked (all_types files) (all_globals files) k at m (globals_before at files) (agree_of_globals at f s imports.0 imports.1) 0 m.globals (all_of (length m.globals)) (export_parts m 0 [] m.exports) (drop (length m.funcs) f.1.notes) bodies.rest in
      let funcs = linked_functions at k m.funcs f.1.notes in
      let globs = linked_globals at k m.globals (drop (length m.funcs) f.1.notes) in
      let whole : record { funcs = funcs ++ more.0.funcs; globals = globs ++ more.0.globals } ≡ fields = ok_of more.2 in
      subst (FieldsTyped at (f ∷ fs)) whole (record {
        functions = functions_joined (all_types files) (all_globals files) funcs more.0.funcs bodies.typed rest.functions;
        globals = globals_joined (all_types files) (all_globals files) (globals_before at files) (globals_before (suc at) files) globs more.0.globals (globals_next files at f s ∙ ap (λ (n : ℕ). globals_before at files + n) (sym (same_total m.globals) ∙ ap length (sym values.types) ∙ same_count globs)) (subst (λ (i : ℕ). AreTypedGlobals (all_types files) (all_globals files) i globs) (none_more (globals_before at files)) values.typed) rest.globals;
        types = types_joined funcs more.0.funcs ∙ ap (λ (l : List FunType). l ++ types_of_functions more.0.funcs) bodies.types ∙ ap (λ (l : List FunType). own_types m ++ l) rest.types;
        global_types = global_types_joined globs more.0.globals ∙ ap (λ (l : List GlobalType). l ++ types_of_globals more.0.globals) values.types ∙ ap (λ (l : List GlobalType). own_globals m ++ l) rest.global_types;
      })
    where
      all_of : (n : ℕ) → n ≡ 0 + n
      all_of n = omega arith

      none_more : (n : ℕ) → n + 0 ≡ n
      none_more n = omega arith

      ok_of : {x y : LinkedFields} → (let r : Result LinkedFields LinkRefusal = Ok x in r) ≡ Ok y → x ≡ y
      ok_of e = cc

  -- the main function of the last file
  main_found : (at : ℕ) (fs : List File) (t : Target) → Placed files fs at → main_of files at fs ≡ Some t → slice_get (all_types files) t.number ≡ Some t.ty
  main_found at [] t h e = cc
  main_found at (f ∷ []) t h e = export_found (all_types files) files at f.1 (codes "main") t (types_placed files at f (placed_head files f [] at h)) e
  main_found at (f ∷ g ∷ fs) t h e = main_found (suc at) (g ∷ fs) t (placed_tail files f (g ∷ fs) at h) e

  everything : Placed files files 0
  everything j f e = ap (slice_get files) (from j) ∙ e
    where
      from : (j : ℕ) → 0 + j ≡ j
      from j = omega arith

  with_main_typed : (fields : LinkedFields) (o : Option Target) (p : Program) → ((t : Target) → o ≡ Some t → slice_get (all_types files) t.number ≡ Some t.ty) → FieldsTyped 0 files fields → with_main fields o ≡ Ok p → IsTypedProgram p
  with_main_typed fields None p h x e = cc
  with_main_typed fields (Some t) p h x e = by_test (same_function t.ty main_type) refl e
    where
      by_test : (b : Bool) → same_function t.ty main_type ≡ b → cond b (Ok (record { funcs = fields.funcs; globals = fields.globals; main = t.number })) (Err MainType) ≡ Ok p → IsTypedProgram p
      by_test false s e = cc
      by_test true s e =
          let whole : record { funcs = fields.funcs; globals = fields.globals; main = t.number } ≡ p = cc in
          subst IsTypedProgram whole (record {
            functions = subst (λ (l : List FunType). AreTypedFunctions l (types_of_globals fields.globals) fields.funcs) (sym x.types) (subst (λ (l : List GlobalType). AreTypedFunctions (all_types files) l fields.funcs) (sym x.global_types) x.functions);
            globals = subst (λ (l : List FunType). AreTypedGlobals l (types_of_globals fields.globals) 0 fields.globals) (sym x.types) (subst (λ (l : List GlobalType). AreTypedGlobals (all_types files) l 0 fields.globals) (sym x.global_types) x.globals);
            main = ap (λ (l : List FunType). slice_get l t.number) x.types ∙ h t refl ∙ ap Some (sound_function t.ty main_type s);
          })

  pub linked_typed : (p : Program) → AreWellTyped files → linked files ≡ Ok p → IsTypedProgram p
  linked_typed p w e = apart (twice_named [] files) e
    where
      apart : (o : Option (ℕ × ℕ)) → linked_apart files o ≡ Ok p → IsTypedProgram p
      apart (Some pair) e = cc
      apart None e =
          let fields = answered (linked_from files 0 files) _ p e in
          with_main_typed fields.0 (main_of files 0 files) p (λ t s. main_found 0 files t everything s) (fields_typed 0 files fields.0 everything w fields.1) fields.2
