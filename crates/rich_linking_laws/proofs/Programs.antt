-- The program that well-typed files link to is typed: file by file, function by function.
use Rattle.std.proofs.Common.{◌≡◌, ◌<◌, ℕ, suc, ◌+◌, List, [], ◌∷◌, ◌++◌, refl, ap, sym, subst, length, map, drop, arith}
use Rattle.rw_types.specs.declared.modules.FuncDef.{FuncDef}
use Rattle.rw_types.specs.declared.modules.GlobalDef.{GlobalDef}
use Rattle.rw_types.specs.declared.modules.ImportDef.{ImportDef}
use Rattle.rw_types.specs.declared.modules.Module.{Module}
use Rattle.rw_types.specs.declared.types.FunType.{FunType}
use Rattle.rich_typing.specs.declared.notes.Note.{Note}
use Rattle.rich_rules.specs.Points.{GlobalType, OfFunction, OfGlobal}
use Rattle.rich_rules.specs.Modules.{AreTyped, Part, body, field, function_frame, function_parts, global_parts, import_parts, initialiser_frame, slots_of_locals}
use Rattle.rich_linking.specs.Numbers.{NewNumbers}
use Rattle.rich_linking.specs.Linked.{linked_functions, linked_globals}
use Rattle.rich_linking.specs.TypedPrograms.{AreTypedFunctions, AreTypedGlobals, linked_frame, types_of_functions, types_of_globals}
use Rattle.rich_linking_laws.specs.Laws.{FramesAgree}
use Rattle.rich_linking_laws.proofs.Kept.{kept}

-- imports ask nothing
pub without_imports : (n : ℕ) (is : List ImportDef) (ps : List Part) (notes : List (List Note)) → AreTyped (import_parts n is ++ ps) notes → AreTyped ps notes
without_imports n [] ps notes x = x
without_imports n (i ∷ is) ps notes (field e x) = without_imports (suc n) is ps notes x

module _ (functions : List FunType) (globals : List GlobalType) (k : NewNumbers) (file : ℕ) (m : Module) where
  -- what the functions of a file become, and what is left of its parts and notes
  pub record FunctionsLinked (fs : List FuncDef) (ps : List Part) (notes : List (List Note)) : Type 0 where
    pub typed : AreTypedFunctions functions globals (linked_functions file k fs notes)
    pub types : types_of_functions (linked_functions file k fs notes) ≡ map (λ (f : FuncDef). f.ty) fs
    pub rest : AreTyped ps (drop (length fs) notes)

  pub functions_linked : ((f : FuncDef) → FramesAgree k (function_frame m f) (linked_frame functions globals (slots_of_locals f) OfFunction)) → (n : ℕ) (fs : List FuncDef) (ps : List Part) (notes : List (List Note)) → AreTyped (function_parts m n fs ++ ps) notes → FunctionsLinked fs ps notes
  functions_linked agree n [] ps notes x = record { typed = tt; types = refl; rest = x }
  functions_linked agree n (f ∷ fs) ps notes (field e (body own others nn y z)) =
      let more = functions_linked agree (suc n) fs ps others z in
      subst (FunctionsLinked (f ∷ fs) ps) (sym nn) (record {
        typed = (kept k (function_frame m f) (linked_frame functions globals (slots_of_locals f) OfFunction) (agree f) f.body y, more.typed);
        types = ap (λ (l : List FunType). f.ty ∷ l) more.types;
        rest = more.rest;
      })

  -- and its globals
  pub record GlobalsLinked (base n : ℕ) (gs : List GlobalDef) (notes : List (List Note)) : Type 0 where
    pub typed : AreTypedGlobals functions globals (base + n) (linked_globals file k gs notes)
    pub types : types_of_globals (linked_globals file k gs notes) ≡ map (λ (g : GlobalDef). let t : GlobalType = record { mutable = g.mutable; ty = g.ty } in t) gs

  next_global : (base n : ℕ) → base + suc n ≡ suc (base + n)
  next_global base n = omega arith

  pub globals_linked : (base : ℕ) → ((n : ℕ) → n < length m.globals → FramesAgree k (initialiser_frame m n) (linked_frame functions globals [] (OfGlobal (base + n)))) → (n : ℕ) (gs : List GlobalDef) → length m.globals ≡ n + length gs → (ps : List Part) (notes : List (List Note)) → AreTyped (global_parts m n gs ++ ps) notes → GlobalsLinked base n gs notes
  globals_linked base agree n [] l ps notes x = record { typed = tt; types = refl }
  globals_linked base agree n (g ∷ gs) l ps notes (field e (body own others nn y z)) =
      let within : n < length m.globals = omega (arith, l) in
      let left : length m.globals ≡ suc n + length gs = omega (arith, l) in
      let more = globals_linked base agree (suc n) gs left ps others z in
      subst (GlobalsLinked base n (g ∷ gs)) (sym nn) (record {
        typed = (kept k (initialiser_frame m n) (linked_frame functions globals [] (OfGlobal (base + n))) (agree n within) g.body y, subst (λ (i : ℕ). AreTypedGlobals functions globals i (linked_globals file k gs others)) (next_global base n) more.typed);
        types = ap (λ (t : List GlobalType). record { mutable = g.mutable; ty = g.ty } ∷ t) more.types;
      })
