-- The bodies of a program have their words within their frames.
use Rattle.std.proofs.Common.{◌≡◌, ℕ, zero, suc, ◌+◌, ◌≤◌, List, [], ◌∷◌, Bool, true, false, Some, reverse, subst, arith}
use Rattle.std.specs.Prelude.{slice_get, if◌then◌else◌}
use Rattle.rw_types.specs.declared.types.FunType.{FunType}
use Rattle.rich_types.specs.Scopes.{scope_of}
use Rattle.rich_types.specs.Sizes.{list_size}
use Rattle.rich_rules.specs.Points.{GlobalType, OfFunction, OfGlobal}
use Rattle.rich_rules.specs.Derivations.{Derives}
use Rattle.rich_rules.specs.Modules.{function_demand, function_start, initialiser_demand, initialiser_start, slots_of_locals}
use Rattle.rich_rules_formed.proofs.Rows.{function_formed, starts_formed}
use Rattle.rw_program.specs.declared.linked.LinkedFunc.{LinkedFunc}
use Rattle.rw_program.specs.declared.linked.LinkedGlobal.{LinkedGlobal}
use Rattle.rw_program.specs.Linking.{func_of, global_of}
use Rattle.rich_linking.specs.TypedPrograms.{AreTypedFunctions, AreTypedGlobals, linked_frame, types_of_functions, types_of_globals}
use Rattle.layout.specs.Bodies.{is_ended, text_order}
use Rattle.layout.specs.Frames.{end_words, global_words, greatest_height, initialiser_room, result_words, room_of}
use Rattle.lowering_heights.specs.Heights.{end_height}
use Rattle.lowering_heights.specs.Laws.{FunctionsHoldTheirOperands, InitialisersHoldTheirOperands, frame_of_function, frame_of_initialiser}
use Rattle.lowering_heights.proofs.Sizes.{size-reverse}
use Rattle.lowering_heights.proofs.Counted.{heights_rise}
use Rattle.lowering_heights.proofs.Within.{stays_within}

module _ (functions : List FunType) (globals : List GlobalType) where
  pub found_function : (fs : List LinkedFunc) (n : ℕ) (g : LinkedFunc) → AreTypedFunctions functions globals fs → slice_get fs n ≡ Some g →
      Derives (linked_frame functions globals (slots_of_locals (func_of g)) OfFunction) (function_demand (func_of g)) (function_start (func_of g)) g.body g.notes
  found_function [] n g x e = cc
  found_function (f ∷ fs) zero g x e =
      let same : f ≡ g = cc in
      subst (λ (h : LinkedFunc). Derives (linked_frame functions globals (slots_of_locals (func_of h)) OfFunction) (function_demand (func_of h)) (function_start (func_of h)) h.body h.notes) same x.0
  found_function (f ∷ fs) (suc n) g x e = found_function fs n g x.1 e

  abbrev Initialised : ℕ → LinkedGlobal → Type 0
  Initialised n g = Derives (linked_frame functions globals [] (OfGlobal n)) (initialiser_demand (global_of g)) initialiser_start g.body g.notes

  found_from : (gs : List LinkedGlobal) (k n : ℕ) (g : LinkedGlobal) → AreTypedGlobals functions globals k gs → slice_get gs n ≡ Some g → (m : ℕ) × (m ≡ k + n) × Initialised m g
  found_from [] k n g x e = cc
  found_from (h ∷ gs) k zero g x e =
      let same : h ≡ g = cc in
      let here : k ≡ k + 0 = omega arith in
      (k, here, subst (Initialised k) same x.0)
  found_from (h ∷ gs) k (suc n) g x e =
      let y = found_from gs (suc k) n g x.1 e in
      let one_more : y.0 ≡ k + suc n = omega (arith, y.1) in
      (y.0, one_more, y.2)

  pub found_global : (gs : List LinkedGlobal) (n : ℕ) (g : LinkedGlobal) → AreTypedGlobals functions globals 0 gs → slice_get gs n ≡ Some g → Initialised n g
  found_global gs n g x e =
      let y = found_from gs 0 n g x e in
      let number : y.0 ≡ n = omega (arith, y.1) in
      subst (λ (m : ℕ). Initialised m g) number y.2

-- the words at the end of a function's body
function_end : (g : LinkedFunc) → end_height g.body (function_demand (func_of g)) (function_start (func_of g)) ≤ end_words g
function_end g = by_test (is_ended g.body)
  where
    by_test : (b : Bool) → (if b then 0 else list_size (scope_of g.ty.binders) (reverse g.ty.results) + 0) ≤ (if b then 0 else result_words g)
    by_test true = omega arith
    by_test false = omega (arith, size-reverse (scope_of g.ty.binders) g.ty.results)

pub functions_hold : FunctionsHoldTheirOperands
functions_hold p n g q typed there formed s =
    let x = found_function (types_of_functions p.funcs) (types_of_globals p.globals) p.funcs n g typed.functions there in
    stays_within (frame_of_function p g) g.body (function_demand (func_of g)) (room_of g) (function_formed (func_of g) formed) x
    (heights_rise (text_order g.body) g.notes (end_height g.body (function_demand (func_of g)) (function_start (func_of g))) (end_words g) (function_end g)) s

global_end : (g : LinkedGlobal) → end_height g.body (initialiser_demand (global_of g)) initialiser_start ≤ global_words g
global_end g = by_test (is_ended g.body)
  where
    by_test : (b : Bool) → (if b then 0 else global_words g + 0 + 0) ≤ global_words g
    by_test true = omega arith
    by_test false = omega arith

within_all : (gs : List LinkedGlobal) (n : ℕ) (g : LinkedGlobal) → slice_get gs n ≡ Some g → greatest_height (text_order g.body) g.notes (global_words g) ≤ initialiser_room gs
within_all [] n g e = cc
within_all (h ∷ gs) zero g e =
    let same : h ≡ g = cc in
    subst (λ (k : LinkedGlobal). greatest_height (text_order k.body) k.notes (global_words k) ≤ initialiser_room (h ∷ gs)) same (omega arith)
within_all (h ∷ gs) (suc n) g e = omega (arith, within_all gs n g e)

pub initialisers_hold : InitialisersHoldTheirOperands
initialisers_hold p n g q typed there s =
    let x = found_global (types_of_functions p.funcs) (types_of_globals p.globals) p.globals n g typed.globals there in
    let rise = heights_rise (text_order g.body) g.notes (end_height g.body (initialiser_demand (global_of g)) initialiser_start) (global_words g) (global_end g) in
    stays_within (frame_of_initialiser p n) g.body (initialiser_demand (global_of g)) (initialiser_room p.globals) starts_formed.initialiser x (omega (arith, rise, within_all p.globals n g there)) s
