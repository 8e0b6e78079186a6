-- The bodies of functions and of the exported main are typed.
use Rattle.std.proofs.Common.{◌≡◌, ◌≤◌, ◌<◌, ℕ, suc, ◌+◌, List, [], ◌∷◌, ◌++◌, Bool, true, false, Option, None, Some, map, reverse, refl, ap, subst, arith, option_to_list}
use Rattle.std.specs.Prelude.{slice_get, sum, if◌then◌else◌}
use Rattle.std.proofs.Math.Path.{subst⁻¹}
use Rattle.std.proofs.lemmas.List.Sums.{sum_by-append, sum_by-cons}
use Rattle.wasm_ast.specs.declared.types.ValTy.{ValTy}
use Rattle.wasm_ast.specs.declared.types.ValTy.TheVariants.{I64}
use Rattle.wasm_ast.specs.declared.instructions.WInstr as w
use Rattle.wasm_typing.specs.declared.context.Context.{Context}
use Rattle.wasm_typing.specs.Typing.{AreTyped, Labels}
use Rattle.rw_types.specs.declared.types.FunType.{FunType}
use Rattle.rw_types.specs.declared.types.Ty.{Ty}
use Rattle.rich_types.specs.Scopes.{Scope, no_scope, scope_of}
use Rattle.rich_types.specs.Sizes.{list_size, size_under}
use Rattle.rich_typing.specs.declared.notes.Note.{Note}
use Rattle.rw_types.specs.declared.instrs.Instr.{Instr}
use Rattle.rich_rules.specs.Modules.{function_demand, function_start, initialiser_demand, initialiser_start}
use Rattle.rich_rules.specs.Points.{OfFunction, OfGlobal}
use Rattle.rich_rules_formed.proofs.Rows.{function_formed, starts_formed}
use Rattle.rw_program.specs.declared.linked.LinkedFunc.{LinkedFunc}
use Rattle.rw_program.specs.declared.linked.LinkedGlobal.{LinkedGlobal}
use Rattle.rw_program.specs.Linking.{func_of, global_of}
use Rattle.rw_program.specs.Programs.{Program}
use Rattle.rich_linking.specs.Linked.{main_type}
use Rattle.rich_linking.specs.TypedPrograms.{AreTypedGlobals, types_of_functions, types_of_globals}
use Rattle.layout.specs.Bodies.{is_ended, text_order}
use Rattle.layout.specs.Frames.{end_words, global_words, greatest_height, initialiser_room, parameter_words, result_words, room_of}
use Rattle.layout.specs.Limits.{functions_before, global_count, globals_before, globals_words}
use Rattle.lowering_rows.specs.Surroundings.{first_global, in_function, in_initialiser}
use Rattle.lowering_rows.specs.Rows as code
use Rattle.lowering_rows.specs.Functions.{function_body, initialisers}
use Rattle.lowering_heights.specs.Heights.{end_height}
use Rattle.lowering_heights.specs.Laws.{frame_of_function, frame_of_initialiser}
use Rattle.lowering_heights.proofs.Bodies.{found_function}
use Rattle.lowering_heights.proofs.Counted.{heights_rise}
use Rattle.lowering_heights.proofs.Sizes.{size-reverse}
use Rattle.lowering_locals.proofs.Slots.{starts_fit}
use Rattle.lowering_rows_typed.specs.Contexts.{HasWhatIsNamed, taking_words}
use Rattle.lowering_rows_typed.proofs.Moves.{t-gives}
use Rattle.lowering_rows_typed.proofs.Steps.{go, joined, stop, t-block, t-call, t-fetch}
use Rattle.lowering_names.specs.Placed.{HasFormedTypes, IsPlaced, StandsIn}
use Rattle.lowering_names.proofs.Places.{mapped, result_known}
use Rattle.lowering_bodies_typed.specs.Allowed.{AreInitialisersAllowed}
use Rattle.lowering_bodies_typed.specs.Laws.{FunctionsTyped, StartsTyped}
use Rattle.lowering_bodies_typed.proofs.Lists.{lists_typed}

sum-cons : (s : ℕ) (ss : List ℕ) → sum (s ∷ ss) ≡ s + sum ss
sum-cons s ss = sum_by-cons (λ x. x) s ss

summed : (c : Scope) (ts : List Ty) → sum (map (size_under c) ts) ≡ list_size c ts
summed c [] = refl
summed c (t ∷ ts) = omega (arith, sum-cons (size_under c t) (map (size_under c) ts), summed c ts)

-- the height at the end is one of those that are compared
end_at_most : (is : List Instr) (notes : List Note) (end : ℕ) → end ≤ greatest_height is notes end
end_at_most [] notes end = omega arith
end_at_most (i ∷ is) [] end = omega arith
end_at_most (i ∷ is) (note ∷ notes) end = omega (arith, end_at_most is notes end)

function_stands : (p : Program) (type_of : ℕ → ℕ) (g : LinkedFunc) → StandsIn (in_function p type_of g) (frame_of_function p g) (room_of g)
function_stands p type_of g = record {
  functions = refl;
  globals = refl;
  locals = refl;
  operands = (
      let c = scope_of g.ty.binders in
      let joined_sum : sum (map (size_under c) g.ty.params ++ g.locals) ≡ sum (map (size_under c) g.ty.params) + sum g.locals = sum_by-append (λ x. x) (map (size_under c) g.ty.params) g.locals in
      omega (arith, joined_sum, summed c g.ty.params));
  scratch = refl;
}

-- the words at the end of a function
function_end : (g : LinkedFunc) → end_height g.body (function_demand (func_of g)) (function_start (func_of g)) ≤ end_words g
function_end g = by_test (is_ended g.body)
  where
    by_test : (b : Bool) → (if b then 0 else list_size (scope_of g.ty.binders) (reverse g.ty.results) + 0) ≤ (if b then 0 else result_words g)
    by_test true = omega arith
    by_test false = omega (arith, size-reverse (scope_of g.ty.binders) g.ty.results)

few_at_end : (g : LinkedFunc) → end_words g ≤ result_words g
few_at_end g = by_test (is_ended g.body)
  where
    by_test : (b : Bool) → (if b then 0 else result_words g) ≤ result_words g
    by_test true = omega arith
    by_test false = omega arith

function_placed : (p : Program) (type_of : ℕ → ℕ) (n : ℕ) (g : LinkedFunc) (ls : Labels) → HasFormedTypes p → slice_get p.funcs n ≡ Some g → IsPlaced (in_function p type_of g) (frame_of_function p g) (room_of g) ls [] (function_start (func_of g))
function_placed p type_of n g ls types there = record {
  formed = function_formed (func_of g) (types.functions n g there);
  locals = starts_fit (scope_of g.ty.binders) g.ty.params g.locals;
  lowered = tt;
  results = omega (arith, result_known p.funcs n g there, size-reverse (scope_of g.ty.binders) g.ty.results);
  height = omega arith;
}

pub functions_typed : FunctionsTyped
functions_typed p type_of n g C typed types there has result a =
    let s = in_function p type_of g in
    let ls : Labels = C.result ∷ [] in
    let x = found_function (types_of_functions p.funcs) (types_of_globals p.globals) p.funcs n g typed.functions there in
    let room = heights_rise (text_order g.body) g.notes (end_height g.body (function_demand (func_of g)) (function_start (func_of g))) (end_words g) (function_end g) in
    let list = lists_typed s (frame_of_function p g) (room_of g) C ls [] (function_demand (func_of g)) (function_start (func_of g)) g.body g.notes types (function_stands p type_of g) has (λ e. result) (function_placed p type_of n g ls types there) x room a in
    let end = t-gives s C has ls (end_words g) s.places.operands globals_before (omega (arith, end_at_most (text_order g.body) g.notes (end_words g))) (omega arith) (omega (arith, result_known p.funcs n g there, few_at_end g)) in
    subst⁻¹ (λ (t : Option ValTy). AreTyped C ls (function_body p type_of g) [] (option_to_list t)) result (joined C ls list end)

initialiser_stands : (p : Program) (type_of : ℕ → ℕ) (n : ℕ) → StandsIn (in_initialiser p type_of) (frame_of_initialiser p n) (initialiser_room p.globals)
initialiser_stands p type_of n = record { functions = refl; globals = refl; locals = refl; operands = refl; scratch = refl }

initialiser_placed : (p : Program) (type_of : ℕ → ℕ) (n : ℕ) (ls : Labels) → IsPlaced (in_initialiser p type_of) (frame_of_initialiser p n) (initialiser_room p.globals) ls [] initialiser_start
initialiser_placed p type_of n ls = record {
  formed = starts_formed.initialiser;
  locals = record { same_length = refl; fit = λ m t k e s. none m t k e };
  lowered = tt;
  results = omega arith;
  height = omega arith;
}
  where
    none : (m : ℕ) (t : Ty) (k : ℕ) → slice_get [] m ≡ Some t → size_under no_scope t ≤ k
    none m t k e = cc

global_end : (g : LinkedGlobal) → end_height g.body (initialiser_demand (global_of g)) initialiser_start ≤ global_words g
global_end g = by_test (is_ended g.body)
  where
    by_test : (b : Bool) → (if b then 0 else global_words g + 0 + 0) ≤ global_words g
    by_test true = omega arith
    by_test false = omega arith

not_of_function : {A : Type 0} (n : ℕ) → OfGlobal n ≡ OfFunction → A
not_of_function n e = cc

module _ (p : Program) (type_of : ℕ → ℕ) (C : Context) (types : HasFormedTypes p) (has : HasWhatIsNamed (in_initialiser p type_of) C) (ls : Labels) where
  initialisers_typed : (gs : List LinkedGlobal) (n global : ℕ) → AreTypedGlobals (types_of_functions p.funcs) (types_of_globals p.globals) n gs → initialiser_room gs ≤ initialiser_room p.globals → 0 < global → global + globals_words gs ≤ global_count p →
      AreInitialisersAllowed (in_initialiser p type_of) C gs → AreTyped C ls (initialisers (in_initialiser p type_of) global gs) [] []
  initialisers_typed [] n global x h positive few a = stop C ls []
  initialisers_typed (g ∷ gs) n global x h positive few a =
      let s = in_initialiser p type_of in
      let rise = heights_rise (text_order g.body) g.notes (end_height g.body (initialiser_demand (global_of g)) initialiser_start) (global_words g) (global_end g) in
      let list = lists_typed s (frame_of_initialiser p n) (initialiser_room p.globals) C (None ∷ ls) [] (initialiser_demand (global_of g)) initialiser_start g.body g.notes types (initialiser_stands p type_of n) has (not_of_function n)
      (initialiser_placed p type_of n (None ∷ ls)) x.0 (omega (arith, rise, h)) a.0 in
      let given = t-gives s C has ls (global_words g) s.places.operands global (omega (arith, h, end_at_most (text_order g.body) g.notes (global_words g))) positive (omega (arith, few)) in
      let rest = initialisers_typed gs (suc n) (global + global_words g) x.1 (omega (arith, h)) (omega (arith, positive)) (omega (arith, few)) a.1 in
      go C ls (w.Block None (code.rows s [] g.body g.notes)) (t-block C ls [] (code.rows s [] g.body g.notes) list) (joined C ls given rest)

pub starts_typed : StartsTyped
starts_typed p type_of C typed types has result a =
    let ls : Labels = C.result ∷ [] in
    let f = mapped (λ (g : LinkedFunc). g.ty) p.funcs p.main main_type typed.main in
    let params : parameter_words f.0 ≡ 0 = ap (λ (t : FunType). list_size (scope_of t.binders) t.params) f.2 in
    let given : result_words f.0 ≡ 1 = ap (λ (t : FunType). list_size (scope_of t.binders) t.results) f.2 in
    let function = subst (λ (k : ℕ). slice_get C.functions (functions_before + p.main) ≡ Some (taking_words k)) params (has.functions p.main f.0 f.1) in
    let first : slice_get C.globals globals_before ≡ Some _ = has.words globals_before (omega arith) (omega (arith, given, result_known p.funcs p.main f.0 f.1)) in
    let tail : AreTyped C ls (w.Call (functions_before + p.main) ∷ w.GlobalGet globals_before ∷ []) [] (I64 ∷ []) =
    go C ls (w.Call (functions_before + p.main)) (t-call C ls [] (functions_before + p.main) 0 function refl) (go C ls (w.GlobalGet globals_before) (t-fetch C ls [] globals_before first) (stop C ls (I64 ∷ []))) in
    let front = initialisers_typed p type_of C types has ls p.globals 0 (first_global p) typed.globals (omega arith) (omega arith) (omega arith) a in
    subst⁻¹ (λ (t : Option ValTy). AreTyped C ls (initialisers (in_initialiser p type_of) (first_global p) p.globals ++ w.Call (functions_before + p.main) ∷ w.GlobalGet globals_before ∷ []) [] (option_to_list t)) result (joined C ls front tail)
