-- Rows that call a function and the one on top of the operands, and one that answers the binders of a function.
use Rattle.std.proofs.Common.{◌≡◌, ◌≤◌, ◌∙◌, ℕ, zero, suc, List, [], ◌∷◌, ◌++◌, None, Option, Some, length, reverse, drop, refl, sym, ap, subst, arith, inl, inr}
use Rattle.std.specs.Prelude.{slice_get}
use Rattle.std.proofs.lemmas.List.{length-reverse}
use Rattle.rw_types.specs.declared.instrs.Instr.{Instr, Call, CallIndirect, Inst, GlobalSet}
use Rattle.rw_types.specs.declared.types.Arg.{Arg}
use Rattle.rw_types.specs.declared.types.FunType.{FunType}
use Rattle.rw_types.specs.declared.types.Pre.TheVariants.{Code}
use Rattle.rw_types.specs.declared.types.Qual.TheVariants.{Unr}
use Rattle.rw_types.specs.declared.types.Ty.{Ty, Of}
use Rattle.rw_program.specs.declared.linked.LinkedFunc.{LinkedFunc}
use Rattle.rw_program.specs.declared.linked.LinkedGlobal.{LinkedGlobal}
use Rattle.rw_program.specs.Programs.{Program}
use Rattle.machine_steps.specs.Steps.{Turn, Went, with_found}
use Rattle.rich_types.specs.Scopes.{scope_of}
use Rattle.rich_types.specs.Walks.{below, outside, walk_list}
use Rattle.rich_types.specs.Instances.{Substitution, substituting, no_substitution}
use Rattle.rich_types_laws.specs.Laws.{AnswerAll}
use Rattle.rich_typing.specs.declared.notes.Note.{Note}
use Rattle.rich_rules.specs.Calls.{call_row, call_indirect_row, instantiated}
use Rattle.rich_rules.specs.Points.{Owner, OfFunction, OfGlobal, Outcome, Gives}
use Rattle.rich_rules.specs.Raised.{instances}
use Rattle.rich_rules.specs.Table.{in_function}
use Rattle.rich_rules.specs.Takers.{gives}
use Rattle.rich_rules.specs.Derivations.{Follows}
use Rattle.rich_rules.proofs.RowEquations.{row-Call, row-CallIndirect, row-Inst}
use Rattle.rich_rules_inversions.specs.Cells.{Goes}
use Rattle.rich_rules_inversions.proofs.Bodies.{rows}
use Rattle.rich_binder_laws.proofs.Told.{arguments_told}
use Rattle.rich_linking.specs.Linked.{main_type}
use Rattle.rich_reduction.specs.Configurations.{Code as function, Val, Here, Config, Event}
use Rattle.rich_reduction.specs.Control.{call, call_direct}
use Rattle.rich_reduction.specs.Starts.{own_list}
use Rattle.rich_reduction.specs.Steps.{act}
use Rattle.rich_rights.specs.Rights.{Right, rights_to, count_all, count_call}
use Rattle.rich_rights_laws.proofs.Sums.{values}
use Rattle.rich_soundness_values.specs.Heaps.{Heaps, Answer, all_at, function_at}
use Rattle.rich_soundness_values.specs.Values.{HaveTypes, more_types, no_types}
use Rattle.rich_soundness_points.specs.Programs.{AllFit, IsSound}
use Rattle.rich_soundness_points.specs.Points.{own_call, InBody, Callers, of_main}
use Rattle.rich_soundness_points.specs.Good.{AreSet, AreGlobals, Runs, in_body, in_own_list, sets_global, at_end, Good, Fine}
use Rattle.rich_soundness_rows.proofs.Closed.{at_length}
use Rattle.rich_soundness_rows.proofs.Locals.{in_function-passed}
use Rattle.rich_soundness_tuples.proofs.Lists.{at_append, at_reverse, have_length}
use Rattle.rich_soundness_lists.proofs.Splits.{split, top_is}
use Rattle.rich_soundness_instances.specs.Laws.{argued}
use Rattle.rich_soundness_instances.proofs.Closed.{functions_are_closed}
use Rattle.rich_soundness_instances.proofs.Argued.{arguments_answer, instances_put_in}
use Rattle.rich_soundness_calls.specs.Laws.{CallRowsAreSafe}
use Rattle.rich_soundness_calls.proofs.Sound.{function_found, function_formed, type_formed}
use Rattle.rich_soundness_calls.proofs.Bodies.{SafeInBodies, by_body, at_rest, safe_in_bodies, goes_on_with, moves_on}
use Rattle.rich_soundness_calls.proofs.Codes.{AreFormed, code_at, code_answered, code_instantiated, code_taken}
use Rattle.rich_soundness_calls.proofs.Called.{called, called_count, callee, call_good}

-- what follows where a function is called with these arguments
abbrev after_call : LinkedFunc → Here → Config → List Val → List Val → Turn Event Config
after_call f here c arguments beneath = Went [] (record c { here = called f arguments; callers = record here { operands = beneath } ∷ c.callers })

-- what stands for types, turned round
reversed_at : (g h : Substitution) (ts us : List Ty) → all_at g ts ≡ all_at h us → all_at g (reverse ts) ≡ all_at h (reverse us)
reversed_at g h ts us e = at_reverse g ts ∙ ap reverse e ∙ sym (at_reverse h us)

-- a call in a body of a function that was found: its parameters on top, and after it its results
module _ (p : Program) (c : Config) (rest : List Instr) (sound : IsSound p) (good : Good p c) {results operands : List Ty} (set : AreSet p good.set OfFunction) (b : InBody p good.heaps OfFunction results operands c.here) (callers : Callers p good.heaps OfFunction results c.callers)
    (i : Instr) {later : List Note} (n : ℕ) (f : LinkedFunc) (found : slice_get p.funcs n ≡ Some f) (g : Substitution) (answered : Answer g (scope_of f.ty.binders)) where
  calls : (params given beneath : List Ty) (us : List Val) → all_at b.goes_on.answers params ≡ all_at g f.ty.params → all_at b.goes_on.answers given ≡ all_at g f.ty.results →
      HaveTypes good.heaps us (all_at b.goes_on.answers (reverse params ++ beneath)) →
      ((r : Right) (i : ℕ) → count_all (rights_to r i) us ≡ count_all (rights_to r i) c.here.operands) →
      Follows b.goes_on.frame b.goes_on.demand b.goes_on.point i rest (Gives (reverse given ++ beneath) None) later → AllFit rest →
      Fine p (call_direct p.funcs n (record c.here { rest = rest; operands = us }) c)
  calls params given beneath us same same_given typed rights follows fit =
      let h = b.goes_on.answers in
      let t = split us (all_at g (reverse f.ty.params)) (all_at h beneath)
      (subst (λ (ts : List Ty). HaveTypes good.heaps us ts) (at_append h (reverse params) beneath ∙ ap (λ (ts : List Ty). ts ++ all_at h beneath) (reversed_at h g params f.ty.params same)) typed) in
      let many : length f.ty.params ≡ length t.front = sym (have_length t.front_typed ∙ at_length g (reverse f.ty.params) ∙ length-reverse f.ty.params) in
      let here = record c.here { rest = rest; operands = us } in
      subst (λ (turn : Turn Event Config). Fine p turn)
      (sym (ap (λ (o : Option LinkedFunc). with_found o (λ f. call f here c)) found ∙ top_is (length f.ty.params) us t.front t.back (after_call f here c) many t.whole))
      (call_good p sound n f found g answered c rest good set b callers (all_at h beneath) t.front t.back t.front_typed t.back_typed
      (λ r k. omega (arith, (values (rights_to r k)).joined t.front t.back, ap (count_all (rights_to r k)) t.whole, rights r k))
      (goes_on_with p c rest good b i (reverse given ++ beneath) follows fit (all_at g (reverse f.ty.results) ++ all_at h beneath)
      (ap (λ (ts : List Ty). ts ++ all_at h beneath) (sym (reversed_at h g given f.ty.results same_given)) ∙ sym (at_append h (reverse given) beneath))))

-- a row of functions' bodies is no row of initialisers
no_initialiser : (w : Owner) (m : ℕ) (o : Outcome) → w ≡ OfGlobal m → Goes (in_function w o) → ⊥
no_initialiser w m o e go = subst (λ (x : Owner). Goes (in_function x o)) e go

call_safe : (n : ℕ) (args : List Arg) → SafeInBodies (Call n args)
call_safe n args p c rest sound good (OfGlobal m) results operands set b typed callers o later r go follows fit fit' =
    absurd (no_initialiser b.goes_on.frame.owner m _ b.goes_on.owned (subst Goes (sym r ∙ row-Call b.goes_on.frame b.goes_on.point n args) go))
call_safe n args p c rest sound good OfFunction results operands set b typed callers o later r go follows fit fit' =
    let f = b.goes_on.frame in
    let q = b.goes_on.point in
    let g = b.goes_on.answers in
    let e = sym r ∙ row-Call f q n args in
    let y = in_function-passed f.owner (call_row f (scope_of q.binders) n args q.operands) (subst Goes e go) in
    let x = rows.call f (scope_of q.binders) n args q.operands _ refl y.1 in
    let k = function_found p.funcs n x.function (ap (λ (ts : List FunType). slice_get ts n) (sym b.goes_on.functions) ∙ x.found) in
    let all : AnswerAll (scope_of q.binders) args k.0.ty.binders = subst (λ (t : FunType). AnswerAll (scope_of q.binders) args t.binders) (sym k.2) ((arguments_told (scope_of q.binders) x.function.binders args).0 (x.answered, x.written)) in
    let closed = functions_are_closed g k.0.ty (function_formed p sound n k.0 k.1) in
    calls p c rest sound good set b callers (Call n args) n k.0 k.1 (argued g args) (arguments_answer g (scope_of q.binders) args k.0.ty.binders b.goes_on.answered all)
    (instances args k.0.ty.params) (instances args k.0.ty.results) x.beneath c.here.operands
    (instances_put_in g (scope_of q.binders) args k.0.ty.binders k.0.ty.params all ∙ ap (λ (t : FunType). all_at (argued g args) t.params) closed)
    (instances_put_in g (scope_of q.binders) args k.0.ty.binders k.0.ty.results all ∙ ap (λ (t : FunType). all_at (argued g args) t.results) closed)
    (subst (λ (ts : List Ty). HaveTypes good.heaps c.here.operands (all_at g ts)) (x.taken ∙ ap (λ (t : FunType). reverse (instances args t.params) ++ x.beneath) (sym k.2)) typed)
    (λ r i. refl)
    (subst (λ (z : Outcome). Follows f b.goes_on.demand q (Call n args) rest z later) (e ∙ y.0 ∙ x.given ∙ ap (λ (t : FunType). gives (reverse (instances args t.results)) x.beneath) (sym k.2)) follows) fit'

call_indirect_safe : SafeInBodies CallIndirect
call_indirect_safe p c rest sound good (OfGlobal m) results operands set b typed callers o later r go follows fit fit' =
    absurd (no_initialiser b.goes_on.frame.owner m _ b.goes_on.owned (subst Goes (sym r ∙ row-CallIndirect b.goes_on.frame b.goes_on.point) go))
call_indirect_safe p c rest sound good OfFunction results operands set b typed callers o later r go follows fit fit' =
    let f = b.goes_on.frame in
    let q = b.goes_on.point in
    let g = b.goes_on.answers in
    let e = sym r ∙ row-CallIndirect f q in
    let y = in_function-passed f.owner (call_indirect_row q.operands) (subst Goes e go) in
    let x = rows.call_indirect q.operands _ refl y.1 in
    let t = x.function in
    let formed : AreFormed good.heaps = λ n u s. type_formed p sound n u (ap (λ (ts : List FunType). slice_get ts n) (sym good.functions) ∙ s) in
    code_taken good.heaps c.here.operands x.qual (function_at g t) (all_at g (reverse t.params ++ x.beneath)) (λ us. c.here.operands ≡ us → Fine p (act p.funcs CallIndirect (record c.here { rest = rest; operands = us }) c))
    (subst (λ (ts : List Ty). HaveTypes good.heaps c.here.operands ts) (ap (all_at g) x.taken ∙ ap (λ (u : Ty). u ∷ all_at g (reverse t.params ++ x.beneath)) (code_at g x.qual t)) typed)
    (λ n us h hv same.
    let a = code_answered x.qual (function_at g t) formed x.unbound h refl in
    let k = function_found p.funcs n a.function (ap (λ (ts : List FunType). slice_get ts n) (sym good.functions) ∙ a.found) in
    calls p c rest sound good set b callers CallIndirect n k.0 k.1 a.answers (subst (λ (u : FunType). Answer a.answers (scope_of u.binders)) (sym k.2) a.answered)
    t.params t.results x.beneath us
    (ap (λ (bs : List _). walk_list (substituting g) (below bs outside) t.params) (sym x.unbound) ∙ sym (ap (λ (u : FunType). u.params) a.is) ∙ ap (λ (u : FunType). all_at a.answers u.params) (sym k.2))
    (ap (λ (bs : List _). walk_list (substituting g) (below bs outside) t.results) (sym x.unbound) ∙ sym (ap (λ (u : FunType). u.results) a.is) ∙ ap (λ (u : FunType). all_at a.answers u.results) (sym k.2))
    hv
    (λ r i. omega (arith, ap (count_all (rights_to r i)) same))
    (subst (λ (z : Outcome). Follows f b.goes_on.demand q CallIndirect rest z later) (e ∙ y.0 ∙ x.given) follows) fit')
    refl

inst_safe : (args : List Arg) → SafeInBodies (Inst args)
inst_safe args p c rest sound good owner results operands set b typed callers o later r go follows fit fit' =
    let f = b.goes_on.frame in
    let q = b.goes_on.point in
    let g = b.goes_on.answers in
    let x = rows.inst (scope_of q.binders) args q.operands o (sym (row-Inst f q args) ∙ r) go in
    let t = x.function in
    let all = (arguments_told (scope_of q.binders) t.binders args).0 (x.answered, x.written) in
    let formed : AreFormed good.heaps = λ n u s. type_formed p sound n u (ap (λ (ts : List FunType). slice_get ts n) (sym good.functions) ∙ s) in
    code_taken good.heaps c.here.operands x.qual (function_at g t) (all_at g x.beneath) (λ us. c.here.operands ≡ us → Fine p (act p.funcs (Inst args) (record c.here { rest = rest; operands = us }) c))
    (subst (λ (ts : List Ty). HaveTypes good.heaps c.here.operands ts) (ap (all_at g) x.taken ∙ ap (λ (u : Ty). u ∷ all_at g x.beneath) (code_at g x.qual t)) typed)
    (λ n us h hv same.
    moves_on p c rest good b (Inst args) (Of Unr (Code (instantiated t args)) ∷ x.beneath) set callers
    (subst (λ (z : Outcome). Follows f b.goes_on.demand q (Inst args) rest z later) x.given follows) fit' (function n ∷ us) c.globals
    (more_types (code_instantiated g (scope_of q.binders) args x.qual t formed b.goes_on.answered all h refl) hv) good.globals_typed
    (λ r i. omega (arith, ap (count_all (rights_to r i)) same)))
    refl

-- the program's own list calls the main function when all globals are set
own_call_is : (n : ℕ) (gs : List LinkedGlobal) (main k : ℕ) (args : List Arg) (rest : List Instr) → own_list n gs main ≡ Call k args ∷ rest → (gs ≡ []) × (main ≡ k) × (rest ≡ [])
own_call_is n [] main k args rest e = (refl, (cc), (cc))
own_call_is n (g ∷ gs) main k args rest e = cc

nothing_left : {A : Type 0} (n : ℕ) (xs : List A) (k : ℕ) (x : A) → drop n xs ≡ [] → slice_get xs k ≡ Some x → suc k ≤ n
nothing_left zero [] k x e s = cc
nothing_left zero (y ∷ xs) k x e s = cc
nothing_left (suc n) [] k x e s = cc
nothing_left (suc n) (y ∷ xs) zero x e s = omega arith
nothing_left (suc n) (y ∷ xs) (suc k) x e s = omega (arith, nothing_left n xs k x e s)

all_set : (p : Program) (hs : Heaps) (n : ℕ) (vs : List Val) → drop n p.globals ≡ [] → AreGlobals p hs n vs → AreGlobals p hs (length p.globals) vs
all_set p hs n vs none a = record {
  same_length = a.same_length;
  each = λ k v g s s'. elim (a.each k v g s s') [
    | inl h ↦ inl h
    | inr x ↦ absurd (omega (arith, x.1, nothing_left n p.globals k g none s'))
  ];
}

module _ (p : Program) (c : Config) (sound : IsSound p) (good : Good p c) (left : List Instr) (e : c.here ≡ own_call [] left) (none : c.callers ≡ []) (set : drop good.set p.globals ≡ []) (f : LinkedFunc) (found : slice_get p.funcs p.main ≡ Some f) (ty : f.ty ≡ main_type) where
  main_good : Good p (record c { here = called f []; callers = own_call [] [] ∷ c.callers })
  main_good = record {
    heaps = good.heaps;
    functions = good.functions;
    set = length p.globals;
    runs = in_body OfFunction (all_at no_substitution (reverse f.ty.results)) [] refl
        (callee p sound p.main f found no_substitution (subst (λ (t : FunType). Answer no_substitution (scope_of t.binders)) (sym ty) (record { locations = tt; variables = tt }))
        good.heaps [] (subst (λ (t : FunType). HaveTypes good.heaps [] (all_at no_substitution (reverse t.params))) (sym ty) no_types)) no_types
        (subst (λ (hs : List Here). Callers p good.heaps OfFunction (all_at no_substitution (reverse f.ty.results)) (own_call [] [] ∷ hs)) (sym none)
        (of_main (ap (λ (t : FunType). all_at no_substitution (reverse t.results)) ty) refl));
    globals_typed = all_set p good.heaps good.set c.globals set good.globals_typed;
    stored = good.stored;
    kept = λ r i. omega (arith, ap (count_call (rights_to r i)) e, called_count (rights_to r i) f [], good.kept r i);
  }

  main_called : Fine p (call_direct p.funcs p.main (own_call [] []) c)
  main_called = subst (λ (turn : Turn Event Config). Fine p turn)
      (sym (ap (λ (o : Option LinkedFunc). with_found o (λ f. call f (own_call [] []) c)) found ∙ top_is (length f.ty.params) [] [] [] (after_call f (own_call [] []) c) (ap (λ (t : FunType). length t.params) ty) refl))
      main_good

call_in_own_list : (n : ℕ) (args : List Arg) (p : Program) (c : Config) (rest : List Instr) → IsSound p → (good : Good p c) → c.here.rest ≡ Call n args ∷ rest → c.here ≡ own_call [] (own_list good.set (drop good.set p.globals) p.main) → c.callers ≡ [] →
    Fine p (act p.funcs (Call n args) (record c.here { rest = rest }) c)
call_in_own_list n args p c rest sound good at e none =
    let s = own_call_is good.set (drop good.set p.globals) p.main n args rest (sym (ap (λ (h : Here). h.rest) e) ∙ at) in
    let k = function_found p.funcs p.main main_type sound.typed.main in
    subst (λ (h : Here). Fine p (call_direct p.funcs n (record h { rest = rest }) c)) (sym e)
    (subst (λ (m : ℕ). Fine p (call_direct p.funcs m (own_call [] rest) c)) s.1
    (subst (λ (is : List Instr). Fine p (call_direct p.funcs p.main (own_call [] is) c)) (sym s.2)
    (main_called p c sound good _ e none s.0 k.0 k.1 k.2)))

call_by_runs : (n : ℕ) (args : List Arg) (p : Program) (c : Config) (rest : List Instr) → IsSound p → (good : Good p c) → c.here.rest ≡ Call n args ∷ rest → Runs p good.heaps good.set c.here c.callers → Fine p (act p.funcs (Call n args) (record c.here { rest = rest }) c)
call_by_runs n args p c rest sound good at (in_body owner results operands set b typed callers) = by_body (Call n args) (call_safe n args) p c rest sound good at owner results operands set b typed callers
call_by_runs n args p c rest sound good at (in_own_list e none) = call_in_own_list n args p c rest sound good at e none
call_by_runs n args p c rest sound good at (sets_global v g is h e none) = (let a : GlobalSet good.set ∷ _ ≡ Call n args ∷ rest = sym (ap (λ (x : Here). x.rest) e) ∙ at in cc)
call_by_runs n args p c rest sound good at (at_end m w e none) = (let a : [] ≡ Call n args ∷ rest = sym (ap (λ (h : Here). h.rest) e) ∙ at in absurd (cc))

pub call_rows : CallRowsAreSafe
call_rows = record {
  call = λ n args p c rest sound good at. at_rest (Call n args) p c rest at (call_by_runs n args p c rest sound good at good.runs);
  call_indirect = safe_in_bodies CallIndirect refl call_indirect_safe;
  inst = λ args. safe_in_bodies (Inst args) refl (inst_safe args);
}
