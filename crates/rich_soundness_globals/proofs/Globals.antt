-- Rows that get and set a global.
use Rattle.std.proofs.Common.{◌≡◌, ◌≢◌, ◌≤◌, ◌<◌, ◌∙◌, inl, inr, ℕ, suc, List, [], ◌∷◌, Option, Some, drop, length, refl, sym, ap, subst, arith}
use Rattle.std.specs.Prelude.{slice_get, slice_set}
use Rattle.std.proofs.lemmas.Bool.{ltb-true}
use Rattle.rw_types.specs.declared.instrs.Instr.{Instr, GlobalGet, GlobalSet}
use Rattle.rw_types.specs.declared.types.Ty.{Ty}
use Rattle.rw_program.specs.declared.linked.LinkedGlobal.{LinkedGlobal}
use Rattle.rw_program.specs.Programs.{Program}
use Rattle.machine_steps.specs.Steps.{Turn, Went, with_found}
use Rattle.rich_types.specs.Scopes.{scope_of}
use Rattle.rich_rules.specs.Points.{Owner, OfFunction, OfGlobal, GlobalType, Outcome}
use Rattle.rich_rules.specs.Derivations.{Follows}
use Rattle.rich_rules.proofs.RowEquations.{row-GlobalGet, row-GlobalSet}
use Rattle.rich_rules_inversions.specs.Bodies.{MayGet}
use Rattle.rich_rules_inversions.proofs.Bodies.{rows}
use Rattle.rich_reduction.specs.Configurations.{Val, Here, Config, Event}
use Rattle.rich_reduction.specs.Plain.{put, set_global}
use Rattle.rich_reduction.specs.Starts.{own_list}
use Rattle.rich_reduction.specs.Steps.{act}
use Rattle.rich_rights.specs.Rights.{Right, rights_to, count, count_all, count_call}
use Rattle.rich_rights_laws.proofs.Sums.{values}
use Rattle.rich_soundness_values.specs.Heaps.{Heaps, all_at, at}
use Rattle.rich_soundness_values.specs.Values.{HasType, HaveTypes, more_types}
use Rattle.rich_soundness_values.proofs.Typed.{no_rights}
use Rattle.rich_soundness_points.specs.Programs.{IsSound}
use Rattle.rich_soundness_points.specs.Points.{own_call}
use Rattle.rich_soundness_points.specs.Good.{AreSet, AreGlobals, Runs, in_body, in_own_list, sets_global, at_end, Good, Fine}
use Rattle.rich_soundness_rows.proofs.Closed.{set_length}
use Rattle.rich_soundness_instances.proofs.Closed.{types_are_closed}
use Rattle.rich_soundness_calls.proofs.Sound.{global_found, global_formed}
use Rattle.rich_soundness_calls.proofs.Bodies.{SafeInBodies, by_body, at_rest, safe_in_bodies, moves_on}
use Rattle.rich_soundness_globals.specs.Laws.{GlobalRowsAreSafe}
use Rattle.rich_soundness_globals.proofs.Lists.{in_range, there, after_set, one_taken}

-- a global that may be got has its first value
is_set : (p : Program) (s n : ℕ) (w : Owner) → AreSet p s w → MayGet w n → n < length p.globals → s ≤ n → ⊥
is_set p s n OfFunction set a lt le = omega arith
is_set p s n (OfGlobal m) set a lt le = let l : n < m = ltb-true n m a in omega arith

-- globals with a value of its type in the place of one
put_global : (p : Program) (hs : Heaps) (s s' n : ℕ) (g : LinkedGlobal) (v : Val) (vs : List Val) → slice_get p.globals n ≡ Some g → HasType hs v g.ty → ((k : ℕ) → k ≢ n → s ≤ k → s' ≤ k) → AreGlobals p hs s vs → AreGlobals p hs s' (slice_set vs n v)
put_global p hs s s' n g v vs found h next a = record {
  same_length = set_length vs n v ∙ a.same_length;
  each = λ k w g' is is'. elim (after_set vs n v k w is) [
    | inl r ↦ (let same : g ≡ g' = (let e : slice_get p.globals n ≡ Some g' = ap (slice_get p.globals) (sym r.0) ∙ is' in let x : Some g ≡ Some g' = sym found ∙ e in cc) in
        inl (subst (λ (y : Val). HasType hs y g'.ty) (sym r.1) (subst (λ (y : LinkedGlobal). HasType hs v y.ty) same h)))
    | inr r ↦ elim (a.each k w g' r.1 is') [
      | inl x ↦ inl x
      | inr x ↦ inr (x.0, next k r.0 x.1)
    ]
  ];
}

module _ (p : Program) (c : Config) (sound : IsSound p) (good : Good p c) (n : ℕ) (g : LinkedGlobal) (found : slice_get p.globals n ≡ Some g) where
  -- the value of a global
  value : (v : Val) × (slice_get c.globals n ≡ Some v)
  value = there c.globals n (omega (arith, in_range p.globals n g found, good.globals_typed.same_length))

  -- it has no rights
  free : (v : Val) → slice_get c.globals n ≡ Some v → (r : Right) (i : ℕ) → count (rights_to r i) v ≡ 0
  free v is r i = elim (good.globals_typed.each n v g is found) [
    | inl h ↦ no_rights r i h (global_formed p sound n g found).1
    | inr x ↦ ap (count (rights_to r i)) x.0
  ]

  -- its type is the same under all that stands for binders
  stays : (h : _) (t : GlobalType) → g.ty ≡ t.ty → g.ty ≡ at h t.ty
  stays h t e = sym (types_are_closed h g.ty (global_formed p sound n g found).0) ∙ ap (at h) e

get_safe : (n : ℕ) → SafeInBodies (GlobalGet n)
get_safe n p c rest sound good owner results operands set b typed callers o later r go follows fit fit' =
    let f = b.goes_on.frame in
    let q = b.goes_on.point in
    let h = b.goes_on.answers in
    let x = rows.global_get f (scope_of q.binders) n q.operands o (sym (row-GlobalGet f q n) ∙ r) go in
    let k = global_found p.globals n x.variable (ap (λ (ts : List GlobalType). slice_get ts n) (sym b.goes_on.globals) ∙ x.found) in
    let v = value p c sound good n k.0 k.1 in
    let allowed = subst (λ (w : Owner). MayGet w n) b.goes_on.owned x.allowed in
    let is : HasType good.heaps v.0 k.0.ty = elim (good.globals_typed.each n v.0 k.0 v.1 k.1) [
      | inl y ↦ y
      | inr y ↦ absurd (is_set p good.set n owner set allowed (in_range p.globals n k.0 k.1) y.1)
    ] in
    subst (λ (turn : Turn Event Config). Fine p turn)
    (sym (ap (λ (k : Option Val). with_found k (λ v. put v (record c.here { rest = rest }) c)) v.1))
    (moves_on p c rest good b (GlobalGet n) (x.variable.ty ∷ q.operands) set callers (subst (λ (z : Outcome). Follows f b.goes_on.demand q (GlobalGet n) rest z later) x.given follows) fit'
    (v.0 ∷ c.here.operands) c.globals (more_types (subst (λ (t : Ty). HasType good.heaps v.0 t) (stays p c sound good n k.0 k.1 h x.variable k.2) is) typed) good.globals_typed
    (λ r i. omega (arith, free p c sound good n k.0 k.1 v.0 v.1 r i)))

set_safe : (n : ℕ) → SafeInBodies (GlobalSet n)
set_safe n p c rest sound good owner results operands set b typed callers o later r go follows fit fit' =
    let f = b.goes_on.frame in
    let q = b.goes_on.point in
    let h = b.goes_on.answers in
    let x = rows.global_set f n q.operands o (sym (row-GlobalSet f q n) ∙ r) go in
    let k = global_found p.globals n x.variable (ap (λ (ts : List GlobalType). slice_get ts n) (sym b.goes_on.globals) ∙ x.found) in
    let old = value p c sound good n k.0 k.1 in
    one_taken good.heaps c.here.operands (at h x.variable.ty) (all_at h x.beneath) (λ us. c.here.operands ≡ us → Fine p (set_global n (record c.here { rest = rest; operands = us }) c))
    (subst (λ (ts : List Ty). HaveTypes good.heaps c.here.operands ts) (ap (all_at h) x.taken) typed)
    (λ v us hv hs same.
    subst (λ (turn : Turn Event Config). Fine p turn)
    (sym (ap (λ (k : Option Val). with_found k (λ old. Went [] (record c { here = record c.here { rest = rest; operands = us }; globals = slice_set c.globals n v }))) old.1))
    (moves_on p c rest good b (GlobalSet n) x.beneath set callers (subst (λ (z : Outcome). Follows f b.goes_on.demand q (GlobalSet n) rest z later) x.given follows) fit'
    us (slice_set c.globals n v) hs
    (put_global p good.heaps good.set good.set n k.0 v c.globals k.1 (subst (λ (t : Ty). HasType good.heaps v t) (sym (stays p c sound good n k.0 k.1 h x.variable k.2)) hv) (λ i d le. le) good.globals_typed)
    (λ r i. omega (arith, ap (count_all (rights_to r i)) same, free p c sound good n k.0 k.1 old.0 old.1 r i, (values (rights_to r i)).set c.globals n old.0 v old.1))))
    refl

-- the program's own list sets a global where it is first
module _ (p : Program) (c : Config) (sound : IsSound p) (good : Good p c) (v : Val) (g : LinkedGlobal) (found : slice_get p.globals good.set ≡ Some g) (h : HasType good.heaps v g.ty) (left : List Instr) (e : c.here ≡ own_call (v ∷ []) left) (none : c.callers ≡ []) where
  own_set : Fine p (set_global good.set (own_call (v ∷ []) (own_list (suc good.set) (drop (suc good.set) p.globals) p.main)) c)
  own_set =
      let old = value p c sound good good.set g found in
      subst (λ (turn : Turn Event Config). Fine p turn)
      (sym (ap (λ (k : Option Val). with_found k (λ old. Went [] (record c { here = own_call [] (own_list (suc good.set) (drop (suc good.set) p.globals) p.main); globals = slice_set c.globals good.set v }))) old.1))
      (record {
        heaps = good.heaps;
        functions = good.functions;
        set = suc good.set;
        runs = in_own_list refl none;
        globals_typed = put_global p good.heaps good.set (suc good.set) good.set g v c.globals found h (λ k d le. omega (arith, d)) good.globals_typed;
        stored = good.stored;
        kept = λ r i. omega (arith, ap (count_call (rights_to r i)) e, free p c sound good good.set g found old.0 old.1 r i, (values (rights_to r i)).set c.globals good.set old.0 v old.1, good.kept r i);
      })

own_is : (n m : ℕ) (is rest : List Instr) → GlobalSet m ∷ is ≡ GlobalSet n ∷ rest → (m ≡ n) × (is ≡ rest)
own_is n m is rest e = ((cc), (cc))

own_sets_later : (n : ℕ) (gs : List LinkedGlobal) (main k : ℕ) (rest : List Instr) → own_list n gs main ≡ GlobalSet k ∷ rest → ⊥
own_sets_later n [] main k rest e = cc
own_sets_later n (g ∷ gs) main k rest e = cc

set_by_runs : (n : ℕ) (p : Program) (c : Config) (rest : List Instr) → IsSound p → (good : Good p c) → c.here.rest ≡ GlobalSet n ∷ rest → Runs p good.heaps good.set c.here c.callers → Fine p (act p.funcs (GlobalSet n) (record c.here { rest = rest }) c)
set_by_runs n p c rest sound good at (in_body owner results operands set b typed callers) = by_body (GlobalSet n) (set_safe n) p c rest sound good at owner results operands set b typed callers
set_by_runs n p c rest sound good at (in_own_list e none) = absurd (own_sets_later good.set (drop good.set p.globals) p.main n rest (sym (ap (λ (h : Here). h.rest) e) ∙ at))
set_by_runs n p c rest sound good at (sets_global v g is h e none) =
    let s = own_is n good.set (own_list (suc good.set) (drop (suc good.set) p.globals) p.main) rest (sym (ap (λ (h : Here). h.rest) e) ∙ at) in
    subst (λ (h : Here). Fine p (set_global n (record h { rest = rest }) c)) (sym e)
    (subst (λ (m : ℕ). Fine p (set_global m (own_call (v ∷ []) rest) c)) s.0
    (subst (λ (is : List Instr). Fine p (set_global good.set (own_call (v ∷ []) is) c)) s.1
    (own_set p c sound good v g is h _ e none)))
set_by_runs n p c rest sound good at (at_end m w e none) = (let a : [] ≡ GlobalSet n ∷ rest = sym (ap (λ (h : Here). h.rest) e) ∙ at in absurd (cc))

pub global_rows : GlobalRowsAreSafe
global_rows = record {
  get = λ n. safe_in_bodies (GlobalGet n) refl (get_safe n);
  set = λ n p c rest sound good at. at_rest (GlobalSet n) p c rest at (set_by_runs n p c rest sound good at good.runs);
}
