-- A list that is over is left, and the configuration is good again.
use Rattle.std.proofs.Common.{◌≡◌, ℕ, ◌+◌, List, [], ◌∷◌, ◌++◌, Some, length, refl, sym, ap, ◌∙◌, subst, arith}
use Rattle.std.specs.Prelude.{slice_get}
use Rattle.rw_types.specs.declared.types.Ty.{Ty}
use Rattle.rw_program.specs.declared.linked.LinkedGlobal.{LinkedGlobal}
use Rattle.rw_program.specs.Programs.{Program}
use Rattle.machine_steps.specs.Steps.{Turn, with_none, with_all}
use Rattle.rich_rules.specs.Points.{Owner, OfFunction, OfGlobal, Label, Demand}
use Rattle.rich_reduction.specs.Configurations.{Val, Level, Here, Config, Event}
use Rattle.rich_reduction.specs.Turns.{goes_on}
use Rattle.rich_reduction.specs.Control.{give, leave}
use Rattle.rich_rights.specs.Rights.{Right, rights_to, count_all, count_levels, count_call}
use Rattle.rich_rights_laws.proofs.Sums.{values}
use Rattle.rich_soundness_values.specs.Heaps.{Heaps}
use Rattle.rich_soundness_values.specs.Values.{HasType, HaveTypes, more_types}
use Rattle.rich_soundness_points.specs.Points.{own_rest, own_level, own_call, Levels, of_function, of_initialiser, past, back, Callers, of_own_list}
use Rattle.rich_soundness_points.specs.Good.{AreSet, sets_global, Good, Fine}
use Rattle.rich_soundness_tuples.proofs.Lists.{have_length, have_append}
use Rattle.rich_soundness_lists.proofs.Splits.{top_is}
use Rattle.rich_soundness_branches.proofs.Landing.{lands}
use Rattle.rich_soundness_branches.proofs.Giving.{gives}
use Rattle.rich_soundness_ends.proofs.Demands.{LocalsMeet}

append_none : (vs : List Val) → vs ≡ vs ++ []
append_none [] = refl
append_none (v ∷ vs) = ap (λ (l : List Val). v ∷ l) (append_none vs)

-- all operands are taken
all_is : (n : ℕ) (vs : List Val) (k : List Val → Turn Event Config) → n ≡ length vs → with_all n vs k ≡ k vs
all_is n vs k e = top_is n vs vs [] (λ taken beneath. with_none beneath (k taken)) e (append_none vs)

-- no call waits for an initialiser
pub none_waits : {p : Program} {hs : Heaps} {n : ℕ} {results : List Ty} {ks : List Here} → Callers p hs (OfGlobal n) results ks → ks ≡ []
none_waits (of_own_list n e) = refl

-- one value of one type
one_typed : (hs : Heaps) (vs : List Val) (t : Ty) (P : List Val → Type 0) → HaveTypes hs vs (t ∷ []) → ((v : Val) → HasType hs v t → P (v ∷ [])) → P vs
one_typed hs [] t P h k = elim h [ ]
one_typed hs (v ∷ []) t P (more_types h hv) k = k v h
one_typed hs (v ∷ u ∷ vs) t P (more_types h hv) k = elim hv [ ]

module _ (p : Program) (c : Config) (good : Good p c) {owner : Owner} {results : List Ty} (set : AreSet p good.set owner) (callers : Callers p good.heaps owner results c.callers) where
  -- the first value of a global stands before what is left of the program's own list
  first_value : (n : ℕ) (g : LinkedGlobal) → owner ≡ OfGlobal n → slice_get p.globals n ≡ Some g → (here : Here) → HaveTypes good.heaps here.operands (g.ty ∷ []) → here.results ≡ 1 → here.locals ≡ [] → (l : Level) → l ≡ own_level p n →
      ((r : Right) (i : ℕ) → count_all (rights_to r i) here.operands + (count_all (rights_to r i) here.locals + count_levels (rights_to r i) (l ∷ [])) ≡ count_call (rights_to r i) c.here) →
      Fine p (leave (l ∷ []) here c)
  first_value n g w is here typed one none l same rights =
      let at : good.set ≡ n = subst (λ (o : Owner). AreSet p good.set o) w set in
      subst (λ (turn : Turn Event Config). Fine p turn)
      (sym (all_is l.gives here.operands (λ vs. goes_on (record here { sizes = l.sizes; operands = vs ++ l.beneath; rest = l.rest; levels = [] }) c) (ap (λ (y : Level). y.gives) same ∙ sym (have_length typed))
      ∙ ap (λ (y : Level). goes_on (record here { sizes = y.sizes; operands = here.operands ++ y.beneath; rest = y.rest; levels = [] }) c) same))
      (one_typed good.heaps here.operands g.ty (λ vs. ((r : Right) (i : ℕ) → count_all (rights_to r i) vs + (count_all (rights_to r i) here.locals + count_levels (rights_to r i) (l ∷ [])) ≡ count_call (rights_to r i) c.here) →
      Good p (record c { here = record here { sizes = []; operands = vs ++ []; rest = own_rest p n; levels = [] } })) typed
      (λ v h rights. record {
        heaps = good.heaps;
        functions = good.functions;
        set = good.set;
        runs = sets_global v g (ap (slice_get p.globals) at ∙ is) h
            (ap (λ (k : ℕ). record here { results = k; sizes = []; operands = v ∷ []; rest = own_rest p n; levels = [] }) one
            ∙ ap (λ (ls : List Val). record { results = 1; sizes = []; locals = ls; operands = v ∷ []; rest = own_rest p n; levels = [] }) none
            ∙ ap (λ (k : ℕ). own_call (v ∷ []) (own_rest p k)) (sym at))
            (none_waits (subst (λ (o : Owner). Callers p good.heaps o results c.callers) w callers));
        globals_typed = good.globals_typed;
        stored = good.stored;
        kept = λ r i. omega (arith, rights r i, ap (λ (y : Level). count_levels (rights_to r i) (y ∷ [])) same, good.kept r i);
      })
      rights)

  -- an open list is left, or a body gives its results, or a global's first value is there
  pub left : {count : ℕ} {labels : List Label} {d : Demand} {levels : List Level} → Levels p good.heaps owner results count labels d levels → (here : Here) → HaveTypes good.heaps here.operands d.types → LocalsMeet good.heaps here.locals d.locals →
      (owner ≡ OfFunction → here.results ≡ length results) → ((n : ℕ) → owner ≡ OfGlobal n → (here.results ≡ 1) × (here.locals ≡ [])) →
      ((r : Right) (n : ℕ) → count_all (rights_to r n) here.operands + (count_all (rights_to r n) here.locals + count_levels (rights_to r n) levels) ≡ count_call (rights_to r n) c.here) →
      Fine p (leave levels here c)
  left (of_function w s) here typed met many own rights =
      let hv = subst (λ (y : Demand). HaveTypes good.heaps here.operands y.types) s typed in
      let free : (r : Right) (n : ℕ) → count_all (rights_to r n) here.locals ≡ 0 = subst (λ (y : Demand). LocalsMeet good.heaps here.locals y.locals) s met in
      subst (λ (turn : Turn Event Config). Fine p turn) (sym (all_is here.results here.operands (λ vs. give vs c.callers c) (many w ∙ sym (have_length hv))))
      (gives p c good (subst (λ (o : Owner). AreSet p good.set o) w set) c.callers here.operands (subst (λ (o : Owner). Callers p good.heaps o results c.callers) w callers) hv (λ r n. omega (arith, rights r n, free r n, good.kept r n)))
  left (of_initialiser {l = l} n g w is s same) here typed met many own rights =
      let o = own n w in
      first_value n g w is here (subst (λ (y : Demand). HaveTypes good.heaps here.operands y.types) s typed) o.0 o.1 l same rights
  left (past {labels = labels} {l = l} {levels = levels} types locals rest outer many aim takes leaves beneath goes outward) here typed met results_many own rights =
      subst (λ (turn : Turn Event Config). Fine p turn)
      (sym (all_is l.gives here.operands (λ vs. goes_on (record here { sizes = l.sizes; operands = vs ++ l.beneath; rest = l.rest; levels = levels }) c) (leaves ∙ sym (have_length typed))))
      (lands p c good set callers here (here.operands ++ l.beneath) (types ++ rest) locals labels outer l.sizes l.rest levels goes (subst (λ (n : ℕ). Levels p good.heaps owner results n labels outer levels) (sym many) outward)
      (have_append typed beneath) met results_many (λ r n. omega (arith, rights r n, (values (rights_to r n)).joined here.operands l.beneath)))
  left (back {labels = labels} {l = l} {levels = levels} types locals carried starting rest outer body many started aim takes leaves beneath inner goes outward) here typed met results_many own rights =
      subst (λ (turn : Turn Event Config). Fine p turn)
      (sym (all_is l.gives here.operands (λ vs. goes_on (record here { sizes = l.sizes; operands = vs ++ l.beneath; rest = l.rest; levels = levels }) c) (leaves ∙ sym (have_length typed))))
      (lands p c good set callers here (here.operands ++ l.beneath) (types ++ rest) locals labels outer l.sizes l.rest levels goes (subst (λ (n : ℕ). Levels p good.heaps owner results n labels outer levels) (sym many) outward)
      (have_append typed beneath) met results_many (λ r n. omega (arith, rights r n, (values (rights_to r n)).joined here.operands l.beneath)))
