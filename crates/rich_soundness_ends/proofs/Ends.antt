-- The ends of lists.
use Rattle.std.proofs.Common.{◌≡◌, ℕ, List, [], ◌∷◌, drop, length, refl, sym, ap, ◌∙◌, subst}
use Rattle.rw_types.specs.declared.instrs.Instr.{Instr}
use Rattle.rw_types.specs.declared.types.Ty.{Ty}
use Rattle.rw_program.specs.declared.linked.LinkedGlobal.{LinkedGlobal}
use Rattle.rw_program.specs.Programs.{Program}
use Rattle.machine_steps.specs.Steps.{Turn}
use Rattle.rich_types.specs.Scopes.{scope_of}
use Rattle.rich_rules.specs.Points.{Owner, Point, LocalsDemand, Demand}
use Rattle.rich_rules.specs.Derivations.{Derives, operands_broken, locals_broken}
use Rattle.rich_reduction.specs.Configurations.{Number, Here, Config, Event}
use Rattle.rich_reduction.specs.Control.{give, leave}
use Rattle.rich_reduction.specs.Starts.{own_list}
use Rattle.rich_reduction.specs.Steps.{step_at}
use Rattle.rich_reduction_calls.specs.Calls.{AreOnOwn, IsOnOwn}
use Rattle.rich_soundness_values.specs.Heaps.{all_at}
use Rattle.rich_soundness_values.specs.Values.{HaveTypes}
use Rattle.rich_soundness_points.specs.Points.{own_rest, InBody, Callers}
use Rattle.rich_soundness_points.specs.Good.{AreSet, Runs, in_body, in_own_list, sets_global, at_end, Good, Fine}
use Rattle.rich_soundness_branches.proofs.Unr.{neither}
use Rattle.rich_soundness_branches.proofs.Branches.{locals_stay}
use Rattle.rich_soundness_ends.specs.Laws.{EndsAreSafe}
use Rattle.rich_soundness_ends.proofs.Demands.{ended, operands_met, LocalsMeet, locals_met, demand_count}
use Rattle.rich_soundness_ends.proofs.Left.{none_waits, left}

-- the program's own list does not end before the main function is called
own_goes_on : (n : ℕ) (gs : List LinkedGlobal) (main : ℕ) → own_list n gs main ≡ [] → ⊥
own_goes_on n [] main e = cc
own_goes_on n (g ∷ gs) main e = cc

module _ (p : Program) (c : Config) (good : Good p c) (own : IsOnOwn c) (at : c.here.rest ≡ []) where
  body_left : {owner : Owner} {results operands : List Ty} (set : AreSet p good.set owner) (b : InBody p good.heaps owner results operands c.here) → HaveTypes good.heaps c.here.operands operands → Callers p good.heaps owner results c.callers →
      Fine p (leave c.here.levels c.here c)
  body_left {owner = owner} {results = results} set b typed callers =
      let g = b.goes_on.answers in
      let q = b.goes_on.point in
      let d = b.goes_on.demand in
      let x = neither (operands_broken d.types q.operands) (locals_broken (scope_of q.binders) d.locals q.locals) (ended (subst (λ (is : List Instr). Derives b.goes_on.frame d q is b.goes_on.notes) at b.goes_on.code)) in
      left p c good set callers b.levels c.here
      (subst (λ (ts : List Ty). HaveTypes good.heaps c.here.operands ts) (ap (λ (y : Point). y.operands) b.goes_on.seen ∙ ap (all_at g) (operands_met d.types q.operands x.0) ∙ sym (ap (λ (y : Demand). y.types) b.goes_on.demanded)) typed)
      (subst (λ (l : LocalsDemand). LocalsMeet good.heaps c.here.locals l) (sym (ap (λ (y : Demand). y.locals) b.goes_on.demanded))
      (locals_met g (scope_of q.binders) b.goes_on.answered c.here.locals q.locals d.locals (locals_stay p c [] good set b callers) x.1
      (λ ts e. demand_count b.levels ts (ap (λ (y : Demand). y.locals) b.goes_on.demanded ∙ e) ∙ ap (λ (y : Point). length y.locals) b.goes_on.seen)))
      b.gives
      (λ n w. subst (λ (ks : List Here). AreOnOwn c.here ks) (none_waits (subst (λ (o : Owner). Callers p good.heaps o results c.callers) w callers)) own)
      (λ r n. refl)

  by_runs : Runs p good.heaps good.set c.here c.callers → Fine p (leave c.here.levels c.here c)
  by_runs (in_body owner results operands set b typed callers) = body_left set b typed callers
  by_runs (in_own_list e none) = absurd (own_goes_on good.set (drop good.set p.globals) p.main (sym (ap (λ (h : Here). h.rest) e) ∙ at))
  by_runs (sets_global v g is h e none) = (let a : own_rest p good.set ≡ [] = sym (ap (λ (x : Here). x.rest) e) ∙ at in cc)
  by_runs (at_end n w e none) =
      subst (λ (turn : Turn Event Config). Fine p turn)
      (sym (ap (λ (h : Here). leave h.levels h c) e ∙ ap (λ (ks : List Here). give (Number n ∷ []) ks c) none)) good.kept

pub ends : EndsAreSafe
ends p c sound good own at = subst (λ (is : List Instr). Fine p (step_at p.funcs is c)) (sym at) (by_runs p c good own at good.runs)
