-- What is shown of an instruction in bodies holds of it wherever it stands, if the program's own list has none such.
use Rattle.std.proofs.Common.{◌≡◌, List, [], ◌∷◌, true, false, sym, ap, ◌∙◌, subst, drop}
use Rattle.rw_types.specs.declared.instrs.Instr.{Instr, GlobalSet}
use Rattle.rw_types.specs.declared.types.Ty.{Ty}
use Rattle.rw_program.specs.Programs.{Program}
use Rattle.rich_typing.specs.declared.notes.Note.{Note}
use Rattle.rich_rules.specs.Points.{Owner, Point, Outcome}
use Rattle.rich_rules.specs.Table.{row}
use Rattle.rich_rules.specs.Derivations as derive
use Rattle.rich_rules.specs.Derivations.{Derives, Follows}
use Rattle.rich_rules_inversions.specs.Cells.{Goes}
use Rattle.rich_reduction.specs.Configurations.{Here, Config}
use Rattle.rich_reduction.specs.Steps.{act, step_at}
use Rattle.rich_soundness_values.specs.Heaps.{all_at}
use Rattle.rich_soundness_values.specs.Values.{HaveTypes}
use Rattle.rich_soundness_points.specs.Programs.{Fits, AllFit}
use Rattle.rich_soundness_points.specs.Points.{InBody, Callers}
use Rattle.rich_soundness_points.specs.Good.{AreSet, Runs, in_body, in_own_list, sets_global, at_end, Good, Fine, IsSafeAt}
use Rattle.rich_soundness_rows.proofs.Moves.{is_own, own, goes_on}

-- in a body, with the outcome of its row and what follows, a step is fine
abbrev pub BodySafe : Instr → Type 0
BodySafe i =
    (p : Program) (c : Config) (rest : List Instr) (good : Good p c) (owner : Owner) (results operands : List Ty) (set : AreSet p good.set owner) (b : InBody p good.heaps owner results operands c.here)
    → HaveTypes good.heaps c.here.operands (all_at b.goes_on.answers b.goes_on.point.operands) → Callers p good.heaps owner results c.callers
    → (o : Outcome) (later : List Note) → row b.goes_on.frame b.goes_on.point i ≡ o → Goes o → Follows b.goes_on.frame b.goes_on.demand b.goes_on.point i rest o later
    → Fits i → AllFit rest → Fine p (act p.funcs i (record c.here { rest = rest }) c)

module _ (i : Instr) (other : is_own i ≡ false) (safe : BodySafe i) (p : Program) (c : Config) (rest : List Instr) (good : Good p c) (at : c.here.rest ≡ i ∷ rest) where
  by_code : (owner : Owner) (results operands : List Ty) (set : AreSet p good.set owner) (b : InBody p good.heaps owner results operands c.here) → HaveTypes good.heaps c.here.operands operands → Callers p good.heaps owner results c.callers →
      {notes : List Note} → Derives b.goes_on.frame b.goes_on.demand b.goes_on.point (i ∷ rest) notes → AllFit (i ∷ rest) → Fine p (act p.funcs i (record c.here { rest = rest }) c)
  by_code owner results operands set b typed callers (derive.step o later r e follows) fit =
      safe p c rest good owner results operands set b (subst (λ (ts : List Ty). HaveTypes good.heaps c.here.operands ts) (ap (λ (x : Point). x.operands) b.goes_on.seen) typed) callers o later r (goes_on follows) follows fit.0 fit.1

  by_runs : Runs p good.heaps good.set c.here c.callers → Fine p (act p.funcs i (record c.here { rest = rest }) c)
  by_runs (in_body owner results operands set b typed callers) =
      by_code owner results operands set b typed callers (subst (λ (is : List Instr). Derives b.goes_on.frame b.goes_on.demand b.goes_on.point is b.goes_on.notes) at b.goes_on.code) (subst AllFit at b.goes_on.fit)
  by_runs (in_own_list e none) = (let a = own good.set (drop good.set p.globals) p.main i rest (sym (ap (λ (h : Here). h.rest) e) ∙ at) in absurd (let t : true ≡ false = sym a ∙ other in cc))
  by_runs (sets_global v g is h e none) = (let a : GlobalSet good.set ∷ _ ≡ i ∷ rest = sym (ap (λ (x : Here). x.rest) e) ∙ at in absurd (let t : true ≡ false = cc in cc))
  by_runs (at_end n w e none) = (let a : [] ≡ i ∷ rest = sym (ap (λ (h : Here). h.rest) e) ∙ at in absurd (cc))

pub in_bodies : (i : Instr) → is_own i ≡ false → BodySafe i → IsSafeAt i
in_bodies i other safe p c rest sound good at = subst (λ (is : List Instr). Fine p (step_at p.funcs is c)) (sym at) (by_runs i other safe p c rest good at good.runs)
