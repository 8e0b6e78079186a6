-- Rows that change operands and locals of the call that runs: what they show, without frames, is enough.
use Rattle.std.proofs.Common.{◌≡◌, ℕ, ◌+◌, List, [], ◌∷◌, Bool, true, false, Option, Some, None, length, refl, sym, ap, ◌∙◌, subst, arith, drop}
use Rattle.rw_types.specs.declared.instrs.Instr.{Instr, Block', GlobalSet, Call}
use Rattle.rw_types.specs.declared.types.Ty.{Ty}
use Rattle.rw_program.specs.declared.linked.LinkedFunc.{LinkedFunc}
use Rattle.rw_program.specs.declared.linked.LinkedGlobal.{LinkedGlobal}
use Rattle.rw_program.specs.Programs.{Program}
use Rattle.machine_steps.specs.declared.End.{End}
use Rattle.machine_steps.specs.Steps.{Turn, Went, Ended}
use Rattle.rich_types.specs.Scopes.{scope_of}
use Rattle.rich_types.specs.Instances.{Substitution}
use Rattle.rich_typing.specs.declared.notes.Note.{Note}
use Rattle.rich_rules.specs.Points.{Frame, Point, Demand, Change, Becomes, Outcome, Gives, changed_to, moved}
use Rattle.rich_rules.specs.Table.{row}
use Rattle.rich_rules.specs.Derivations as derive
use Rattle.rich_rules.specs.Derivations.{Derives, Follows}
use Rattle.rich_rules_inversions.specs.Cells.{Goes}
use Rattle.rich_reduction.specs.Configurations.{Val, Here, Config, Event}
use Rattle.rich_reduction.specs.Starts.{own_list}
use Rattle.rich_reduction.specs.Steps.{act, step_at}
use Rattle.rich_rights.specs.Rights.{Right, rights_to, count_all}
use Rattle.rich_soundness_values.specs.Heaps.{Heaps, Answer, all_at}
use Rattle.rich_soundness_values.specs.Values.{HaveTypes}
use Rattle.rich_soundness_points.specs.Programs.{Fits, AllFit, IsSound}
use Rattle.rich_soundness_points.specs.Points.{closed, Levels, InBody, Callers}
use Rattle.rich_soundness_rows.proofs.Closed.{at_length, set_length}
use Rattle.rich_soundness_points.specs.Good.{AreSet, Runs, in_body, in_own_list, sets_global, at_end, Good, Fine, IsSafeAt}

-- what a row is told: it breaks no rule, and operands and locals have the types of its point, where names and closed types stand
-- for the binders in force
pub record Stands (hs : Heaps) (f : Frame) (q : Point) (g : Substitution) (i : Instr) (vs ls : List Val) : Type 0 where
  pub answered : Answer g (scope_of q.binders)
  pub goes : Goes (row f q i)
  pub fits : Fits i
  pub functions : hs.functions ≡ f.functions
  pub operands : HaveTypes hs vs (all_at g q.operands)
  pub locals : HaveTypes hs ls (all_at g q.locals)

-- what it shows: a step to operands and locals of the types that the table gives, with as many rights; or a trap
pub data Acts (f : Frame) (hs : Heaps) (q : Point) (g : Substitution) (i : Instr) (vs ls : List Val) (here : Here) (c : Config) (turn : Turn Event Config) : Type 0 where
  moves : (given : List Ty) (change : Option Change) (es : List Event) (vs' ls' : List Val) → row f q i ≡ Gives given change → turn ≡ Went es (record c { here = record here { operands = vs'; locals = ls' } }) →
      HaveTypes hs vs' (all_at g given) → HaveTypes hs ls' (all_at g (changed_to change q.locals)) →
      ((r : Right) (n : ℕ) → count_all (rights_to r n) vs' + count_all (rights_to r n) ls' ≡ count_all (rights_to r n) vs + count_all (rights_to r n) ls) → Acts f hs q g i vs ls here c turn
  traps : (es : List Event) (e : End) → turn ≡ Ended es e c → Acts f hs q g i vs ls here c turn

-- it acts on these operands and locals
abbrev pub ActsOn : List LinkedFunc → Frame → Heaps → Point → Substitution → Here → Config → Instr → List Val → List Val → Type 0
ActsOn funcs f hs q g here c i vs ls = Acts f hs q g i vs ls here c (act funcs i (record here { operands = vs; locals = ls }) c)

abbrev pub RowActs : Instr → Type 0
RowActs i = (funcs : List LinkedFunc) (f : Frame) (hs : Heaps) (q : Point) (g : Substitution) (here : Here) (c : Config) (vs ls : List Val) → Stands hs f q g i vs ls → ActsOn funcs f hs q g here c i vs ls

-- a change leaves as many locals
pub change_length : (change : Option Change) (ts : List Ty) → length (changed_to change ts) ≡ length ts
change_length None ts = refl
change_length (Some (Becomes n t)) ts = set_length ts n t

-- whether the program's own list may go on with an instruction
abbrev pub is_own : Instr → Bool
is_own (Block' b m is) = true
is_own (GlobalSet n) = true
is_own (Call n args) = true
is_own i = false

pub own : (n : ℕ) (gs : List LinkedGlobal) (main : ℕ) (i : Instr) (rest : List Instr) → own_list n gs main ≡ i ∷ rest → is_own i ≡ true
own n [] main i rest e = cc
own n (g ∷ gs) main i rest e = cc

pub goes_on : {f : Frame} {d : Demand} {q : Point} {i : Instr} {is : List Instr} {o : Outcome} {notes : List Note} → Follows f d q i is o notes → Goes o
goes_on (derive.ends e n) = tt
goes_on (derive.goes_on d) = tt
goes_on (derive.enters inner later e arms d) = tt

rest_of : {f : Frame} {d : Demand} {q : Point} {i : Instr} {is : List Instr} {operands : List Ty} {change : Option Change} {notes : List Note} → Follows f d q i is (Gives operands change) notes → Derives f d (moved q operands change) is notes
rest_of (derive.goes_on d) = d

module _ (i : Instr) (row_acts : RowActs i) (p : Program) (c : Config) (rest : List Instr) (sound : IsSound p) (good : Good p c) (at : c.here.rest ≡ i ∷ rest) where
  abbrev after : Here
  after = record c.here { rest = rest }

  module _ {owner : _} {results operands : List Ty} (set : AreSet p good.set owner) (b : InBody p good.heaps owner results operands c.here) (typed : HaveTypes good.heaps c.here.operands operands) (callers : Callers p good.heaps owner results c.callers) where
    by_acts : {o : Outcome} {later : List Note} → row b.goes_on.frame b.goes_on.point i ≡ o → Follows b.goes_on.frame b.goes_on.demand b.goes_on.point i rest o later → AllFit rest → (turn : Turn Event Config) →
        Acts b.goes_on.frame good.heaps b.goes_on.point b.goes_on.answers i c.here.operands c.here.locals after c turn → Fine p turn
    by_acts r follows fit turn (traps es e t) = subst (λ (x : Turn Event Config). Fine p x) (sym t) good.kept
    by_acts {later = later} r follows fit turn (moves given change es vs ls re t hv hl rights) = subst (λ (x : Turn Event Config). Fine p x) (sym t) (record {
      heaps = good.heaps;
      functions = good.functions;
      set = good.set;
      runs = in_body owner results (all_at b.goes_on.answers given) set (record {
        labels = b.labels;
        demand = b.demand;
        locals = all_at b.goes_on.answers (changed_to change b.goes_on.point.locals);
        goes_on = record {
          frame = b.goes_on.frame;
          demand = b.goes_on.demand;
          point = moved b.goes_on.point given change;
          notes = later;
          code = rest_of (subst (λ (o : Outcome). Follows b.goes_on.frame b.goes_on.demand b.goes_on.point i rest o later) (sym r ∙ re) follows);
          fit = fit;
          owned = b.goes_on.owned;
          functions = b.goes_on.functions;
          globals = b.goes_on.globals;
          answers = b.goes_on.answers;
          answered = b.goes_on.answered;
          demanded = b.goes_on.demanded;
          seen = ap (λ (x : Point). closed (all_at b.goes_on.answers (changed_to change b.goes_on.point.locals)) x.labels x.results (all_at b.goes_on.answers given)) b.goes_on.seen;
          sized = b.goes_on.sized;
        };
        levels = subst (λ (n : ℕ). Levels p good.heaps owner results n b.labels b.demand c.here.levels)
            (ap (λ (y : Point). length y.locals) b.goes_on.seen ∙ at_length b.goes_on.answers b.goes_on.point.locals ∙ sym (change_length change b.goes_on.point.locals) ∙ sym (at_length b.goes_on.answers (changed_to change b.goes_on.point.locals))) b.levels;
        locals_typed = hl;
        gives = b.gives;
      }) hv callers;
      globals_typed = good.globals_typed;
      stored = good.stored;
      kept = λ r n. omega (arith, rights r n, good.kept r n);
    })

    by_code : {notes : List Note} → Derives b.goes_on.frame b.goes_on.demand b.goes_on.point (i ∷ rest) notes → AllFit (i ∷ rest) → Fine p (act p.funcs i after c)
    by_code (derive.step o later r e follows) fit =
        by_acts r follows fit.1 (act p.funcs i after c) (row_acts p.funcs b.goes_on.frame good.heaps b.goes_on.point b.goes_on.answers after c c.here.operands c.here.locals (record {
          answered = b.goes_on.answered;
          goes = subst Goes (sym r) (goes_on follows);
          fits = fit.0;
          functions = good.functions ∙ sym b.goes_on.functions;
          operands = subst (λ (ts : List Ty). HaveTypes good.heaps c.here.operands ts) (ap (λ (x : Point). x.operands) b.goes_on.seen) typed;
          locals = subst (λ (ts : List Ty). HaveTypes good.heaps c.here.locals ts) (ap (λ (x : Point). x.locals) b.goes_on.seen) b.locals_typed;
        }))

  by_runs : is_own i ≡ false → Runs p good.heaps good.set c.here c.callers → Fine p (act p.funcs i after c)
  by_runs other (in_body owner results operands set b typed callers) =
      by_code set b typed callers (subst (λ (is : List Instr). Derives b.goes_on.frame b.goes_on.demand b.goes_on.point is b.goes_on.notes) at b.goes_on.code) (subst AllFit at b.goes_on.fit)
  by_runs other (in_own_list e none) = (let a = own good.set (drop good.set p.globals) p.main i rest (sym (ap (λ (h : Here). h.rest) e) ∙ at) in absurd (let t : true ≡ false = sym a ∙ other in cc))
  by_runs other (sets_global v g is h e none) = (let a : GlobalSet good.set ∷ _ ≡ i ∷ rest = sym (ap (λ (x : Here). x.rest) e) ∙ at in absurd (let t : true ≡ false = cc in cc))
  by_runs other (at_end n w e none) = (let a : [] ≡ i ∷ rest = sym (ap (λ (h : Here). h.rest) e) ∙ at in absurd (cc))

-- a row that acts is safe
pub safe : (i : Instr) → is_own i ≡ false → RowActs i → IsSafeAt i
safe i other row_acts p c rest sound good at = subst (λ (is : List Instr). Fine p (step_at p.funcs is c)) (sym at) (by_runs i row_acts p c rest sound good at other good.runs)
