-- Rows that change operands of the call that runs and the stores: what they show, without frames, is enough.
use Rattle.std.proofs.Common.{◌≡◌, ◌≤◌, ℕ, ◌+◌, List, false, None, length, sym, ap, ◌∙◌, subst, arith}
use Rattle.std.specs.Prelude.{slice_get}
use Rattle.rw_types.specs.declared.instrs.Instr.{Instr}
use Rattle.rw_types.specs.declared.types.Ty.{Ty}
use Rattle.rw_program.specs.declared.linked.LinkedFunc.{LinkedFunc}
use Rattle.rw_program.specs.Programs.{Program}
use Rattle.machine_steps.specs.declared.End.{End}
use Rattle.machine_steps.specs.Steps.{Turn, Went, Ended}
use Rattle.rich_types.specs.Scopes.{scope_of}
use Rattle.rich_types.specs.Instances.{Substitution}
use Rattle.rich_typing.specs.declared.notes.Note.{Note}
use Rattle.rich_rules.specs.Points.{Frame, Owner, Point, Demand, Outcome, Gives, moved}
use Rattle.rich_rules.specs.Table.{row}
use Rattle.rich_rules.specs.Derivations as derive
use Rattle.rich_rules.specs.Derivations.{Derives, Follows}
use Rattle.rich_rules_inversions.specs.Cells.{Goes}
use Rattle.rich_reduction.specs.Configurations.{Val, Stores, Here, Config, Event}
use Rattle.rich_reduction.specs.Steps.{act}
use Rattle.rich_rights.specs.Rights.{Right, Reading, rights_to, count_all, count_stores, is_live}
use Rattle.rich_soundness_values.specs.Heaps.{Heaps, Answer, all_at}
use Rattle.rich_soundness_values.specs.Values.{HaveTypes}
use Rattle.rich_soundness_values.specs.Cells.{Stored}
use Rattle.rich_soundness_values.specs.Laws.{Keeps}
use Rattle.rich_soundness_values.proofs.Framed.{framed_all}
use Rattle.rich_soundness_points.specs.Programs.{AllFit}
use Rattle.rich_soundness_points.specs.Points.{closed, Levels, InBody, Callers}
use Rattle.rich_soundness_points.specs.Good.{AreSet, in_body, Good, Fine, IsSafeAt}
use Rattle.rich_soundness_rows.proofs.Moves.{is_own}
use Rattle.rich_soundness_lists.proofs.Bodies.{BodySafe, in_bodies}
use Rattle.rich_soundness_frames.proofs.Framed.{framed_levels, framed_callers, framed_globals}
use Rattle.rich_soundness_frames.proofs.Still.{nothing_turns, not_yet}

-- no more rights stand in operands and cells than there are
abbrev pub AreFew : Config → List Val → Type 0
AreFew c vs = (r : Right) (n : ℕ) → count_all (rights_to r n) vs + count_stores (rights_to r n) c.stores ≤ is_live (slice_get c.stores.linear n)

-- as many rights stand in operands and cells, by what is live
abbrev pub AreKept : List Val → Stores → List Val → Stores → Type 0
AreKept vs s vs' s' = (r : Right) (n : ℕ) →
    (count_all (rights_to r n) vs' + count_stores (rights_to r n) s') + is_live (slice_get s.linear n) ≡ (count_all (rights_to r n) vs + count_stores (rights_to r n) s) + is_live (slice_get s'.linear n)

-- what a row is told
pub record Told (hs : Heaps) (f : Frame) (q : Point) (g : Substitution) (i : Instr) (c : Config) (vs : List Val) : Type 0 where
  pub answered : Answer g (scope_of q.binders)
  pub goes : Goes (row f q i)
  pub operands : HaveTypes hs vs (all_at g q.operands)
  pub stored : Stored hs c.stores
  pub few : AreFew c vs

-- what it shows: a step to operands of the types that the table gives, and to stores, where all else stays; or a trap
pub data Acts (f : Frame) (hs : Heaps) (q : Point) (g : Substitution) (i : Instr) (vs : List Val) (here : Here) (c : Config) (turn : Turn Event Config) : Type 0 where
  changes : (given : List Ty) (es : List Event) (hs' : Heaps) (n : ℕ) (vs' : List Val) (s' : Stores) → row f q i ≡ Gives given None → turn ≡ Went es (record c { here = record here { operands = vs' }; stores = s' }) →
      Keeps n hs hs' → is_live (slice_get c.stores.linear n) ≤ count_all (rights_to Reading n) vs + count_stores (rights_to Reading n) c.stores →
      HaveTypes hs' vs' (all_at g given) → Stored hs' s' → AreKept vs c.stores vs' s' → Acts f hs q g i vs here c turn
  traps : (es : List Event) (e : End) → turn ≡ Ended es e c → Acts f hs q g i vs here c turn

-- it acts on these operands
abbrev pub ActsOn : List LinkedFunc → Frame → Heaps → Point → Substitution → Here → Config → Instr → List Val → Type 0
ActsOn funcs f hs q g here c i vs = Acts f hs q g i vs here c (act funcs i (record here { operands = vs }) c)

abbrev pub CellActs : Instr → Type 0
CellActs i = (funcs : List LinkedFunc) (f : Frame) (hs : Heaps) (q : Point) (g : Substitution) (here : Here) (c : Config) (vs : List Val) → Told hs f q g i c vs → ActsOn funcs f hs q g here c i vs

-- the stores stay
pub reads : {f : Frame} {hs : Heaps} {q : Point} {g : Substitution} {i : Instr} {vs : List Val} {here : Here} {c : Config} {turn : Turn Event Config} → Stored hs c.stores →
    (given : List Ty) (es : List Event) (vs' : List Val) → row f q i ≡ Gives given None → turn ≡ Went es (record c { here = record here { operands = vs' } }) → HaveTypes hs vs' (all_at g given) →
    ((r : Right) (n : ℕ) → count_all (rights_to r n) vs' ≡ count_all (rights_to r n) vs) → Acts f hs q g i vs here c turn
reads {hs = hs} {c = c} st given es vs' e t h rights =
    changes given es hs (length c.stores.linear) vs' c.stores e t (nothing_turns (length c.stores.linear) hs) (omega (arith, not_yet c.stores.linear)) h st (λ r n. omega (arith, rights r n))

rest_of : {f : Frame} {d : Demand} {q : Point} {i : Instr} {is : List Instr} {operands : List Ty} {change : _} {notes : List Note} → Follows f d q i is (Gives operands change) notes → Derives f d (moved q operands change) is notes
rest_of (derive.goes_on d) = d

module _ (i : Instr) (acts : CellActs i) (p : Program) (c : Config) (rest : List Instr) (good : Good p c) (owner : Owner) (results operands : List Ty) (set : AreSet p good.set owner) (b : InBody p good.heaps owner results operands c.here)
    (typed : HaveTypes good.heaps c.here.operands (all_at b.goes_on.answers b.goes_on.point.operands)) (callers : Callers p good.heaps owner results c.callers) (later : List Note) where
  abbrev after : Here
  after = record c.here { rest = rest }

  by_acts : Follows b.goes_on.frame b.goes_on.demand b.goes_on.point i rest (row b.goes_on.frame b.goes_on.point i) later → AllFit rest → (turn : Turn Event Config) →
      Acts b.goes_on.frame good.heaps b.goes_on.point b.goes_on.answers i c.here.operands after c turn → Fine p turn
  by_acts follows fit turn (traps es e t) = subst (λ (x : Turn Event Config). Fine p x) (sym t) good.kept
  by_acts follows fit turn (changes given es hs' n vs s' e t keeps live h st rights) = subst (λ (x : Turn Event Config). Fine p x) (sym t) (record {
    heaps = hs';
    functions = keeps.functions ∙ good.functions;
    set = good.set;
    runs = in_body owner results (all_at b.goes_on.answers given) set (record {
      labels = b.labels;
      demand = b.demand;
      locals = all_at b.goes_on.answers b.goes_on.point.locals;
      goes_on = record {
        frame = b.goes_on.frame;
        demand = b.goes_on.demand;
        point = moved b.goes_on.point given None;
        notes = later;
        code = rest_of (subst (λ (o : Outcome). Follows b.goes_on.frame b.goes_on.demand b.goes_on.point i rest o later) e follows);
        fit = fit;
        owned = b.goes_on.owned;
        functions = b.goes_on.functions;
        globals = b.goes_on.globals;
        answers = b.goes_on.answers;
        answered = b.goes_on.answered;
        demanded = b.goes_on.demanded;
        seen = ap (λ (x : Point). closed (all_at b.goes_on.answers b.goes_on.point.locals) x.labels x.results (all_at b.goes_on.answers given)) b.goes_on.seen;
        sized = b.goes_on.sized;
      };
      levels = subst (λ (k : ℕ). Levels p hs' owner results k b.labels b.demand c.here.levels) (ap (λ (y : Point). length y.locals) b.goes_on.seen) (framed_levels n keeps b.levels (omega (arith, live, good.kept Reading n)));
      locals_typed = subst (λ (ts : List Ty). HaveTypes hs' c.here.locals ts) (ap (λ (y : Point). y.locals) b.goes_on.seen) (framed_all n keeps b.locals_typed (omega (arith, live, good.kept Reading n)));
      gives = b.gives;
    }) h (framed_callers n keeps callers (omega (arith, live, good.kept Reading n)));
    globals_typed = framed_globals n keeps good.globals_typed (omega (arith, live, good.kept Reading n));
    stored = st;
    kept = λ r m. omega (arith, rights r m, good.kept r m);
  })

  by_row : Goes (row b.goes_on.frame b.goes_on.point i) → Follows b.goes_on.frame b.goes_on.demand b.goes_on.point i rest (row b.goes_on.frame b.goes_on.point i) later → AllFit rest → Fine p (act p.funcs i after c)
  by_row go follows fit = by_acts follows fit (act p.funcs i after c) (acts p.funcs b.goes_on.frame good.heaps b.goes_on.point b.goes_on.answers after c c.here.operands (record {
    answered = b.goes_on.answered;
    goes = go;
    operands = typed;
    stored = good.stored;
    few = λ r n. omega (arith, good.kept r n);
  }))

body_safe : (i : Instr) → CellActs i → BodySafe i
body_safe i acts p c rest good owner results operands set b typed callers o later r go follows fits fit =
    by_row i acts p c rest good owner results operands set b typed callers later (subst Goes (sym r) go) (subst (λ (x : Outcome). Follows b.goes_on.frame b.goes_on.demand b.goes_on.point i rest x later) (sym r) follows) fit

-- a row that acts is safe
pub safe : (i : Instr) → is_own i ≡ false → CellActs i → IsSafeAt i
safe i other acts = in_bodies i other (body_safe i acts)
