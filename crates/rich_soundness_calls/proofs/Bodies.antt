-- What is shown of an instruction in bodies of a sound program; and bodies that go on with other operands and other globals.
use Rattle.std.proofs.Common.{◌≡◌, ◌∙◌, ℕ, ◌+◌, List, [], ◌∷◌, None, true, false, refl, sym, ap, subst, drop, arith}
use Rattle.rw_types.specs.declared.instrs.Instr.{Instr, GlobalSet}
use Rattle.rw_types.specs.declared.types.Ty.{Ty}
use Rattle.rw_program.specs.Programs.{Program}
use Rattle.rich_typing.specs.declared.notes.Note.{Note}
use Rattle.rich_rules.specs.Points.{Owner, Point, Outcome, Gives, moved}
use Rattle.rich_rules.specs.Table.{row}
use Rattle.rich_rules.specs.Derivations as derive
use Rattle.rich_rules.specs.Derivations.{Derives, Follows}
use Rattle.rich_rules_inversions.specs.Cells.{Goes}
use Rattle.rich_reduction.specs.Configurations.{Val, Here, Config}
use Rattle.rich_reduction.specs.Steps.{act, step_at}
use Rattle.rich_rights.specs.Rights.{Right, rights_to, count_all}
use Rattle.rich_soundness_values.specs.Heaps.{all_at}
use Rattle.rich_soundness_values.specs.Values.{HaveTypes}
use Rattle.rich_soundness_points.specs.Programs.{Fits, AllFit, IsSound}
use Rattle.rich_soundness_points.specs.Points.{closed, labels_at, GoesOn, InBody, Callers}
use Rattle.rich_soundness_points.specs.Good.{AreSet, AreGlobals, Runs, in_body, in_own_list, sets_global, at_end, Good, Fine, IsSafeAt}
use Rattle.rich_soundness_rows.proofs.Moves.{is_own, own, goes_on}

-- in a body of a sound program, with the outcome of its row and what follows, a step is fine
abbrev pub SafeInBodies : Instr → Type 0
SafeInBodies i =
    (p : Program) (c : Config) (rest : List Instr) → IsSound p → (good : Good p c) (owner : Owner) (results operands : List Ty) (set : AreSet p good.set owner) (b : InBody p good.heaps owner results operands c.here)
    → HaveTypes good.heaps c.here.operands (all_at b.goes_on.answers b.goes_on.point.operands) → Callers p good.heaps owner results c.callers
    → (o : Outcome) (later : List Note) → row b.goes_on.frame b.goes_on.point i ≡ o → Goes o → Follows b.goes_on.frame b.goes_on.demand b.goes_on.point i rest o later
    → Fits i → AllFit rest → Fine p (act p.funcs i (record c.here { rest = rest }) c)

module _ (i : Instr) (safe : SafeInBodies i) (p : Program) (c : Config) (rest : List Instr) (sound : IsSound p) (good : Good p c) where
  by_code : (owner : Owner) (results operands : List Ty) (set : AreSet p good.set owner) (b : InBody p good.heaps owner results operands c.here) → HaveTypes good.heaps c.here.operands operands → Callers p good.heaps owner results c.callers →
      {notes : List Note} → Derives b.goes_on.frame b.goes_on.demand b.goes_on.point (i ∷ rest) notes → AllFit (i ∷ rest) → Fine p (act p.funcs i (record c.here { rest = rest }) c)
  by_code owner results operands set b typed callers (derive.step o later r e follows) fit =
      safe p c rest sound good owner results operands set b (subst (λ (ts : List Ty). HaveTypes good.heaps c.here.operands ts) (ap (λ (x : Point). x.operands) b.goes_on.seen) typed) callers o later r (goes_on follows) follows fit.0 fit.1

  pub by_body : c.here.rest ≡ i ∷ rest → (owner : Owner) (results operands : List Ty) (set : AreSet p good.set owner) (b : InBody p good.heaps owner results operands c.here) → HaveTypes good.heaps c.here.operands operands → Callers p good.heaps owner results c.callers →
      Fine p (act p.funcs i (record c.here { rest = rest }) c)
  by_body at owner results operands set b typed callers =
      by_code owner results operands set b typed callers (subst (λ (is : List Instr). Derives b.goes_on.frame b.goes_on.demand b.goes_on.point is b.goes_on.notes) at b.goes_on.code) (subst AllFit at b.goes_on.fit)

  by_runs : is_own i ≡ false → c.here.rest ≡ i ∷ rest → Runs p good.heaps good.set c.here c.callers → Fine p (act p.funcs i (record c.here { rest = rest }) c)
  by_runs other at (in_body owner results operands set b typed callers) = by_body at owner results operands set b typed callers
  by_runs other at (in_own_list e none) = (let a = own good.set (drop good.set p.globals) p.main i rest (sym (ap (λ (h : Here). h.rest) e) ∙ at) in absurd (let t : true ≡ false = sym a ∙ other in cc))
  by_runs other at (sets_global v g is h e none) = (let a : GlobalSet good.set ∷ _ ≡ i ∷ rest = sym (ap (λ (x : Here). x.rest) e) ∙ at in absurd (let t : true ≡ false = cc in cc))
  by_runs other at (at_end n w e none) = (let a : [] ≡ i ∷ rest = sym (ap (λ (h : Here). h.rest) e) ∙ at in absurd (cc))

-- at its instruction a step is fine
pub at_rest : (i : Instr) (p : Program) (c : Config) (rest : List Instr) → c.here.rest ≡ i ∷ rest → Fine p (act p.funcs i (record c.here { rest = rest }) c) → Fine p (step_at p.funcs c.here.rest c)
at_rest i p c rest at fine = subst (λ (is : List Instr). Fine p (step_at p.funcs is c)) (sym at) fine

-- where the program's own list has none such
pub safe_in_bodies : (i : Instr) → is_own i ≡ false → SafeInBodies i → IsSafeAt i
safe_in_bodies i other safe p c rest sound good at = at_rest i p c rest at (by_runs i safe p c rest sound good other at good.runs)

rest_of : {b : _} {d : _} {q : Point} {i : Instr} {is : List Instr} {given : List Ty} {notes : List Note} → Follows b d q i is (Gives given None) notes → Derives b d (moved q given None) is notes
rest_of (derive.goes_on d) = d

module _ (p : Program) (c : Config) (rest : List Instr) (good : Good p c) {owner : Owner} {results operands : List Ty} (b : InBody p good.heaps owner results operands c.here) (i : Instr) (given : List Ty) {later : List Note} where
  -- what is left goes on from what a row gives
  pub goes_on_with : Follows b.goes_on.frame b.goes_on.demand b.goes_on.point i rest (Gives given None) later → AllFit rest → (ts : List Ty) → ts ≡ all_at b.goes_on.answers given →
      GoesOn p owner b.demand (closed b.locals b.labels results ts) c.here.sizes rest
  goes_on_with follows fit ts same = record {
    frame = b.goes_on.frame;
    demand = b.goes_on.demand;
    point = moved b.goes_on.point given None;
    notes = later;
    code = rest_of follows;
    fit = fit;
    owned = b.goes_on.owned;
    functions = b.goes_on.functions;
    globals = b.goes_on.globals;
    answers = b.goes_on.answers;
    answered = b.goes_on.answered;
    demanded = b.goes_on.demanded;
    seen = ap (λ (x : Point). closed x.locals x.labels x.results ts) b.goes_on.seen
        ∙ ap (λ (l : List Ty). closed (all_at b.goes_on.answers b.goes_on.point.locals) (labels_at b.goes_on.answers b.goes_on.point.labels) (all_at b.goes_on.answers b.goes_on.point.results) l) same;
    sized = b.goes_on.sized;
  }

  -- with these operands and globals
  pub moves_on : AreSet p good.set owner → Callers p good.heaps owner results c.callers → Follows b.goes_on.frame b.goes_on.demand b.goes_on.point i rest (Gives given None) later → AllFit rest →
      (vs globals : List Val) → HaveTypes good.heaps vs (all_at b.goes_on.answers given) → AreGlobals p good.heaps good.set globals →
      ((r : Right) (n : ℕ) → count_all (rights_to r n) vs + count_all (rights_to r n) globals ≡ count_all (rights_to r n) c.here.operands + count_all (rights_to r n) c.globals) →
      Good p (record c { here = record c.here { rest = rest; operands = vs }; globals = globals })
  moves_on set callers follows fit vs globals typed globals_typed rights = record {
    heaps = good.heaps;
    functions = good.functions;
    set = good.set;
    runs = in_body owner results (all_at b.goes_on.answers given) set (record {
      labels = b.labels;
      demand = b.demand;
      locals = b.locals;
      goes_on = goes_on_with follows fit (all_at b.goes_on.answers given) refl;
      levels = b.levels;
      locals_typed = b.locals_typed;
      gives = b.gives;
    }) typed callers;
    globals_typed = globals_typed;
    stored = good.stored;
    kept = λ r n. omega (arith, rights r n, good.kept r n);
  }
