-- A body runs on behind an instruction that gives operands.
use Rattle.std.proofs.Common.{◌≡◌, ◌∙◌, ℕ, List, [], ◌∷◌, ◌++◌, Option, length, refl, ap, subst, arith}
use Rattle.machine_steps.specs.Simulations.{Comes}
use Rattle.machine_steps.specs.Steps.{Turn, Went, onward as onward_from, reached, reached_by}
use Rattle.wasm_ast.specs.declared.instructions.WInstr.{WInstr}
use Rattle.wasm_execution.specs.Configurations as w
use Rattle.wasm_execution.specs.Environments.{Environment}
use Rattle.wasm_execution.specs.Steps as wasm_steps
use Rattle.rw_types.specs.declared.instrs.Instr.{Instr}
use Rattle.rw_types.specs.declared.types.Ty.{Ty}
use Rattle.rich_types.specs.Scopes.{Scope, scope_of}
use Rattle.rich_rules.specs.Derivations.{Derives, Follows, ends, enters, goes_on, step}
use Rattle.rich_rules.specs.Points.{Change, Demand, Frame, Gives, Outcome, Point, changed_to, moved}
use Rattle.rich_rules.specs.Table.{note_of, row}
use Rattle.rich_rules_inversions.specs.Cells.{Goes}
use Rattle.rich_reduction.specs.Configurations as r
use Rattle.rich_reduction.specs.Steps as rich_steps
use Rattle.rw_program.specs.Programs.{Program}
use Rattle.lowering_rows.specs.Plain.{plain_row}
use Rattle.lowering_rows.specs.Surroundings.{operand_place}
use Rattle.simulation_relation.specs.Bodies.{AreHeld, Body, IsLeft, IsRunning, base_at, carried_at, demanded_at}
use Rattle.simulation_relation.specs.Words.{AreSpelled, Book, IsSpelled, LocalsHold}
use Rattle.simulation_lists.proofs.Moving.{lists_move_on}
use Rattle.simulation_frames.specs.Laws.{AreKept}
use Rattle.simulation_frames.specs.Steps.{StepsAlike}
use Rattle.simulation_frames.proofs.Open.{base_above, open_lists_stay}

-- the row of an instruction of a list that has a derivation breaks no rule
goes_of : {f : Frame} {d : Demand} {p : Point} {i : Instr} {is : List Instr} {o : Outcome} {notes : _} → Follows f d p i is o notes → Goes o
goes_of (ends e nn) = tt
goes_of (goes_on x) = tt
goes_of (enters inner later nn arms x) = tt

pub outcome_of : (f : Frame) (d : Demand) (p : Point) (i : Instr) (is : List Instr) (notes : _) → Derives f d p (i ∷ is) notes → (o : Outcome) × (row f p i ≡ o) × Goes o
outcome_of f d p i is notes (step o later r nn x) = (o, r, goes_of x)

-- one step
pub one_step : {E B : Type 0} (g : B → Turn E B) (b c : B) → g b ≡ Went [] c → Comes g 1 b [] c
one_step g b c s = record { by = ap (λ o. reached_by o b (reached g 0)) s }

-- two steps
pub two_steps : {E B : Type 0} (g : B → Turn E B) (b c d : B) → g b ≡ Went [] c → g c ≡ Went [] d → Comes g 2 b [] d
two_steps g b c d s t = record { by = ap (λ o. reached_by o b (reached g 1)) s ∙ ap (λ r. onward_from [] r) (one_step g c d t).by }

-- operands that are not empty
pub record HasTop (book : Book) (c : Scope) (t : Ty) (ts : List Ty) (vs : List r.Val) (words : List ℕ) : Type 0 where
  pub value : r.Val
  pub others : List r.Val
  pub values : vs ≡ value ∷ others
  pub beneath : List ℕ
  pub own : List ℕ
  pub parts : words ≡ beneath ++ own
  pub top : IsSpelled book c t value own
  pub rest : AreSpelled book c ts others beneath

pub top_of : (book : Book) (c : Scope) (t : Ty) (ts : List Ty) (vs : List r.Val) (words : List ℕ) → AreSpelled book c (t ∷ ts) vs words → HasTop book c t ts vs words
top_of book c t ts [] words h = absurd h
top_of book c t ts (v ∷ vs) words h = record { value = v; others = vs; values = refl; beneath = h.0; own = h.1; parts = h.2; top = h.3; rest = h.4 }

module _ (p : Program) (e : Environment) (b : Body) (book : Book) (a : r.Config) (c : w.Config) (i : Instr) (is : List Instr) (run : IsRunning b book a.here c.here) (next : a.here.rest ≡ i ∷ is) where
  pub there : IsLeft b book run.stands.labels run.stands.demand run.point (i ∷ is) c.here.rest
  there = subst (λ (l : List Instr). IsLeft b book run.stands.labels run.stands.demand run.point l c.here.rest) next run.stands.rest_left

  pub outcome : (o : Outcome) × (row b.frame run.point i ≡ o) × Goes o
  outcome = outcome_of b.frame run.stands.demand run.point i is there.notes there.derived

  -- the source's step
  pub source : rich_steps.step p.funcs a ≡ rich_steps.act p.funcs i (record a.here { rest = is }) a
  source = ap (λ (l : List Instr). rich_steps.step_at p.funcs l a) next

  -- what stands on top
  pub top : (t : Ty) (ts : List Ty) → run.point.operands ≡ t ∷ ts → HasTop book (scope_of run.point.binders) t ts a.here.operands run.stands.operands.words
  top t ts taken = top_of book (scope_of run.point.binders) t ts a.here.operands run.stands.operands.words (subst (λ (l : List Ty). AreSpelled book (scope_of run.point.binders) l a.here.operands run.stands.operands.words) taken run.stands.operands.spelled)

  -- the code of the instruction
  abbrev pub own_code : List WInstr
  own_code = plain_row b.around run.stands.labels i (note_of b.frame run.point i)

  -- both go on, with these operands and locals
  pub onward : (operands : List Ty) (change : Option Change) (vs ls : List r.Val) (n : ℕ) (locals : List ℕ) → row b.frame run.point i ≡ Gives operands change →
      rich_steps.act p.funcs i (record a.here { rest = is }) a ≡ Went [] (record a { here = record a.here { rest = is; operands = vs; locals = ls } }) →
      ((rest : List WInstr) → c.here.rest ≡ own_code ++ rest → Comes (wasm_steps.step e) n c [] (record c { here = record c.here { rest = rest; locals = locals } })) →
      length locals ≡ length c.here.locals → AreKept b.around.places.operands (operand_place b.around (base_at run.point)) c.here.locals locals →
      LocalsHold book (scope_of run.point.binders) locals b.around.places.locals (changed_to change run.point.locals) ls →
      AreHeld b book locals (moved run.point operands change) operands vs → StepsAlike p e b book a c is n
  onward operands change vs ls n locals r act steps many kept hold held =
      let m = lists_move_on b book run.stands.labels run.stands.demand run.point i is operands change c.here.rest there r in
      let base = base_above run.point there.lists there.placed.lowered run.stands.lists in
      record {
        here = record a.here { rest = is; operands = vs; locals = ls };
        target = record c.here { rest = m.0; locals = locals };
        source_step = source ∙ act;
        target_steps = steps m.0 m.1;
        left = refl;
        results = refl;
        function = refl;
        argument = refl;
        running = record {
          point = moved run.point operands change;
          stands = record {
            labels = run.stands.labels;
            demand = run.stands.demand;
            rest_left = m.2;
            operands = held;
            locals = hold;
            lists = open_lists_stay b book c.here.locals locals run.stands.labels (carried_at run.point) (demanded_at run.point run.stands.demand) a.here.levels c.here.levels (λ k l u. kept k l (omega (arith, base, u))) run.stands.lists;
            sizes = run.stands.sizes;
            frame = many ∙ run.stands.frame;
            no_operands = run.stands.no_operands;
          };
        };
      }
