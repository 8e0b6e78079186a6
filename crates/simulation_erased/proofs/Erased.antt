-- The cases of instructions that do nothing to words.
use Rattle.std.proofs.Common.{◌≡◌, ◌∙◌, ℕ, List, [], ◌∷◌, ◌++◌, None, refl, ap, sym, subst}
use Rattle.std.proofs.lemmas.List.{append-nil}
use Rattle.machine_steps.specs.Steps.{Went}
use Rattle.wasm_ast.specs.declared.instructions.WInstr as wasm
use Rattle.wasm_ast.specs.declared.instructions.WInstr.{WInstr}
use Rattle.wasm_ast.specs.declared.instructions.WInstr.TheOpen.{WInstr-F}
use Rattle.wasm_ast.specs.declared.instructions.WInstr.TheVariants.{rolls-Nop}
use Rattle.wasm_execution.specs.Configurations as w
use Rattle.wasm_execution.specs.Environments.{Environment}
use Rattle.rw_types.specs.declared.instrs.Instr.{Drop, Instr, Nop, Qualify, Unit}
use Rattle.rw_types.specs.declared.types.Qual.TheVariants.{Lin}
use Rattle.rw_types.specs.declared.types.Ty.{Of, Ty}
use Rattle.rich_types.specs.Scopes.{scope_of}
use Rattle.rich_rules.specs.Points.{Gives, moved}
use Rattle.rich_rules.specs.Table.{row}
use Rattle.rich_rules.specs.Takers.{unr_unit}
use Rattle.rich_rules_inversions.proofs.Bodies as inverted
use Rattle.rich_reduction.specs.Configurations as r
use Rattle.rich_reduction.specs.Plain.{drop_one, qualify}
use Rattle.rich_reduction.specs.Steps as rich_steps
use Rattle.wasm_execution.specs.Steps as wasm_steps
use Rattle.rw_program.specs.Programs.{Program}
use Rattle.lowering_laws.proofs.Walks.{acts}
use Rattle.lowering_rows.specs.Surroundings.{operand_place}
use Rattle.simulation_relation.specs.Bodies.{AreHeld, Body, IsRunning, base_at}
use Rattle.simulation_relation.specs.Words.{Book, Holds}
use Rattle.simulation_frames.specs.Steps.{StepsAlike}
use Rattle.simulation_frames.proofs.Words.{held_front}
use Rattle.simulation_frames.proofs.Onward.{one_step, onward, outcome, own_code, top}
use Rattle.simulation_erased.specs.Laws.{ErasedStepsAlike}

module _ (p : Program) (e : Environment) (b : Body) (book : Book) (a : r.Config) (c : w.Config) (i : Instr) (is : List Instr) (run : IsRunning b book a.here c.here) (next : a.here.rest ≡ i ∷ is) where
  -- both go on, with these operands
  on : (operands : List Ty) (vs : List r.Val) → row b.frame run.point i ≡ Gives operands None → own_code p e b book a c i is run next ≡ wasm.Nop ∷ [] →
      rich_steps.act p.funcs i (record a.here { rest = is }) a ≡ Went [] (record a { here = record a.here { rest = is; operands = vs } }) →
      AreHeld b book c.here.locals (moved run.point operands None) operands vs → StepsAlike p e b book a c is 1
  on operands vs r code act held =
      onward p e b book a c i is run next operands None vs a.here.locals 1 c.here.locals r act
      (λ rest is. one_step (wasm_steps.step e) c (record c { here = record c.here { rest = rest } }) (acts e WInstr-F.Nop wasm.Nop rolls-Nop rest c (is ∙ ap (λ (l : List WInstr). l ++ rest) code)))
      refl (λ n l u. refl) run.stands.locals held

module _ (p : Program) (e : Environment) (b : Body) (book : Book) (a : r.Config) (c : w.Config) (is : List Instr) where
  of_nop : IsRunning b book a.here c.here → a.here.rest ≡ Nop ∷ is → StepsAlike p e b book a c is 1
  unfolding row
  of_nop run next = on p e b book a c Nop is run next run.point.operands a.here.operands refl refl refl (record { words = run.stands.operands.words; spelled = run.stands.operands.spelled; held = run.stands.operands.held })

  of_drop : IsRunning b book a.here c.here → a.here.rest ≡ Drop ∷ is → StepsAlike p e b book a c is 1
  unfolding row
  of_drop run next =
      let o = outcome p e b book a c Drop is run next in
      let x = inverted.rows.drop (scope_of run.point.binders) run.point.operands o.0 o.1 o.2 in
      let t = top p e b book a c Drop is run next x.value x.beneath x.taken in
      on p e b book a c Drop is run next x.beneath t.others (o.1 ∙ x.given) refl
      (ap (λ (vs : List r.Val). drop_one (record a.here { rest = is; operands = vs }) a) t.values)
      (record {
        words = t.beneath;
        spelled = t.rest;
        held = held_front c.here.locals (operand_place b.around (base_at run.point)) t.beneath t.own (subst (λ (l : List ℕ). Holds c.here.locals (operand_place b.around (base_at run.point)) l) t.parts run.stands.operands.held);
      })

  of_unit : IsRunning b book a.here c.here → a.here.rest ≡ Unit ∷ is → StepsAlike p e b book a c is 1
  unfolding row
  of_unit run next =
      on p e b book a c Unit is run next (unr_unit ∷ run.point.operands) (r.Empty ∷ a.here.operands) refl refl refl
      (record {
        words = run.stands.operands.words;
        spelled = (run.stands.operands.words, [], sym (append-nil run.stands.operands.words), record { spelled = refl; sized = refl }, run.stands.operands.spelled);
        held = run.stands.operands.held;
      })

  of_qualify : IsRunning b book a.here c.here → a.here.rest ≡ Qualify ∷ is → StepsAlike p e b book a c is 1
  unfolding row
  of_qualify run next =
      let o = outcome p e b book a c Qualify is run next in
      let x = inverted.rows.qualify run.point.operands o.0 o.1 o.2 in
      let t = top p e b book a c Qualify is run next (Of x.qual x.form) x.beneath x.taken in
      on p e b book a c Qualify is run next (Of Lin x.form ∷ x.beneath) (t.value ∷ t.others) (o.1 ∙ x.given) refl
      (ap (λ (vs : List r.Val). qualify (record a.here { rest = is; operands = vs }) a) t.values)
      (record {
        words = run.stands.operands.words;
        spelled = (t.beneath, t.own, t.parts, record { spelled = t.top.spelled; sized = t.top.sized }, t.rest);
        held = run.stands.operands.held;
      })

pub erased_steps_alike : ErasedStepsAlike
erased_steps_alike p e b book a c Nop is h run next = of_nop p e b book a c is run next
erased_steps_alike p e b book a c Drop is h run next = of_drop p e b book a c is run next
erased_steps_alike p e b book a c Unit is h run next = of_unit p e b book a c is run next
erased_steps_alike p e b book a c Qualify is h run next = of_qualify p e b book a c is run next
erased_steps_alike p e b book a c _ is h run next = absurd h
