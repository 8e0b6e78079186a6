-- The case of `print`.
use Rattle.std.proofs.Common.{◌≡◌, ◌∙◌, ℕ, ◌+◌, List, [], ◌∷◌, Option, None, Some, length, refl, ap, subst, arith}
use Rattle.std.specs.Prelude.{slice_get}
use Rattle.machine_steps.specs.Simulations.{Comes}
use Rattle.machine_steps.specs.Steps.{NoStep, Turn, Went, onward as onward_from, reached, reached_by, with_found}
use Rattle.wasm_ast.specs.declared.instructions.WInstr as wasm
use Rattle.wasm_ast.specs.declared.instructions.WInstr.{WInstr}
use Rattle.wasm_ast.specs.declared.instructions.WInstr.TheOpen.{WInstr-F}
use Rattle.wasm_ast.specs.declared.instructions.WInstr.TheVariants.{rolls-Call, rolls-LocalGet}
use Rattle.wasm_ast.specs.declared.types.ValTy.TheVariants.{I64}
use Rattle.wasm_execution.specs.Calls.{call}
use Rattle.wasm_execution.specs.Configurations as w
use Rattle.wasm_execution.specs.Environments.{Environment, Function, function_at}
use Rattle.wasm_execution.specs.Types.{takes_and_gives}
use Rattle.wasm_execution.specs.Steps as wasm_steps
use Rattle.rw_types.specs.declared.instrs.Instr.{Print}
use Rattle.rich_types.specs.Scopes.{scope_of}
use Rattle.rich_rules.specs.Points.{moved}
use Rattle.rich_rules.specs.Table.{note_of, row, takes}
use Rattle.rich_rules.specs.Takers.{unr_i64}
use Rattle.rich_rules_inversions.proofs.Bodies as inverted
use Rattle.rich_reduction.specs.Configurations as r
use Rattle.rich_reduction.specs.Plain.{print_number}
use Rattle.lowering_laws.proofs.Walks.{acts}
use Rattle.lowering_rows.specs.Surroundings.{operand_place}
use Rattle.lowering_names.proofs.Notes.{beneath_is}
use Rattle.simulation_relation.specs.Bodies.{base_at}
use Rattle.simulation_relation.specs.Words.{Holds, Spells}
use Rattle.simulation_lists.proofs.Moving.{lists_move_on}
use Rattle.simulation_frames.proofs.Words.{held_back, held_front, spelled_size}
use Rattle.simulation_frames.proofs.Onward.{outcome, source, there, top}
use Rattle.simulation_prints.specs.Laws.{PrintsStepAlike}

-- where `print` makes a step a number stands on top
printed : (v : r.Val) (others : List r.Val) (here : r.Here) (a : r.Config) → (print_number (record here { operands = v ∷ others }) a ≡ NoStep → ⊥) → (n : ℕ) × (v ≡ r.Number n)
printed (r.Number n) others here a h = (n, refl)
printed r.Empty others here a h = absurd (h refl)
printed (r.Tuple vs) others here a h = absurd (h refl)
printed (r.Ref l p) others here a h = absurd (h refl)
printed (r.Ptr l) others here a h = absurd (h refl)
printed (r.Cap l p) others here a h = absurd (h refl)
printed (r.Own l) others here a h = absurd (h refl)
printed (r.Fold v) others here a h = absurd (h refl)
printed (r.Pack v) others here a h = absurd (h refl)
printed (r.Code n) others here a h = absurd (h refl)

-- a step that says nothing, and one that says this
then_says : {E B : Type 0} (g : B → Turn E B) (b c d : B) (es : E) → g b ≡ Went [] c → g c ≡ Went (es ∷ []) d → Comes g 2 b (es ∷ []) d
then_says g b c d es s t = record { by = ap (λ o. reached_by o b (reached g 1)) s ∙ ap (λ r. onward_from [] r) (ap (λ o. reached_by o c (reached g 0)) t) }

-- a word of the frame is given to the host's print
print_runs : (e : Environment) (c : w.Config) (at n : ℕ) (rest : List WInstr) → function_at e 0 ≡ Some (record { ty = takes_and_gives (I64 ∷ []) None; code = None }) → slice_get c.here.locals at ≡ Some n →
    c.here.rest ≡ wasm.LocalGet at ∷ wasm.Call 0 ∷ rest → Comes (wasm_steps.step e) 2 c (w.Print n ∷ []) (record c { here = record c.here { rest = rest } })
print_runs e c at n rest host held next =
    let between : w.Config = record c { here = record c.here { rest = wasm.Call 0 ∷ rest; operands = n ∷ c.here.operands } } in
    let after : w.Config = record c { here = record c.here { rest = rest } } in
    then_says (wasm_steps.step e) c between after (w.Print n)
    (acts e (WInstr-F.LocalGet at) (wasm.LocalGet at) (rolls-LocalGet at) (wasm.Call 0 ∷ rest) c next
    ∙ ap (λ (o : Option ℕ). with_found o (λ v. Went [] (record c { here = record c.here { rest = wasm.Call 0 ∷ rest; operands = v ∷ c.here.operands } }))) held)
    (acts e (WInstr-F.Call 0) (wasm.Call 0) (rolls-Call 0) rest between refl ∙ ap (λ (o : Option Function). with_found o (λ f. call e 0 f (record between.here { rest = rest }) between)) host)

pub prints_step_alike : PrintsStepAlike
unfolding row takes
prints_step_alike p e b book a c is host run next moves =
    let o = outcome p e b book a c Print is run next in
    let x = inverted.rows.from_to (unr_i64 ∷ []) [] run.point.operands o.0 o.1 o.2 in
    let t = top p e b book a c Print is run next unr_i64 x.beneath x.taken in
    let made = source p e b book a c Print is run next ∙ ap (λ (vs : List r.Val). print_number (record a.here { rest = is; operands = vs }) a) t.values in
    let v = printed t.value t.others (record a.here { rest = is }) a (λ stuck. moves (made ∙ stuck)) in
    let m = lists_move_on b book run.stands.labels run.stands.demand run.point Print is x.beneath None c.here.rest (there p e b book a c Print is run next) (o.1 ∙ x.result) in
    let low = beneath_is b.frame run.point Print (unr_i64 ∷ []) x.beneath refl x.taken in
    let base = operand_place b.around (base_at run.point) in
    let from = operand_place b.around (note_of b.frame run.point Print).beneath in
    let place : base + length t.beneath ≡ from = omega (arith, low, spelled_size book (scope_of run.point.binders) x.beneath t.others t.beneath t.rest) in
    let all = subst (λ (l : List ℕ). Holds c.here.locals base l) t.parts run.stands.operands.held in
    let ours = subst (λ (j : ℕ). Holds c.here.locals j t.own) place (held_back c.here.locals base t.beneath t.own all) in
    let one = subst (λ (u : r.Val). Spells book u t.own) v.1 t.top.spelled in
    let word = subst (λ (l : List ℕ). Holds c.here.locals from l) one ours in
    record {
      number = v.0;
      here = record a.here { rest = is; operands = t.others };
      target = record c.here { rest = m.0 };
      source_step = made ∙ ap (λ (u : r.Val). print_number (record a.here { rest = is; operands = u ∷ t.others }) a) v.1;
      target_steps = print_runs e c from v.0 m.0 host word.0 m.1;
      left = refl;
      results = refl;
      function = refl;
      argument = refl;
      running = record {
        point = moved run.point x.beneath None;
        stands = record {
          labels = run.stands.labels;
          demand = run.stands.demand;
          rest_left = m.2;
          operands = record { words = t.beneath; spelled = t.rest; held = held_front c.here.locals base t.beneath t.own all };
          locals = run.stands.locals;
          lists = run.stands.lists;
          sizes = run.stands.sizes;
          frame = run.stands.frame;
          no_operands = run.stands.no_operands;
        };
      };
    }
