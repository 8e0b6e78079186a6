-- Behind an instruction that takes nothing and gives one operand, whose words are written above those of the others.
use Rattle.std.proofs.Common.{◌≡◌, ◌≤◌, ℕ, ◌+◌, List, [], ◌∷◌, ◌++◌, Option, length, refl, sym, subst, arith}
use Rattle.std.specs.Prelude.{sum}
use Rattle.machine_steps.specs.Simulations.{Comes}
use Rattle.machine_steps.specs.Steps.{Went}
use Rattle.wasm_ast.specs.declared.instructions.WInstr.{WInstr}
use Rattle.wasm_execution.specs.Configurations as w
use Rattle.wasm_execution.specs.Environments.{Environment}
use Rattle.wasm_execution.specs.Steps as wasm_steps
use Rattle.rw_types.specs.declared.instrs.Instr.{Instr}
use Rattle.rw_types.specs.declared.types.Ty.{Ty}
use Rattle.rich_types.specs.Scopes.{Scope, scope_of}
use Rattle.rich_types.specs.Sizes.{list_size}
use Rattle.rich_rules.specs.Points.{Change, Gives, changed_to}
use Rattle.rich_rules.specs.Table.{note_of, row, takes}
use Rattle.rich_reduction.specs.Configurations as r
use Rattle.rich_reduction.specs.Steps as rich_steps
use Rattle.rw_program.specs.Programs.{Program}
use Rattle.layout.specs.Cells.{offsets_from}
use Rattle.lowering_rows.specs.Surroundings.{operand_place}
use Rattle.lowering_names.specs.Placed.{StandsIn}
use Rattle.lowering_names.proofs.Notes.{beneath_is}
use Rattle.lowering_runs.specs.Laws.{written}
use Rattle.simulation_relation.specs.Bodies.{AreHeld, Body, IsRunning, base_at}
use Rattle.simulation_relation.specs.Words.{Book, Holds, IsSpelled, LocalsHold}
use Rattle.simulation_lists.proofs.Moving.{lists_move_on}
use Rattle.simulation_frames.specs.Steps.{StepsAlike}
use Rattle.simulation_frames.proofs.Words.{held_joined, kept_below, kept_held, spelled_size, written_held, written_length}
use Rattle.simulation_frames.proofs.Locals.{locals_kept}
use Rattle.simulation_frames.proofs.Onward.{onward, own_code, there}

module _ (p : Program) (e : Environment) (b : Body) (book : Book) (a : r.Config) (c : w.Config) (is : List Instr) (stands : StandsIn b.around b.frame b.room) (run : IsRunning b book a.here c.here) where
  abbrev pub At : Scope
  At = scope_of run.point.binders

  -- locals in the slots of the frame
  abbrev pub Hold : List ℕ → List Ty → List r.Val → Type 0
  Hold locals types vs = LocalsHold book At locals (offsets_from 0 b.frame.slots) types vs

  pub in_slots : Hold c.here.locals run.point.locals a.here.locals
  in_slots = subst (λ (l : List ℕ). LocalsHold book At c.here.locals l run.point.locals a.here.locals) stands.locals run.stands.locals

  pub in_places : (locals : List ℕ) (types : List Ty) (vs : List r.Val) → Hold locals types vs → LocalsHold book At locals b.around.places.locals types vs
  in_places locals types vs h = subst (λ (l : List ℕ). LocalsHold book At locals l types vs) (sym stands.locals) h

  module _ (i : Instr) (next : a.here.rest ≡ i ∷ is) (t : Ty) (v : r.Val) (ws : List ℕ) (own : IsSpelled book At t v ws) (change : Option Change) (given : row b.frame run.point i ≡ Gives (t ∷ run.point.operands) change) (none : takes b.frame run.point i ≡ 0) where
    -- where the words are written
    abbrev pub To : ℕ
    To = operand_place b.around (note_of b.frame run.point i).beneath

    abbrev pub After : List ℕ
    After = written To ws c.here.locals

    pub high : (note_of b.frame run.point i).beneath ≡ list_size At run.point.operands + base_at run.point
    high = beneath_is b.frame run.point i [] run.point.operands none refl

    enough : list_size At (t ∷ run.point.operands) + base_at run.point ≤ b.room
    enough = (lists_move_on b book run.stands.labels run.stands.demand run.point i is (t ∷ run.point.operands) change c.here.rest (there p e b book a c i is run next) given).2.placed.height

    pub room : To + length ws ≤ length c.here.locals
    room = omega (arith, high, own.sized, enough, stands.scratch, run.stands.frame)

    pub same_locals : Hold After run.point.locals a.here.locals
    same_locals = locals_kept book At c.here.locals After 0 b.frame.slots run.point.locals a.here.locals run.stands.rest_left.placed.locals (kept_below To ws c.here.locals 0 (0 + sum b.frame.slots) (omega (arith, stands.operands))) in_slots

    on_top : AreHeld b book After run.point (t ∷ run.point.operands) (v ∷ a.here.operands)
    on_top =
        let under = run.stands.operands.words in
        let base = operand_place b.around (base_at run.point) in
        let size = spelled_size book At run.point.operands a.here.operands under run.stands.operands.spelled in
        let place : To ≡ base + length under = omega (arith, high, size) in
        let kept = kept_below To ws c.here.locals 0 To (omega arith) in
        record {
          words = under ++ ws;
          spelled = (under, ws, refl, own, run.stands.operands.spelled);
          held = held_joined After base under ws (kept_held c.here.locals After 0 To kept base under (omega arith) (omega (arith, place)) run.stands.operands.held) (subst (λ (m : ℕ). Holds After m ws) place (written_held To ws c.here.locals room));
        }

    -- both go on, with these locals
    pub pushed : (ls : List r.Val) (steps : ℕ) → rich_steps.act p.funcs i (record a.here { rest = is }) a ≡ Went [] (record a { here = record a.here { rest = is; operands = v ∷ a.here.operands; locals = ls } }) →
        ((rest : List WInstr) → c.here.rest ≡ own_code p e b book a c i is run next ++ rest → Comes (wasm_steps.step e) steps c [] (record c { here = record c.here { rest = rest; locals = After } })) →
        Hold After (changed_to change run.point.locals) ls → StepsAlike p e b book a c is steps
    pushed ls steps act runs hold =
        onward p e b book a c i is run next (t ∷ run.point.operands) change (v ∷ a.here.operands) ls steps After given act runs (written_length To ws c.here.locals)
        (kept_below To ws c.here.locals b.around.places.operands (operand_place b.around (base_at run.point)) (omega (arith, high)))
        (in_places After (changed_to change run.point.locals) ls hold)
        (record { words = on_top.words; spelled = on_top.spelled; held = on_top.held })
