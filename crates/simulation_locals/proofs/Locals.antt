-- The cases of instructions on locals.
use Rattle.std.proofs.Common.{◌≡◌, ◌∙◌, ◌≤◌, inl, inr, ℕ, ◌+◌, List, [], ◌∷◌, ◌++◌, Option, None, Some, length, refl, ap, sym, subst, arith}
use Rattle.std.specs.Prelude.{slice_get, slice_set}
use Rattle.machine_steps.specs.Steps.{Went, with_found}
use Rattle.wasm_execution.specs.Configurations as w
use Rattle.wasm_execution.specs.Environments.{Environment}
use Rattle.wasm_execution.specs.Steps as wasm_steps
use Rattle.machine_steps.specs.Simulations.{Comes}
use Rattle.wasm_ast.specs.declared.instructions.WInstr.{WInstr}
use Rattle.rw_types.specs.declared.instrs.Instr.{Instr, LocalGet, LocalSet, LocalTake}
use Rattle.rw_types.specs.declared.types.Ty.{Ty}
use Rattle.rich_types.specs.Scopes.{Scope, scope_of}
use Rattle.rich_types.specs.Sizes.{size_under}
use Rattle.rich_rules.specs.Points.{Becomes, Change, Gives, OfFunction, changed_to, OfGlobal, Outcome, Owner}
use Rattle.rich_rules.specs.Table.{in_function, note_of, row, takes}
use Rattle.rich_rules.specs.Takers.{unr_unit}
use Rattle.rich_rules.specs.Variables.{local_get_row, local_set_row, local_take_row}
use Rattle.rich_rules_inversions.specs.Cells.{Goes}
use Rattle.rich_rules_inversions.proofs.Bodies as inverted
use Rattle.rich_rules_inversions.proofs.Takers.{stops}
use Rattle.rich_reduction.specs.Configurations as r
use Rattle.rich_reduction.specs.Plain.{put, put_local, set_local}
use Rattle.rich_reduction.specs.Steps as rich_steps
use Rattle.lowering_rows.specs.Moves.{moves}
use Rattle.rw_program.specs.Programs.{Program}
use Rattle.layout.specs.Cells.{offsets_from}
use Rattle.layout.specs.Frames.{taken_words}
use Rattle.lowering_rows.specs.Surroundings.{local_place, operand_place}
use Rattle.lowering_rows.specs.Taken.{local_size}
use Rattle.lowering_names.specs.Placed.{StandsIn}
use Rattle.lowering_names.proofs.Notes.{beneath_is, words_are}
use Rattle.lowering_names.proofs.Places.{set_same}
use Rattle.lowering_runs.specs.Laws.{written}
use Rattle.lowering_runs.proofs.Runs.{moves_run}
use Rattle.simulation_relation.specs.Bodies.{Body, IsRunning, base_at}
use Rattle.simulation_relation.specs.Words.{Book, Holds, LocalsHold}
use Rattle.simulation_lists.proofs.Moving.{lists_move_on}
use Rattle.simulation_frames.specs.Steps.{StepsAlike}
use Rattle.simulation_frames.proofs.Words.{held_back, held_front, kept_above, kept_held, spelled_size, written_length}
use Rattle.simulation_frames.proofs.Locals.{HasLocal, HasSlot, local_found, local_set, slot_of}
use Rattle.simulation_frames.proofs.Onward.{onward, outcome, own_code, there, top}
use Rattle.simulation_frames.proofs.Pushed.{in_places, in_slots, pushed, room, same_locals}
use Rattle.simulation_locals.specs.Laws.{LocalsStepAlike, words_moved}

owned : (o : Outcome) → Goes o → (x : Owner) (rest : Outcome) → in_function x rest ≡ o → rest ≡ o
owned o go OfFunction rest r = r
owned o go (OfGlobal n) rest r = stops r go

module _ (p : Program) (e : Environment) (b : Body) (book : Book) (a : r.Config) (c : w.Config) (is : List Instr) (stands : StandsIn b.around b.frame b.room) (run : IsRunning b book a.here c.here) where
  abbrev At : Scope
  At = scope_of run.point.binders

  abbrev Hold : List ℕ → List Ty → List r.Val → Type 0
  Hold locals types vs = LocalsHold book At locals (offsets_from 0 b.frame.slots) types vs

  side : Hold c.here.locals run.point.locals a.here.locals
  side = in_slots p e b book a c is stands run

  -- words of a local are put on the operands
  module _ (i : Instr) (n : ℕ) (next : a.here.rest ≡ i ∷ is) (t : Ty) (found : slice_get run.point.locals n ≡ Some t) (change : Option Change) (given : row b.frame run.point i ≡ Gives (t ∷ run.point.operands) change) (none : takes b.frame run.point i ≡ 0) where
    abbrev Words : ℕ
    Words = local_size At (slice_get run.point.locals n)

    abbrev To : ℕ
    To = operand_place b.around (note_of b.frame run.point i).beneath

    x : HasLocal book At c.here.locals (offsets_from 0 b.frame.slots) a.here.locals n t
    x = local_found book At c.here.locals (offsets_from 0 b.frame.slots) run.point.locals a.here.locals n t side found

    k : HasSlot b.around b.frame.slots n x.place
    k = slot_of b.around b.frame b.room At run.point.locals n t x.place stands run.stands.rest_left.placed.locals found x.placed

    abbrev After : List ℕ
    After = written To x.words c.here.locals

    many : length x.words ≡ Words
    many = x.spelled.sized ∙ sym (ap (λ (o : Option Ty). local_size At o) found)

    fits : size_under At t ≤ k.size
    fits = run.stands.rest_left.placed.locals.fit n t k.size found k.found

    code_runs : own_code p e b book a c i is run next ≡ moves Words (local_place b.around n) To → (rest : List WInstr) → c.here.rest ≡ own_code p e b book a c i is run next ++ rest →
        Comes (wasm_steps.step e) (Words + Words) c [] (record c { here = record c.here { rest = rest; locals = After } })
    code_runs code rest at =
        moves_run e c Words (local_place b.around n) To rest x.words (at ∙ ap (λ (l : List WInstr). l ++ rest) code) many (subst (λ (m : ℕ). Holds c.here.locals m x.words) (sym k.placed) x.held)
        (omega (arith, room p e b book a c is stands run i next t x.value x.words x.spelled change given none, many))
        (inr (omega (arith, k.placed, k.within, fits, many, x.spelled.sized)))

    -- the locals are not changed by that
    holds : Hold After run.point.locals a.here.locals
    holds = same_locals p e b book a c is stands run i next t x.value x.words x.spelled change given none

    -- both go on, with these locals
    goes : (ls : List r.Val) → own_code p e b book a c i is run next ≡ moves Words (local_place b.around n) To →
        rich_steps.act p.funcs i (record a.here { rest = is }) a ≡ Went [] (record a { here = record a.here { rest = is; operands = x.value ∷ a.here.operands; locals = ls } }) →
        Hold After (changed_to change run.point.locals) ls → StepsAlike p e b book a c is (Words + Words)
    goes ls code act hold = pushed p e b book a c is stands run i next t x.value x.words x.spelled change given none ls (Words + Words) act (code_runs code) hold

    -- a unit in its place
    emptied : Hold After (slice_set run.point.locals n unr_unit) (slice_set a.here.locals n r.Empty)
    emptied =
        local_set book At After unr_unit r.Empty [] (record { spelled = refl; sized = refl }) x.place k.size (omega arith) (omega (arith, k.within, stands.scratch, run.stands.frame, written_length To x.words c.here.locals)) 0 b.frame.slots
        run.point.locals a.here.locals n run.stands.rest_left.placed.locals k.found x.placed holds

  of_get : (n : ℕ) (next : a.here.rest ≡ LocalGet n ∷ is) → StepsAlike p e b book a c is (words_moved (LocalGet n) (note_of b.frame run.point (LocalGet n)) + words_moved (LocalGet n) (note_of b.frame run.point (LocalGet n)))
  unfolding row takes
  of_get n next =
      let o = outcome p e b book a c (LocalGet n) is run next in
      let g = inverted.rows.local_get At run.point.locals n run.point.operands o.0 (owned o.0 o.2 b.frame.owner (local_get_row At run.point.locals n run.point.operands) o.1) o.2 in
      let given : row b.frame run.point (LocalGet n) ≡ Gives (g.value ∷ run.point.operands) None = o.1 ∙ g.given in
      let y = x (LocalGet n) n next g.value g.found None given refl in
      goes (LocalGet n) n next g.value g.found None given refl a.here.locals refl
      (ap (λ (v : Option r.Val). with_found v (λ (u : r.Val). put u (record a.here { rest = is }) a)) y.found)
      (holds (LocalGet n) n next g.value g.found None given refl)

  of_take : (n : ℕ) (next : a.here.rest ≡ LocalTake n ∷ is) → StepsAlike p e b book a c is (words_moved (LocalTake n) (note_of b.frame run.point (LocalTake n)) + words_moved (LocalTake n) (note_of b.frame run.point (LocalTake n)))
  unfolding row takes
  of_take n next =
      let o = outcome p e b book a c (LocalTake n) is run next in
      let g = inverted.rows.local_take At run.point.locals n run.point.operands o.0 (owned o.0 o.2 b.frame.owner (local_take_row At run.point.locals n run.point.operands) o.1) o.2 in
      let change : Option Change = Some (Becomes n unr_unit) in
      let given : row b.frame run.point (LocalTake n) ≡ Gives (g.value ∷ run.point.operands) change = o.1 ∙ g.given in
      let y = x (LocalTake n) n next g.value g.found change given refl in
      goes (LocalTake n) n next g.value g.found change given refl (slice_set a.here.locals n r.Empty) refl
      (ap (λ (v : Option r.Val). with_found v (λ (u : r.Val). put_local n r.Empty (u ∷ a.here.operands) (record a.here { rest = is }) a)) y.found
      ∙ ap (λ (v : Option r.Val). with_found v (λ (u : r.Val). Went [] (record a { here = record a.here { rest = is; operands = y.value ∷ a.here.operands; locals = slice_set a.here.locals n r.Empty } }))) y.found)
      (emptied (LocalTake n) n next g.value g.found change given refl)

  of_set : (n : ℕ) (next : a.here.rest ≡ LocalSet n ∷ is) → StepsAlike p e b book a c is (words_moved (LocalSet n) (note_of b.frame run.point (LocalSet n)) + words_moved (LocalSet n) (note_of b.frame run.point (LocalSet n)))
  unfolding row takes
  of_set n next =
      let i : Instr = LocalSet n in
      let o = outcome p e b book a c i is run next in
      let g = inverted.rows.local_set At b.frame.slots run.point.locals n run.point.operands o.0 (owned o.0 o.2 b.frame.owner (local_set_row At b.frame.slots run.point.locals n run.point.operands) o.1) o.2 in
      let change : Option Change = Some (Becomes n g.value) in
      let given : row b.frame run.point i ≡ Gives g.beneath change = o.1 ∙ g.given in
      let t = top p e b book a c i is run next g.value g.beneath g.taken in
      let y = local_found book At c.here.locals (offsets_from 0 b.frame.slots) run.point.locals a.here.locals n g.before side g.found in
      let k = slot_of b.around b.frame b.room At run.point.locals n g.before y.place stands run.stands.rest_left.placed.locals g.found y.placed in
      let m = lists_move_on b book run.stands.labels run.stands.demand run.point i is g.beneath change c.here.rest (there p e b book a c i is run next) given in
      let fits = m.2.placed.locals.fit n g.value k.size (set_same run.point.locals n g.value g.before g.found) k.found in
      let note = note_of b.frame run.point i in
      let low = beneath_is b.frame run.point i (g.value ∷ []) g.beneath refl g.taken in
      let count = words_are b.frame run.point i (g.value ∷ []) g.beneath refl g.taken in
      let base = operand_place b.around (base_at run.point) in
      let from = operand_place b.around note.beneath in
      let size = spelled_size book At g.beneath t.others t.beneath t.rest in
      let own = t.top.sized in
      let all = subst (λ (l : List ℕ). Holds c.here.locals base l) t.parts run.stands.operands.held in
      let place : base + length t.beneath ≡ from = omega (arith, low, size) in
      let ours = subst (λ (j : ℕ). Holds c.here.locals j t.own) place (held_back c.here.locals base t.beneath t.own all) in
      let after : List ℕ = written (local_place b.around n) t.own c.here.locals in
      let kept = kept_above (local_place b.around n) t.own c.here.locals b.around.places.operands from (omega (arith, k.placed, k.within, fits, own)) in
      onward p e b book a c i is run next g.beneath change t.others (slice_set a.here.locals n t.value) (taken_words note + taken_words note) after given
      (ap (λ (vs : List r.Val). set_local n (record a.here { rest = is; operands = vs }) a) t.values
      ∙ ap (λ (v : Option r.Val). with_found v (λ (u : r.Val). Went [] (record a { here = record a.here { rest = is; operands = t.others; locals = slice_set a.here.locals n t.value } }))) y.found)
      (λ rest at. moves_run e c (taken_words note) from (local_place b.around n) rest t.own at (omega (arith, count, own)) ours (omega (arith, k.placed, k.within, fits, count, stands.scratch, run.stands.frame)) (inl (omega (arith, k.placed, k.within))))
      (written_length (local_place b.around n) t.own c.here.locals)
      (λ j l u. kept j l (omega (arith, u, place)))
      (in_places p e b book a c is stands run after (slice_set run.point.locals n g.value) (slice_set a.here.locals n t.value)
      (subst (λ (j : ℕ). Hold (written j t.own c.here.locals) (slice_set run.point.locals n g.value) (slice_set a.here.locals n t.value)) (sym k.placed)
      (local_set book At c.here.locals g.value t.value t.own t.top y.place k.size (omega (arith, fits, own)) (omega (arith, k.within, fits, own, stands.scratch, run.stands.frame)) 0 b.frame.slots run.point.locals a.here.locals n
      run.stands.rest_left.placed.locals k.found y.placed side)))
      (record { words = t.beneath; spelled = t.rest; held = kept_held c.here.locals after b.around.places.operands from kept base t.beneath (omega arith) (omega (arith, place)) (held_front c.here.locals base t.beneath t.own all) })

pub locals_step_alike : LocalsStepAlike
locals_step_alike p e b book a c (LocalGet n) is h stands run next = of_get p e b book a c is stands run n next
locals_step_alike p e b book a c (LocalTake n) is h stands run next = of_take p e b book a c is stands run n next
locals_step_alike p e b book a c (LocalSet n) is h stands run next = of_set p e b book a c is stands run n next
locals_step_alike p e b book a c _ is h stands run next = absurd h
