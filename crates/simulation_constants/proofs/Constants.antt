-- The cases of instructions that give one known word.
use Rattle.std.proofs.Common.{◌≡◌, ◌∙◌, ◌<◌, ℕ, zero, suc, List, [], ◌∷◌, ◌++◌, Option, None, Some, length, refl, ap, sym, arith}
use Rattle.std.specs.Prelude.{slice_get, slice_set}
use Rattle.machine_steps.specs.Simulations.{Comes}
use Rattle.machine_steps.specs.Steps.{Went, with_found}
use Rattle.wasm_ast.specs.declared.instructions.WInstr as wasm
use Rattle.wasm_ast.specs.declared.instructions.WInstr.{WInstr}
use Rattle.wasm_ast.specs.declared.instructions.WInstr.TheOpen.{WInstr-F}
use Rattle.wasm_ast.specs.declared.instructions.WInstr.TheVariants.{rolls-I64Const, rolls-LocalSet}
use Rattle.wasm_execution.specs.Configurations as w
use Rattle.wasm_execution.specs.Environments.{Environment}
use Rattle.wasm_execution.specs.Steps as wasm_steps
use Rattle.rw_types.specs.declared.instrs.Instr.{Coderef, I32Const, I64Const, Instr}
use Rattle.rw_types.specs.declared.types.Pre.TheVariants.{Code}
use Rattle.rw_types.specs.declared.types.Qual.TheVariants.{Unr}
use Rattle.rw_types.specs.declared.types.Ty.{Of, Ty}
use Rattle.rich_types.specs.Scopes.{scope_of}
use Rattle.rich_types.proofs.Sized.{size-Code}
use Rattle.rich_rules.specs.Points.{Gives}
use Rattle.rich_rules.specs.Table.{note_of, row, takes}
use Rattle.rich_rules.specs.Takers.{unr_i32, unr_i64}
use Rattle.rich_rules_inversions.proofs.Bodies as inverted
use Rattle.rich_reduction.specs.Configurations as r
use Rattle.rich_reduction.specs.Steps as rich_steps
use Rattle.rw_program.specs.Programs.{Program}
use Rattle.lowering_laws.proofs.Walks.{acts}
use Rattle.lowering_rows.specs.Surroundings.{operand_place}
use Rattle.lowering_names.specs.Placed.{StandsIn}
use Rattle.simulation_relation.specs.Bodies.{Body, IsRunning}
use Rattle.simulation_relation.specs.Words.{Book, IsSpelled}
use Rattle.simulation_frames.specs.Steps.{StepsAlike}
use Rattle.simulation_frames.proofs.Onward.{outcome, own_code, two_steps}
use Rattle.simulation_frames.proofs.Pushed.{pushed, room, same_locals}
use Rattle.simulation_constants.specs.Laws.{ConstantsStepAlike}

-- a place that is there
present : (locals : List ℕ) (n : ℕ) → n < length locals → (v : ℕ) × (slice_get locals n ≡ Some v)
present [] n h = absurd (omega (arith, h))
present (v ∷ locals) zero h = (v, refl)
present (v ∷ locals) (suc n) h = present locals n (omega (arith, h))

-- a constant goes to a local
constant_runs : (e : Environment) (c : w.Config) (n to : ℕ) (rest : List WInstr) → to < length c.here.locals → c.here.rest ≡ wasm.I64Const n ∷ wasm.LocalSet to ∷ rest →
    Comes (wasm_steps.step e) 2 c [] (record c { here = record c.here { rest = rest; locals = slice_set c.here.locals to n } })
constant_runs e c n to rest room at =
    let between : w.Config = record c { here = record c.here { rest = wasm.LocalSet to ∷ rest; operands = n ∷ c.here.operands } } in
    let after : w.Config = record c { here = record c.here { rest = rest; locals = slice_set c.here.locals to n } } in
    two_steps (wasm_steps.step e) c between after
    (acts e (WInstr-F.I64Const n) (wasm.I64Const n) (rolls-I64Const n) (wasm.LocalSet to ∷ rest) c at)
    (acts e (WInstr-F.LocalSet to) (wasm.LocalSet to) (rolls-LocalSet to) rest between refl ∙ ap (λ (o : Option ℕ). with_found o (λ old. Went [] after)) (present c.here.locals to room).1)

module _ (p : Program) (e : Environment) (b : Body) (book : Book) (a : r.Config) (c : w.Config) (is : List Instr) (stands : StandsIn b.around b.frame b.room) (run : IsRunning b book a.here c.here) where
  -- an instruction that gives a value of one word
  gives_word : (i : Instr) (next : a.here.rest ≡ i ∷ is) (n : ℕ) (t : Ty) (v : r.Val) → IsSpelled book (scope_of run.point.binders) t v (n ∷ []) → row b.frame run.point i ≡ Gives (t ∷ run.point.operands) None → takes b.frame run.point i ≡ 0 →
      own_code p e b book a c i is run next ≡ wasm.I64Const n ∷ wasm.LocalSet (operand_place b.around (note_of b.frame run.point i).beneath) ∷ [] →
      rich_steps.act p.funcs i (record a.here { rest = is }) a ≡ Went [] (record a { here = record a.here { rest = is; operands = v ∷ a.here.operands } }) → StepsAlike p e b book a c is 2
  gives_word i next n t v own given none code act =
      let to = operand_place b.around (note_of b.frame run.point i).beneath in
      pushed p e b book a c is stands run i next t v (n ∷ []) own None given none a.here.locals 2 act
      (λ rest at. constant_runs e c n to rest (omega (arith, room p e b book a c is stands run i next t v (n ∷ []) own None given none)) (at ∙ ap (λ (l : List WInstr). l ++ rest) code))
      (same_locals p e b book a c is stands run i next t v (n ∷ []) own None given none)

  of_i32 : (n : ℕ) → a.here.rest ≡ I32Const n ∷ is → StepsAlike p e b book a c is 2
  unfolding row takes
  of_i32 n next = gives_word (I32Const n) next n unr_i32 (r.Number n) (record { spelled = refl; sized = refl }) refl refl refl refl

  of_i64 : (n : ℕ) → a.here.rest ≡ I64Const n ∷ is → StepsAlike p e b book a c is 2
  unfolding row takes
  of_i64 n next = gives_word (I64Const n) next n unr_i64 (r.Number n) (record { spelled = refl; sized = refl }) refl refl refl refl

  of_coderef : (n : ℕ) → a.here.rest ≡ Coderef n ∷ is → StepsAlike p e b book a c is 2
  unfolding row takes
  of_coderef n next =
      let o = outcome p e b book a c (Coderef n) is run next in
      let g = inverted.rows.coderef b.frame (scope_of run.point.binders) n run.point.operands o.0 o.1 o.2 in
      gives_word (Coderef n) next n (Of Unr (Code g.function)) (r.Code n) (record { spelled = refl; sized = sym (size-Code (scope_of run.point.binders) g.function) }) (o.1 ∙ g.given) refl refl refl

pub constants_step_alike : ConstantsStepAlike
constants_step_alike p e b book a c (I32Const n) is h stands run next = of_i32 p e b book a c is stands run n next
constants_step_alike p e b book a c (I64Const n) is h stands run next = of_i64 p e b book a c is stands run n next
constants_step_alike p e b book a c (Coderef n) is h stands run next = of_coderef p e b book a c is stands run n next
constants_step_alike p e b book a c _ is h stands run next = absurd h
