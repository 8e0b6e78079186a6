-- Each step turns the calls so, and the program's own list stays beneath them.
use Rattle.std.proofs.Common.{◌≡◌, ◌∙◌, List, [], ◌∷◌, length, refl, sym, ap, subst, arith}
use Rattle.rw_types.specs.declared.instrs.Instr as i
use Rattle.rw_program.specs.declared.linked.LinkedFunc.{LinkedFunc}
use Rattle.machine_steps.specs.Steps.{Turn, Went, Ended, NoStep}
use Rattle.rich_operators.specs.Operators.{operator_of}
use Rattle.rich_reduction.specs.Configurations.{Val, Here, Config, Event}
use Rattle.rich_reduction.specs.Steps.{act, step_at, step}
use Rattle.rich_reduction_calls.specs.Calls.{StaysCall, TurnsCalls, TurnsCallsBy, stays, calls, leaves, AreOnOwn, IsOnOwn, IsOnOwnAfter}
use Rattle.rich_reduction_calls.specs.Laws.{StepsTurnCalls, StartsOnOwn, StaysOnOwn}
use Rattle.rich_reduction_calls.proofs.Plain as plain
use Rattle.rich_reduction_calls.proofs.Cells as cells

module _ (funcs : List LinkedFunc) (c : Config) where
  acts : (x : i.Instr) (rest : List i.Instr) → TurnsCallsBy c (act funcs x (record c.here { rest = rest }) c)
  acts i.Nop rest = stays (refl, refl) refl
  acts i.Unreachable rest = tt
  acts i.Drop rest = plain.drop_one c (record c.here { rest = rest }) (refl, refl)
  acts i.Unit rest = stays (refl, refl) refl
  acts i.Print rest = plain.print_number c (record c.here { rest = rest }) (refl, refl)
  acts (i.I32Const n) rest = stays (refl, refl) refl
  acts (i.I64Const n) rest = stays (refl, refl) refl
  acts (i.Num name) rest = plain.numbers c (operator_of name) (record c.here { rest = rest }) (refl, refl)
  acts (i.Block' sig _ body) rest = plain.enter_block c sig (i.items-the_row-Instr _ body) (record c.here { rest = rest }) (refl, refl)
  acts (i.Loop' sig _ body) rest = plain.enter_loop c sig (i.items-the_row-Instr _ body) (record c.here { rest = rest }) (refl, refl)
  acts (i.If' sig _ first _ second) rest = plain.enter_if c sig (i.items-the_row-Instr _ first) (i.items-the_row-Instr _ second) (record c.here { rest = rest }) (refl, refl)
  acts (i.Br label) rest = plain.branch_to c label (record c.here { rest = rest }) (refl, refl)
  acts (i.BrIf label) rest = plain.branch_if c label (record c.here { rest = rest }) (refl, refl)
  acts i.Return rest = plain.return_now c (record c.here { rest = rest })
  acts (i.LocalGet n) rest = plain.get_local c n (record c.here { rest = rest }) (refl, refl)
  acts (i.LocalTake n) rest = plain.take_local c n (record c.here { rest = rest }) (refl, refl)
  acts (i.LocalSet n) rest = plain.set_local c n (record c.here { rest = rest }) (refl, refl)
  acts (i.GlobalGet n) rest = plain.get_global c n (record c.here { rest = rest }) (refl, refl)
  acts (i.GlobalSet n) rest = plain.set_global c n (record c.here { rest = rest }) (refl, refl)
  acts (i.Coderef f) rest = stays (refl, refl) refl
  acts (i.Inst arguments) rest = plain.instantiate c (record c.here { rest = rest }) (refl, refl)
  acts (i.Call n arguments) rest = plain.call_direct c funcs n (record c.here { rest = rest }) (refl, refl)
  acts i.CallIndirect rest = plain.call_indirect c funcs (record c.here { rest = rest }) (refl, refl)
  acts i.Qualify rest = plain.qualify c (record c.here { rest = rest }) (refl, refl)
  acts (i.RecFold t) rest = plain.fold c (record c.here { rest = rest }) (refl, refl)
  acts i.RecUnfold rest = plain.unfold_one c (record c.here { rest = rest }) (refl, refl)
  acts (i.Group n q) rest = plain.group c n (record c.here { rest = rest }) (refl, refl)
  acts i.Ungroup rest = plain.ungroup c (record c.here { rest = rest }) (refl, refl)
  acts (i.MemPack l t) rest = plain.pack c (record c.here { rest = rest }) (refl, refl)
  acts (i.MemUnpack' sig _ body) rest = plain.enter_unpacked c sig (i.items-the_row-Instr _ body) (record c.here { rest = rest }) (refl, refl)
  acts i.RefSplit rest = plain.split_ref c (record c.here { rest = rest }) (refl, refl)
  acts i.RefJoin rest = plain.join_ref c (record c.here { rest = rest }) (refl, refl)
  acts i.CapSplit rest = plain.split_cap c (record c.here { rest = rest }) (refl, refl)
  acts i.CapJoin rest = plain.join_cap c (record c.here { rest = rest }) (refl, refl)
  acts (i.StructMalloc m sizes) rest = cells.make_struct c m sizes (record c.here { rest = rest }) (refl, refl)
  acts i.StructFree rest = cells.free_struct c (record c.here { rest = rest }) (refl, refl)
  acts (i.StructGet n) rest = cells.get_slot c n (record c.here { rest = rest }) (refl, refl)
  acts (i.StructSet n) rest = cells.set_slot c n (record c.here { rest = rest }) (refl, refl)
  acts (i.StructSwap n) rest = cells.swap_slot c n (record c.here { rest = rest }) (refl, refl)
  acts (i.VariantMalloc m n cases) rest = cells.make_variant c m n cases (record c.here { rest = rest }) (refl, refl)
  acts (i.VariantCase' sig _ arms) rest = cells.open_variant c sig (i.items-the_row-Instr-VariantCase-1-1 _ arms) (record c.here { rest = rest }) (refl, refl)
  acts (i.ArrayMalloc m) rest = cells.make_array c m (record c.here { rest = rest }) (refl, refl)
  acts i.ArrayGet rest = cells.get_element c (record c.here { rest = rest }) (refl, refl)
  acts i.ArraySet rest = cells.set_element c (record c.here { rest = rest }) (refl, refl)
  acts i.ArrayLen rest = cells.get_length c (record c.here { rest = rest }) (refl, refl)
  acts i.ArrayFree rest = cells.free_array c (record c.here { rest = rest }) (refl, refl)
  acts (i.ExistPack m q size t body) rest = cells.make_package c m size (record c.here { rest = rest }) (refl, refl)
  acts (i.ExistUnpack' sig _ body) rest = cells.open_package c sig (i.items-the_row-Instr _ body) (record c.here { rest = rest }) (refl, refl)

  steps : (is : List i.Instr) → TurnsCallsBy c (step_at funcs is c)
  steps [] = plain.leave c c.here.levels c.here (refl, refl)
  steps (x ∷ rest) = acts x rest

pub turned : StepsTurnCalls
turned funcs c = steps funcs c c.here.rest

pub started : StartsOnOwn
started p = (refl, refl)

no_locals : (vs : List Val) → length vs ≡ 0 → vs ≡ []
no_locals [] e = refl
no_locals (v ∷ vs) e = absurd (omega (arith, e))

-- another call with as many results and locals
moved : (h k : Here) (ks : List Here) → StaysCall h k → AreOnOwn h ks → AreOnOwn k ks
moved h k [] s own = (s.0 ∙ own.0, no_locals k.locals (s.1 ∙ ap length own.1))
moved h k (x ∷ ks) s own = own

by_turn : (c c' : Config) → IsOnOwn c → TurnsCalls c c' → IsOnOwn c'
by_turn c c' own (stays s e) = subst (λ (ks : List Here). AreOnOwn c'.here ks) (sym e) (moved c.here c'.here c.callers s own)
by_turn c c' own (calls waiting s e) = subst (λ (ks : List Here). AreOnOwn c'.here ks) (sym e) (moved c.here waiting c.callers s own)
by_turn c c' own (leaves waiting s e) = moved waiting c'.here c'.callers s (subst (λ (ks : List Here). AreOnOwn c.here ks) e own)

after : (c : Config) (turn : Turn Event Config) → IsOnOwn c → TurnsCallsBy c turn → IsOnOwnAfter turn
after c (Went es c') own t = by_turn c c' own t
after c (Ended es e c') own t = tt
after c NoStep own t = tt

pub stayed : StaysOnOwn
stayed funcs c own = after c (step funcs c) own (turned funcs c)
