-- Each step has the effect of its instruction.
use Rattle.std.proofs.Common.{List, [], ◌∷◌}
use Rattle.rw_types.specs.declared.instrs.Instr as i
use Rattle.rw_program.specs.declared.linked.LinkedFunc.{LinkedFunc}
use Rattle.machine_steps.specs.declared.Trap.TheVariants.{Unreachable}
use Rattle.rich_operators.specs.Operators.{operator_of}
use Rattle.rich_reduction.specs.Configurations.{Config}
use Rattle.rich_reduction.specs.Steps.{act, step_at}
use Rattle.rich_reduction_laws.specs.Effects.{effect_of, next_effect, HasEffect}
use Rattle.rich_reduction_laws.specs.Laws.{EffectsHold}
use Rattle.rich_reduction_laws.proofs.Plain as plain
use Rattle.rich_reduction_laws.proofs.Cells as cells

module _ (funcs : List LinkedFunc) (c : Config) where
  acts : (x : i.Instr) (rest : List i.Instr) → HasEffect (effect_of x) c (act funcs x (record c.here { rest = rest }) c)
  acts i.Nop rest = plain.still c
  acts i.Unreachable rest = plain.trapped c Unreachable tt
  acts i.Drop rest = plain.drop_one c (record c.here { rest = rest })
  acts i.Unit rest = plain.still c
  acts i.Print rest = plain.print_number c rest
  acts (i.I32Const n) rest = plain.still c
  acts (i.I64Const n) rest = plain.still c
  acts (i.Num name) rest = plain.numbers c (operator_of name) (record c.here { rest = rest })
  acts (i.Block' sig _ body) rest = plain.enter_block c sig (i.items-the_row-Instr _ body) (record c.here { rest = rest })
  acts (i.Loop' sig _ body) rest = plain.enter_loop c sig (i.items-the_row-Instr _ body) (record c.here { rest = rest })
  acts (i.If' sig _ first _ second) rest = plain.enter_if c sig (i.items-the_row-Instr _ first) (i.items-the_row-Instr _ second) (record c.here { rest = rest })
  acts (i.Br label) rest = plain.branch_to c label (record c.here { rest = rest })
  acts (i.BrIf label) rest = plain.branch_if c label (record c.here { rest = rest })
  acts i.Return rest = plain.return_now c (record c.here { rest = rest })
  acts (i.LocalGet n) rest = plain.get_local c n (record c.here { rest = rest })
  acts (i.LocalTake n) rest = plain.take_local c n (record c.here { rest = rest })
  acts (i.LocalSet n) rest = plain.set_local c n (record c.here { rest = rest })
  acts (i.GlobalGet n) rest = plain.get_global c n (record c.here { rest = rest })
  acts (i.GlobalSet n) rest = plain.set_global c n (record c.here { rest = rest })
  acts (i.Coderef f) rest = plain.still c
  acts (i.Inst arguments) rest = plain.instantiate c (record c.here { rest = rest })
  acts (i.Call n arguments) rest = plain.call_direct c funcs n (record c.here { rest = rest })
  acts i.CallIndirect rest = plain.call_indirect c funcs (record c.here { rest = rest })
  acts i.Qualify rest = plain.qualify c (record c.here { rest = rest })
  acts (i.RecFold t) rest = plain.fold c (record c.here { rest = rest })
  acts i.RecUnfold rest = plain.unfold_one c (record c.here { rest = rest })
  acts (i.Group n q) rest = plain.group c n (record c.here { rest = rest })
  acts i.Ungroup rest = plain.ungroup c (record c.here { rest = rest })
  acts (i.MemPack l t) rest = plain.pack c (record c.here { rest = rest })
  acts (i.MemUnpack' sig _ body) rest = plain.enter_unpacked c sig (i.items-the_row-Instr _ body) (record c.here { rest = rest })
  acts i.RefSplit rest = plain.split_ref c (record c.here { rest = rest })
  acts i.RefJoin rest = plain.join_ref c (record c.here { rest = rest })
  acts i.CapSplit rest = plain.split_cap c (record c.here { rest = rest })
  acts i.CapJoin rest = plain.join_cap c (record c.here { rest = rest })
  acts (i.StructMalloc m sizes) rest = cells.make_struct c m sizes (record c.here { rest = rest })
  acts i.StructFree rest = cells.free_struct c (record c.here { rest = rest })
  acts (i.StructGet n) rest = cells.get_slot c n (record c.here { rest = rest })
  acts (i.StructSet n) rest = cells.set_slot c n (record c.here { rest = rest })
  acts (i.StructSwap n) rest = cells.swap_slot c n (record c.here { rest = rest })
  acts (i.VariantMalloc m n cases) rest = cells.make_variant c m n cases (record c.here { rest = rest })
  acts (i.VariantCase' sig _ arms) rest = cells.open_variant c sig (i.items-the_row-Instr-VariantCase-1-1 _ arms) (record c.here { rest = rest })
  acts (i.ArrayMalloc m) rest = cells.make_array c m (record c.here { rest = rest })
  acts i.ArrayGet rest = cells.get_element c (record c.here { rest = rest })
  acts i.ArraySet rest = cells.set_element c (record c.here { rest = rest })
  acts i.ArrayLen rest = cells.get_length c (record c.here { rest = rest })
  acts i.ArrayFree rest = cells.free_array c (record c.here { rest = rest })
  acts (i.ExistPack m q size t body) rest = cells.make_package c m size (record c.here { rest = rest })
  acts (i.ExistUnpack' sig _ body) rest = cells.open_package c sig (i.items-the_row-Instr _ body) (record c.here { rest = rest })

  pub steps : (is : List i.Instr) → HasEffect (next_effect is) c (step_at funcs is c)
  steps [] = plain.leave c c.here.levels c.here
  steps (x ∷ rest) = acts x rest

pub effects : EffectsHold
effects funcs c = steps funcs c c.here.rest
