-- One step of a linked program that runs: an instruction, or the leaving of a list at its end. A configuration from which none
-- of these leads on has no step. This project's own.
use Rattle.std.specs.Prelude.{List, [], ◌∷◌}
use Rattle.rw_types.specs.declared.instrs.Instr as i
use Rattle.rw_program.specs.declared.linked.LinkedFunc.{LinkedFunc}
use Rattle.machine_steps.specs.declared.Trap.TheVariants.{Unreachable}
use Rattle.machine_steps.specs.Steps.{Turn}
use Rattle.rich_operators.specs.Operators.{operator_of}
use Rattle.rich_reduction.specs.Configurations.{Empty, Code, Here, Config, Event}
use Rattle.rich_reduction.specs.Turns.{goes_on, traps}
use Rattle.rich_reduction.specs.Numbers.{put_number, apply}
use Rattle.rich_reduction.specs.Plain.{put, drop_one, print_number, qualify, instantiate, fold, unfold_one, group, ungroup, pack, get_local, take_local, set_local, get_global, set_global}
use Rattle.rich_reduction.specs.Control.{enter_block, enter_loop, enter_if, enter_unpacked, branch_to, branch_if, call_direct, call_indirect, return_now, leave}
use Rattle.rich_reduction.specs.Capabilities.{split_ref, join_ref, split_cap, join_cap}
use Rattle.rich_reduction.specs.Structs.{make_struct, free_struct, get_slot, set_slot, swap_slot}
use Rattle.rich_reduction.specs.Arrays.{make_array, get_element, set_element, get_length, free_array}
use Rattle.rich_reduction.specs.Packages.{make_variant, open_variant, make_package, open_package}

module _ (funcs : List LinkedFunc) where
  -- an instruction; `here` has what follows it as its rest, and `c` is the configuration before it
  abbrev pub act : i.Instr → Here → Config → Turn Event Config
  act i.Nop here c = goes_on here c
  act i.Unreachable here c = traps Unreachable c
  act i.Drop here c = drop_one here c
  act i.Unit here c = put Empty here c
  act i.Print here c = print_number here c
  act (i.I32Const n) here c = put_number n here c
  act (i.I64Const n) here c = put_number n here c
  act (i.Num name) here c = apply (operator_of name) here c
  act (i.Block' sig _ body) here c = enter_block sig (i.items-the_row-Instr _ body) here c
  act (i.Loop' sig _ body) here c = enter_loop sig (i.items-the_row-Instr _ body) here c
  act (i.If' sig _ first _ second) here c = enter_if sig (i.items-the_row-Instr _ first) (i.items-the_row-Instr _ second) here c
  act (i.Br label) here c = branch_to label here c
  act (i.BrIf label) here c = branch_if label here c
  act i.Return here c = return_now here c
  act (i.LocalGet n) here c = get_local n here c
  act (i.LocalTake n) here c = take_local n here c
  act (i.LocalSet n) here c = set_local n here c
  act (i.GlobalGet n) here c = get_global n here c
  act (i.GlobalSet n) here c = set_global n here c
  act (i.Coderef f) here c = put (Code f) here c
  act (i.Inst arguments) here c = instantiate here c
  act (i.Call n arguments) here c = call_direct funcs n here c
  act i.CallIndirect here c = call_indirect funcs here c
  act i.Qualify here c = qualify here c
  act (i.RecFold t) here c = fold here c
  act i.RecUnfold here c = unfold_one here c
  act (i.Group n q) here c = group n here c
  act i.Ungroup here c = ungroup here c
  act (i.MemPack l t) here c = pack here c
  act (i.MemUnpack' sig _ body) here c = enter_unpacked sig (i.items-the_row-Instr _ body) here c
  act i.RefSplit here c = split_ref here c
  act i.RefJoin here c = join_ref here c
  act i.CapSplit here c = split_cap here c
  act i.CapJoin here c = join_cap here c
  act (i.StructMalloc m sizes) here c = make_struct m sizes here c
  act i.StructFree here c = free_struct here c
  act (i.StructGet n) here c = get_slot n here c
  act (i.StructSet n) here c = set_slot n here c
  act (i.StructSwap n) here c = swap_slot n here c
  act (i.VariantMalloc m n cases) here c = make_variant m n cases here c
  act (i.VariantCase' sig _ arms) here c = open_variant sig (i.items-the_row-Instr-VariantCase-1-1 _ arms) here c
  act (i.ArrayMalloc m) here c = make_array m here c
  act i.ArrayGet here c = get_element here c
  act i.ArraySet here c = set_element here c
  act i.ArrayLen here c = get_length here c
  act i.ArrayFree here c = free_array here c
  act (i.ExistPack m q size t body) here c = make_package m size here c
  act (i.ExistUnpack' sig _ body) here c = open_package sig (i.items-the_row-Instr _ body) here c

  abbrev pub step_at : List i.Instr → Config → Turn Event Config
  step_at [] c = leave c.here.levels c.here c
  step_at (i ∷ rest) c = act i (record c.here { rest = rest }) c

  abbrev pub step : Config → Turn Event Config
  step c = step_at c.here.rest c
