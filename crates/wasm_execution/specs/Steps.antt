-- One step of a module that runs (WebAssembly Core Specification 1.0, section 4.4): an instruction, or the leaving of a list at
-- its end. A configuration from which none of these leads on has no step.
use Rattle.std.specs.Prelude.{List, [], ◌∷◌}
use Rattle.wasm_ast.specs.declared.instructions.WInstr.{WInstr, out-WInstr}
use Rattle.wasm_ast.specs.Operations.{Operation, operation_in}
use Rattle.wasm_ast.specs.Operations as operation
use Rattle.machine_steps.specs.Steps.{Turn}
use Rattle.wasm_execution.specs.Configurations.{Here, Config, Event}
use Rattle.wasm_execution.specs.Environments.{Environment}
use Rattle.wasm_execution.specs.Turns.{goes_on}
use Rattle.wasm_execution.specs.Numbers.{constant, apply_unary, apply_binary, test_zero, apply_compare, apply_convert}
use Rattle.wasm_execution.specs.Variables.{drop_one, select_one, get_local, set_local, tee_local, get_global, set_global}
use Rattle.wasm_execution.specs.Memories.{load_number, store_number, size_of_memory, grow_memory}
use Rattle.wasm_execution.specs.Calls.{call_direct, call_indirect, return_now}
use Rattle.wasm_execution.specs.Control.{stop, enter_block, enter_loop, enter_if, enter_either, branch_to, branch_if, branch_table, leave}

module _ (e : Environment) where
  -- an instruction; `here` has what follows it as its rest, and `c` is the configuration before it
  abbrev pub act : Operation WInstr → Here → Config → Turn Event Config
  act operation.Unreachable here c = stop e c
  act operation.Nop here c = goes_on here c
  act (operation.Block t xs) here c = enter_block t xs here c
  act (operation.Loop t xs) here c = enter_loop t xs here c
  act (operation.If t xs) here c = enter_if t xs here c
  act (operation.IfElse t xs ys) here c = enter_either t xs ys here c
  act (operation.Br label) here c = branch_to e label here c
  act (operation.BrIf label) here c = branch_if e label here c
  act (operation.BrTable labels default) here c = branch_table e labels default here c
  act operation.Return here c = return_now e here c
  act (operation.Call n) here c = call_direct e n here c
  act (operation.CallIndirect n) here c = call_indirect e n here c
  act operation.Drop here c = drop_one here c
  act operation.Select here c = select_one here c
  act (operation.LocalGet n) here c = get_local n here c
  act (operation.LocalSet n) here c = set_local n here c
  act (operation.LocalTee n) here c = tee_local n here c
  act (operation.GlobalGet n) here c = get_global n here c
  act (operation.GlobalSet n) here c = set_global n here c
  act (operation.Load t access align offset) here c = load_number e t access offset here c
  act (operation.Store t log_width align offset) here c = store_number e log_width offset here c
  act operation.MemorySize here c = size_of_memory e here c
  act operation.MemoryGrow here c = grow_memory e here c
  act (operation.Const32 bits) here c = constant bits here c
  act (operation.Const64 bits) here c = constant bits here c
  act (operation.Eqz t) here c = test_zero here c
  act (operation.Compare t operator) here c = apply_compare t operator here c
  act (operation.Unary t operator) here c = apply_unary t operator here c
  act (operation.Binary t operator) here c = apply_binary t operator here c
  act (operation.Convert operator) here c = apply_convert operator here c

  abbrev pub step_at : List WInstr → Config → Turn Event Config
  step_at [] c = leave e c.here.levels c.here c
  step_at (i ∷ rest) c = act (operation_in (out-WInstr i)) (record c.here { rest = rest }) c

  abbrev pub step : Config → Turn Event Config
  step c = step_at c.here.rest c
