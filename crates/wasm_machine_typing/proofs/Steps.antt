-- Each step of a typed configuration leads to a typed one or to an end, and so do any number of steps.
use Rattle.std.proofs.Common.{◌≡◌, ◌≢◌, ℕ, zero, suc, List, [], ◌∷◌, refl}
use Rattle.wasm_ast.specs.declared.instructions.WInstr.{WInstr, out-WInstr}
use Rattle.wasm_ast.specs.Operations.{Operation, operation_in}
use Rattle.wasm_ast.specs.Operations as op
use Rattle.wasm_typing.specs.declared.context.Context.{Context}
use Rattle.machine_steps.specs.Steps.{Turn, Went, Ended, NoStep, Stuck, reached, reached_by}
use Rattle.wasm_execution.specs.Configurations.{Config, Event}
use Rattle.wasm_execution.specs.Environments.{Environment}
use Rattle.wasm_execution.specs.Steps.{act, step, step_at}
use Rattle.wasm_machine_typing.specs.Configurations.{IsTypedEnvironment, IsTypedConfig, IsTypedTurn}
use Rattle.wasm_machine_typing.specs.Laws.{EachStepGoesOn, TypedNeverStuck, StaysTyped, CallsAreTyped}
use Rattle.wasm_machine_typing.proofs.Plain.{plain_acts}
use Rattle.wasm_machine_typing.proofs.Calls.{calls_direct, calls_indirect, entered_typed}
use Rattle.wasm_machine_typing.proofs.Control.{end_reached, block_entered, loop_entered, arm_entered, either_entered, branches, branches_if, branches_by_table, returns}

module _ (C : Context) (e : Environment) (env : IsTypedEnvironment C e) where
  module _ (c : Config) (h : IsTypedConfig C e c) where
    acts : (i : WInstr) (rest : List WInstr) → c.here.rest ≡ i ∷ rest → (o : Operation WInstr) → operation_in (out-WInstr i) ≡ o → IsTypedTurn C e (act e o (record c.here { rest = rest }) c)
    acts i rest er op.Unreachable q = h
    acts i rest er (op.Block t xs) q = block_entered C e env c h i rest er t xs q
    acts i rest er (op.Loop t xs) q = loop_entered C e env c h i rest er t xs q
    acts i rest er (op.If t xs) q = arm_entered C e env c h i rest er t xs q
    acts i rest er (op.IfElse t xs ys) q = either_entered C e env c h i rest er t xs ys q
    acts i rest er (op.Br n) q = branches C e env c h i rest er n q
    acts i rest er (op.BrIf n) q = branches_if C e env c h i rest er n q
    acts i rest er (op.BrTable labels default) q = branches_by_table C e env c h i rest er labels default q
    acts i rest er op.Return q = returns C e env c h i rest er q
    acts i rest er (op.Call n) q = calls_direct C e env c h i rest er n q
    acts i rest er (op.CallIndirect n) q = calls_indirect C e env c h i rest er n q
    acts i rest er o q = plain_acts C e env c h i rest er o q tt

    at : (r : List WInstr) → c.here.rest ≡ r → IsTypedTurn C e (step_at e r c)
    at [] er = end_reached C e env c h er
    at (i ∷ rest) er = acts i rest er (operation_in (out-WInstr i)) refl

    pub goes : IsTypedTurn C e (step e c)
    goes = at c.here.rest refl

  by_turn : (n : ℕ) (c : Config) (t : Turn Event Config) → ((d : Config) → IsTypedConfig C e d → (reached (step e) n d).stand ≢ Stuck) → IsTypedTurn C e t → (reached_by t c (reached (step e) n)).stand ≢ Stuck
  by_turn n c (Went es d) on h q = on d h q
  by_turn n c (Ended es end d) on h q = absurd (cc)
  by_turn n c NoStep on h q = absurd h

  pub runs_on : (n : ℕ) (c : Config) → IsTypedConfig C e c → (reached (step e) n c).stand ≢ Stuck
  runs_on zero c h q = absurd (cc)
  runs_on (suc n) c h q = by_turn n c (step e c) (runs_on n) (goes c h) q

  at_turn : (n : ℕ) (c : Config) (t : Turn Event Config) → ((d : Config) → IsTypedConfig C e d → IsTypedConfig C e (reached (step e) n d).at) → IsTypedTurn C e t → IsTypedConfig C e (reached_by t c (reached (step e) n)).at
  at_turn n c (Went es d) on h = on d h
  at_turn n c (Ended es end d) on h = h
  at_turn n c NoStep on h = absurd h

  pub stays : (n : ℕ) (c : Config) → IsTypedConfig C e c → IsTypedConfig C e (reached (step e) n c).at
  stays zero c h = h
  stays (suc n) c h = at_turn n c (step e c) (stays n) (goes c h)

pub each_step_goes_on : EachStepGoesOn
each_step_goes_on C e c env h = goes C e env c h

pub never_stuck : TypedNeverStuck
never_stuck C e c env h n q = runs_on C e env n c h q

pub stays_typed : StaysTyped
stays_typed C e c env h n = stays C e env n c h

pub calls_are_typed : CallsAreTyped
calls_are_typed C e env n ty code operands callers bottom s there values waiting store = entered_typed C e env n ty code operands callers bottom s there values waiting store
