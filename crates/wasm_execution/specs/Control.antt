-- What control instructions do (WebAssembly Core Specification 1.0, sections 4.4.5 and 4.4.6).
use Rattle.std.specs.Prelude.{ℕ, zero, suc, List, [], ◌∷◌, ◌++◌, Option, Some, None, slice_get}
use Rattle.wasm_ast.specs.declared.instructions.WInstr.{WInstr}
use Rattle.wasm_ast.specs.declared.types.ValTy.{ValTy}
use Rattle.machine_steps.specs.declared.End.TheVariants.{Trap}
use Rattle.machine_steps.specs.declared.Trap as machine
use Rattle.machine_steps.specs.declared.Trap.TheVariants.{Exhausted, Index, Unreachable}
use Rattle.machine_steps.specs.Steps.{Turn, Ended, NoStep, with_top}
use Rattle.wasm_execution.specs.Types.{results_of}
use Rattle.wasm_execution.specs.Configurations.{Aim, Past, Back, Level, Here, Store, Config, Event, Stopped}
use Rattle.wasm_execution.specs.Environments.{Environment}
use Rattle.wasm_execution.specs.Turns.{goes_on, leaves}
use Rattle.machine_steps.specs.Steps.{with_one, with_all}
use Rattle.wasm_execution.specs.Calls.{return_now, return_at_end}

-- why `unreachable` was reached, by the number in the global that tells it; this project's own
abbrev pub reason : ℕ → machine.Trap
reason (suc zero) = Exhausted
reason (suc (suc zero)) = Index
reason _ = Unreachable

abbrev pub told_reason : Option ℕ → machine.Trap
told_reason None = Unreachable
told_reason (Some n) = reason n

abbrev pub reason_in : Environment → Store → machine.Trap
reason_in e store = elim e.trap_code [ None ↦ Unreachable | Some n ↦ told_reason (slice_get store.globals n) ]

-- a list is entered, a branch to which leads there and takes so many operands (4.4.6.1)
abbrev pub enter : Aim → ℕ → Option ValTy → List WInstr → Here → Config → Turn Event Config
enter aim takes result body here c = goes_on (record here {
  operands = [];
  rest = body;
  levels = record { aim = aim; takes = takes; gives = results_of result; beneath = here.operands; rest = here.rest } ∷ here.levels;
}) c

-- block (4.4.5.3)
abbrev pub enter_block : Option ValTy → List WInstr → Here → Config → Turn Event Config
enter_block result body here c = enter Past (results_of result) result body here c

-- loop (4.4.5.4)
abbrev pub enter_loop : Option ValTy → List WInstr → Here → Config → Turn Event Config
enter_loop result body here c = enter (Back body) 0 result body here c

-- if without `else`: an arm that is not entered is passed over (4.4.5.5)
abbrev pub enter_if : Option ValTy → List WInstr → Here → Config → Turn Event Config
enter_if result arm here c = with_one here.operands (λ n beneath. elim n [
  | zero ↦ leaves beneath here c
  | suc _ ↦ enter_block result arm (record here { operands = beneath }) c
])

-- if with both arms (4.4.5.5)
abbrev pub enter_either : Option ValTy → List WInstr → List WInstr → Here → Config → Turn Event Config
enter_either result first second here c = with_one here.operands (λ n beneath. elim n [
  | zero ↦ enter_block result second (record here { operands = beneath }) c
  | suc _ ↦ enter_block result first (record here { operands = beneath }) c
])

-- these operands are taken past the end of a list, or to its start, where it stays open (4.4.5.6)
abbrev pub arrive : Aim → List ℕ → Level → List Level → Here → Config → Turn Event Config
arrive Past vs l levels here c = goes_on (record here { operands = vs ++ l.beneath; rest = l.rest; levels = levels }) c
arrive (Back body) vs l levels here c = goes_on (record here { operands = vs; rest = body; levels = l ∷ levels }) c

module _ (e : Environment) where
  -- unreachable (4.4.5.2)
  abbrev pub stop : Config → Turn Event Config
  stop c = let why = reason_in e c.store in Ended (Stopped why ∷ []) (Trap why) c

  -- a branch to the open list of this number, the innermost being 0, or to the function's body, which is a return (4.4.5.6)
  abbrev pub branch : ℕ → List Level → Here → Config → Turn Event Config
  branch zero [] here c = return_now e here c
  branch (suc n) [] here c = NoStep
  branch zero (l ∷ levels) here c = with_top l.takes here.operands (λ vs beneath. arrive l.aim vs l levels here c)
  branch (suc n) (l ∷ levels) here c = branch n levels here c

  -- br (4.4.5.6)
  abbrev pub branch_to : ℕ → Here → Config → Turn Event Config
  branch_to n here c = branch n here.levels here c

  -- br_if (4.4.5.7)
  abbrev pub branch_if : ℕ → Here → Config → Turn Event Config
  branch_if label here c = with_one here.operands (λ n beneath. elim n [
    | zero ↦ leaves beneath here c
    | suc _ ↦ branch_to label (record here { operands = beneath }) c
  ])

  -- br_table (4.4.5.8)
  abbrev pub branch_table : List ℕ → ℕ → Here → Config → Turn Event Config
  branch_table labels default here c = with_one here.operands (λ n beneath. elim (slice_get labels n) [
    | Some label ↦ branch_to label (record here { operands = beneath }) c
    | None ↦ branch_to default (record here { operands = beneath }) c
  ])

  -- the end of a list: of an open one, which leaves its results and no more, or of a function's body (4.4.6.2, 4.4.7.2)
  abbrev pub leave : List Level → Here → Config → Turn Event Config
  leave [] here c = return_at_end e here c
  leave (l ∷ levels) here c = with_all l.gives here.operands (λ vs. goes_on (record here { operands = vs ++ l.beneath; rest = l.rest; levels = levels }) c)
