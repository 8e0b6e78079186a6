-- The instruction that prints. This project's own.
use Rattle.std.specs.Prelude.{◌≡◌, ℕ, List, [], ◌∷◌, None, Some}
use Rattle.machine_steps.specs.Simulations.{Comes}
use Rattle.machine_steps.specs.Steps.{NoStep, Went}
use Rattle.wasm_ast.specs.declared.types.ValTy.TheVariants.{I64}
use Rattle.wasm_execution.specs.Configurations as w
use Rattle.wasm_execution.specs.Environments.{Environment, function_at}
use Rattle.wasm_execution.specs.Types.{takes_and_gives}
use Rattle.wasm_execution.specs.Steps as wasm_steps
use Rattle.rw_types.specs.declared.instrs.Instr.{Instr, Print}
use Rattle.rich_reduction.specs.Configurations as r
use Rattle.rich_reduction.specs.Steps as rich_steps
use Rattle.rw_program.specs.Programs.{Program}
use Rattle.simulation_relation.specs.Bodies.{Body, IsRunning}
use Rattle.simulation_relation.specs.Words.{Book}

-- a step of the program that prints a number and leaves this of the list is answered by so many of the lowered module, which print
-- the same number; they change nothing but the call that runs, which stays a call of the same function, and the body runs on
pub record PrintsAlike (p : Program) (e : Environment) (b : Body) (book : Book) (a : r.Config) (c : w.Config) (rest : List Instr) (steps : ℕ) : Type 0 where
  pub number : ℕ
  pub here : r.Here
  pub target : w.Here
  pub source_step : rich_steps.step p.funcs a ≡ Went (r.Print number ∷ []) (record a { here = here })
  pub target_steps : Comes (wasm_steps.step e) steps c (w.Print number ∷ []) (record c { here = target })
  pub left : here.rest ≡ rest
  pub results : here.results ≡ a.here.results
  pub function : target.function ≡ c.here.function
  pub argument : target.argument ≡ c.here.argument
  pub running : IsRunning b book here target

-- where function 0 is the host's print and `print` is next, a step of the program is answered by two
abbrev pub PrintsStepAlike : Type 0
PrintsStepAlike = (p : Program) (e : Environment) (b : Body) (book : Book) (a : r.Config) (c : w.Config) (is : List Instr) → function_at e 0 ≡ Some (record { ty = takes_and_gives (I64 ∷ []) None; code = None }) →
    IsRunning b book a.here c.here → a.here.rest ≡ Print ∷ is → (rich_steps.step p.funcs a ≡ NoStep → ⊥) → PrintsAlike p e b book a c is 2
