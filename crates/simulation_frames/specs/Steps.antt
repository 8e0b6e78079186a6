-- Steps that a body and its code make together. This project's own.
use Rattle.std.specs.Prelude.{◌≡◌, ℕ, List, []}
use Rattle.machine_steps.specs.Simulations.{Comes}
use Rattle.machine_steps.specs.Steps.{Went}
use Rattle.wasm_execution.specs.Configurations as w
use Rattle.wasm_execution.specs.Environments.{Environment}
use Rattle.wasm_execution.specs.Steps as wasm_steps
use Rattle.rw_types.specs.declared.instrs.Instr.{Instr}
use Rattle.rich_reduction.specs.Configurations as r
use Rattle.rich_reduction.specs.Steps as rich_steps
use Rattle.rw_program.specs.Programs.{Program}
use Rattle.simulation_relation.specs.Bodies.{Body, IsRunning}
use Rattle.simulation_relation.specs.Words.{Book}

-- a step of the program, which leaves this of the list, is answered by so many of the lowered module: they say nothing and change
-- nothing but the call that runs, which stays a call of the same function, and the body runs on
pub record StepsAlike (p : Program) (e : Environment) (b : Body) (book : Book) (a : r.Config) (c : w.Config) (rest : List Instr) (steps : ℕ) : Type 0 where
  pub here : r.Here
  pub target : w.Here
  pub source_step : rich_steps.step p.funcs a ≡ Went [] (record a { here = here })
  pub target_steps : Comes (wasm_steps.step e) steps c [] (record c { here = target })
  pub left : here.rest ≡ rest
  pub results : here.results ≡ a.here.results
  pub function : target.function ≡ c.here.function
  pub argument : target.argument ≡ c.here.argument
  pub running : IsRunning b book here target
