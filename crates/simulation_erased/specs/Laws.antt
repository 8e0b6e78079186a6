-- Instructions that do nothing to words. This project's own.
use Rattle.std.specs.Prelude.{◌≡◌, List, ◌∷◌, ⊤}
use Rattle.wasm_execution.specs.Configurations as w
use Rattle.wasm_execution.specs.Environments.{Environment}
use Rattle.rw_types.specs.declared.instrs.Instr.{Drop, Instr, Nop, Qualify, Unit}
use Rattle.rich_reduction.specs.Configurations as r
use Rattle.rw_program.specs.Programs.{Program}
use Rattle.simulation_relation.specs.Bodies.{Body, IsRunning}
use Rattle.simulation_relation.specs.Words.{Book}
use Rattle.simulation_frames.specs.Steps.{StepsAlike}

-- those of them that stand here
abbrev pub IsErased : Instr → Type 0
IsErased Nop = ⊤
IsErased Drop = ⊤
IsErased Unit = ⊤
IsErased Qualify = ⊤
IsErased _ = ⊥

-- where such an instruction is next, both make one step
abbrev pub ErasedStepsAlike : Type 0
ErasedStepsAlike = (p : Program) (e : Environment) (b : Body) (book : Book) (a : r.Config) (c : w.Config) (i : Instr) (is : List Instr) → IsErased i → IsRunning b book a.here c.here → a.here.rest ≡ i ∷ is → StepsAlike p e b book a c is 1
