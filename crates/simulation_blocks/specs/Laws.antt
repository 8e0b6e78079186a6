-- Lists that are entered within a body. This project's own.
use Rattle.std.specs.Prelude.{◌≡◌, List, ◌∷◌}
use Rattle.wasm_execution.specs.Configurations as w
use Rattle.wasm_execution.specs.Environments.{Environment}
use Rattle.rw_types.specs.declared.instrs.BlockSig.{BlockSig}
use Rattle.rw_types.specs.declared.instrs.Instr.{Block', Loop', Instr, items-the_row-Instr}
use Rattle.rich_reduction.specs.Configurations as r
use Rattle.rw_program.specs.Programs.{Program}
use Rattle.simulation_relation.specs.Bodies.{Body, IsRunning}
use Rattle.simulation_relation.specs.Words.{Book}
use Rattle.simulation_frames.specs.Steps.{StepsAlike}

-- where `block` is next, both enter its list by one step
abbrev pub BlocksStepAlike : Type 0
BlocksStepAlike = (p : Program) (e : Environment) (b : Body) (book : Book) (a : r.Config) (c : w.Config) (sig : BlockSig) (n : _) (list : _) (is : List Instr) → IsRunning b book a.here c.here → a.here.rest ≡ Block' sig n list ∷ is →
    StepsAlike p e b book a c (items-the_row-Instr _ list) 1

-- where `loop` is next, both enter its list by one step
abbrev pub LoopsStepAlike : Type 0
LoopsStepAlike = (p : Program) (e : Environment) (b : Body) (book : Book) (a : r.Config) (c : w.Config) (sig : BlockSig) (n : _) (list : _) (is : List Instr) → IsRunning b book a.here c.here → a.here.rest ≡ Loop' sig n list ∷ is →
    StepsAlike p e b book a c (items-the_row-Instr _ list) 1
