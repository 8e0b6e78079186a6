-- Instructions that give one known word. This project's own.
use Rattle.std.specs.Prelude.{◌≡◌, List, ◌∷◌, ⊤}
use Rattle.wasm_execution.specs.Configurations as w
use Rattle.wasm_execution.specs.Environments.{Environment}
use Rattle.rw_types.specs.declared.instrs.Instr.{Coderef, I32Const, I64Const, Instr}
use Rattle.rich_reduction.specs.Configurations as r
use Rattle.rw_program.specs.Programs.{Program}
use Rattle.lowering_names.specs.Placed.{StandsIn}
use Rattle.simulation_relation.specs.Bodies.{Body, IsRunning}
use Rattle.simulation_relation.specs.Words.{Book}
use Rattle.simulation_frames.specs.Steps.{StepsAlike}

abbrev pub IsConstant : Instr → Type 0
IsConstant (I32Const n) = ⊤
IsConstant (I64Const n) = ⊤
IsConstant (Coderef n) = ⊤
IsConstant _ = ⊥

-- where such an instruction is next in a body that stands in its frame, one step is answered by two
abbrev pub ConstantsStepAlike : Type 0
ConstantsStepAlike = (p : Program) (e : Environment) (b : Body) (book : Book) (a : r.Config) (c : w.Config) (i : Instr) (is : List Instr) → IsConstant i → StandsIn b.around b.frame b.room → IsRunning b book a.here c.here →
    a.here.rest ≡ i ∷ is → StepsAlike p e b book a c is 2
