-- How the rows speak of programs and of what they come to (this project's own rows).
use Rattle.std.specs.Prelude.{ℕ, ◌-◌, List, [], ◌∷◌}
use Rattle.rw_types.specs.declared.instrs.BlockSig.{BlockSig}
use Rattle.rw_types.specs.declared.instrs.Instr.{Instr}
use Rattle.rw_types.specs.declared.types.Ty.{Ty}
use Rattle.rw_types.specs.LoneMain.{main_type}
use Rattle.rw_program.specs.declared.linked.LinkedFunc.{LinkedFunc}
use Rattle.rw_program.specs.Programs.{Program}
use Rattle.machine_steps.specs.declared.End.TheVariants.{Trap}
use Rattle.machine_steps.specs.declared.Trap as machine
use Rattle.machine_steps.specs.Steps.{Going, Over, reached}
use Rattle.rich_reduction.specs.Configurations.{Config, Event, Location}
use Rattle.rich_reduction.specs.Starts.{first}
use Rattle.rich_reduction.specs.Steps.{step}
use Rattle.rich_reduction.specs.Rows.{IsSeen}
use Rattle.rw_types.specs.declared.types.Mem.TheVariants.{L, U}

-- a main function with locals of these sizes and this body
abbrev pub main_func : List ℕ → List Instr → LinkedFunc
main_func locals body = record { file = 0; ty = main_type; locals = locals; body = body; notes = [] }

-- the program of that function alone
abbrev pub main_with : List ℕ → List Instr → Program
main_with locals body = record { funcs = main_func locals body ∷ []; globals = []; main = 0 }

-- the program of this function and of a main function, which calls it by 0
abbrev pub calling : LinkedFunc → List ℕ → List Instr → Program
calling f locals body = record { funcs = f ∷ main_func locals body ∷ []; globals = []; main = 1 }

-- a signature that takes and gives these, and leaves all locals as they are
abbrev pub links : List Ty → List Ty → BlockSig
links params results = record { params = params; results = results; locals = [] }

abbrev pub quiet : BlockSig
quiet = links [] []

-- the places of both stores
abbrev pub linear : ℕ → Location
linear n = record { mem = L; number = n }

abbrev pub unrestricted : ℕ → Location
unrestricted n = record { mem = U; number = n }

-- the configuration that a program reaches after so many steps, and what it said on the way
abbrev pub config_after : Program → ℕ → Config
config_after p n = (reached (step p.funcs) n (first p)).at

abbrev pub said_by : Program → ℕ → List Event
said_by p n = (reached (step p.funcs) n (first p)).said

-- a program that takes so many steps, and no fewer, and ends in this trap
pub record TrapsAfter (p : Program) (n : ℕ) (printed : List ℕ) (t : machine.Trap) : Type 0 where
  pub before : IsSeen p (n - 1) printed Going
  pub after : IsSeen p n printed (Over (Trap t))
