-- How a linked program begins to run. This project's own.
use Rattle.std.specs.Prelude.{ℕ, suc, List, [], ◌∷◌, map}
use Rattle.rw_types.specs.declared.instrs.Instr.{Instr, Block, GlobalSet, Call}
use Rattle.rw_program.specs.declared.linked.LinkedGlobal.{LinkedGlobal}
use Rattle.rw_program.specs.Programs.{Program}
use Rattle.machine_steps.specs.Steps.{reached}
use Rattle.machine_steps.specs.Agreement.{Seen, seen}
use Rattle.rich_reduction.specs.Configurations.{Empty, Config, prints}
use Rattle.rich_reduction.specs.Steps.{step}

-- the block that gives a global its first value
abbrev pub initialiser : LinkedGlobal → Instr
initialiser g = Block (record { params = []; results = g.ty ∷ []; locals = [] }) g.body

-- the program's own list: from the global with this number on each is given its first value, and then the main function is
-- called
abbrev pub own_list : ℕ → List LinkedGlobal → ℕ → List Instr
own_list n [] main = Call main [] ∷ []
own_list n (g ∷ gs) main = initialiser g ∷ GlobalSet n ∷ own_list (suc n) gs main

-- the program's own list is a call like others, which gives one number; each global is unit until it is set
abbrev pub first : Program → Config
first p = record {
  here = record { results = 1; sizes = []; locals = []; operands = []; rest = own_list 0 p.globals p.main; levels = [] };
  callers = [];
  globals = map (λ g. Empty) p.globals;
  stores = record { linear = []; unrestricted = [] };
}

-- what is seen of a program after so many steps
abbrev pub rich : Program → ℕ → Seen
rich p n = seen prints (reached (step p.funcs) n (first p))
