-- Runs of sound programs, where a step is safe at each instruction. This project's own.
use Rattle.std.specs.Prelude.{◌≡◌, ℕ}
use Rattle.rw_types.specs.declared.instrs.Instr.{Instr}
use Rattle.rw_program.specs.Programs.{Program}
use Rattle.machine_steps.specs.Steps.{Going, reached}
use Rattle.machine_steps.specs.Ending.{NeverStuck}
use Rattle.rich_reduction.specs.Configurations.{Config}
use Rattle.rich_reduction.specs.Starts.{first, rich}
use Rattle.rich_reduction.specs.Steps.{step}
use Rattle.rich_reduction_calls.specs.Calls.{IsOnOwn, IsOnOwnAfter}
use Rattle.rich_rights.specs.Rights.{IsKept}
use Rattle.rich_soundness_points.specs.Programs.{IsSound}
use Rattle.rich_soundness_points.specs.Good.{Good, Fine, IsSafeAt}

-- a step is safe at each instruction
abbrev pub RowsAreSafe : Type 0
RowsAreSafe = (i : Instr) → IsSafeAt i

-- then from each good configuration of a sound program, whose own list lies beneath all calls, there is a step to another such, or
-- to an end where the rights are kept
abbrev pub StepsStayGood : Type 0
StepsStayGood = RowsAreSafe → (p : Program) (c : Config) → IsSound p → Good p c → IsOnOwn c → Fine p (step p.funcs c) × IsOnOwnAfter (step p.funcs c)

-- no run of a program is stuck; in each configuration that it reaches each linear location where a cell is has one right of each
-- kind, and every other none; and while the run goes on, its values, cells and calls have their types
pub record RunsSafely (p : Program) : Type 0 where
  pub stuck : NeverStuck (rich p)
  pub kept : (n : ℕ) → IsKept (reached (step p.funcs) n (first p)).at
  pub good : (n : ℕ) → (reached (step p.funcs) n (first p)).stand ≡ Going → Good p (reached (step p.funcs) n (first p)).at

-- so it is with each sound program
abbrev pub RunsAreSafe : Type 0
RunsAreSafe = RowsAreSafe → (p : Program) → IsSound p → RunsSafely p
