-- Rows that leave lists at which a step is safe. This project's own.
use Rattle.std.specs.Prelude.{ℕ}
use Rattle.rw_types.specs.declared.instrs.Instr.{Br, BrIf, Return}
use Rattle.rich_soundness_points.specs.Good.{IsSafeAt}

-- rows that branch out of lists, to the end of a block or to the start of a loop, and those that return from a function
pub record BranchRowsAreSafe : Type 0 where
  pub br : (k : ℕ) → IsSafeAt (Br k)
  pub br_if : (k : ℕ) → IsSafeAt (BrIf k)
  pub returns : IsSafeAt Return
