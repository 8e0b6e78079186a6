-- Rows on globals at which a step is safe. This project's own.
use Rattle.std.specs.Prelude.{ℕ}
use Rattle.rw_types.specs.declared.instrs.Instr.{GlobalGet, GlobalSet}
use Rattle.rich_soundness_points.specs.Good.{IsSafeAt}

-- rows that get and set a global
pub record GlobalRowsAreSafe : Type 0 where
  pub get : (n : ℕ) → IsSafeAt (GlobalGet n)
  pub set : (n : ℕ) → IsSafeAt (GlobalSet n)
