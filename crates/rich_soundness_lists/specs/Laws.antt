-- Rows that enter lists at which a step is safe. This project's own.
use Rattle.rw_types.specs.declared.instrs.BlockSig.{BlockSig}
use Rattle.rw_types.specs.declared.instrs.Instr.{Loop', If'}
use Rattle.rich_soundness_points.specs.Good.{IsSafeAt}

-- rows that enter a loop, and one of two lists
pub record ListRowsAreSafe : Type 0 where
  pub loops : (sig : BlockSig) (m : _) (body : _) → IsSafeAt (Loop' sig m body)
  pub arms : (sig : BlockSig) (m : _) (one : _) (k : _) (other : _) → IsSafeAt (If' sig m one k other)
