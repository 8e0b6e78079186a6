-- The row that enters a block, at which a step is safe. This project's own.
use Rattle.rw_types.specs.declared.instrs.BlockSig.{BlockSig}
use Rattle.rw_types.specs.declared.instrs.Instr.{Block'}
use Rattle.rich_soundness_points.specs.Good.{IsSafeAt}

-- in a body, and in the program's own list
abbrev pub BlockRowIsSafe : Type 0
BlockRowIsSafe = (sig : BlockSig) (m : _) (body : _) → IsSafeAt (Block' sig m body)
