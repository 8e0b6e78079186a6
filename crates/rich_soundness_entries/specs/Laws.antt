-- The row that enters a hidden location, at which a step is safe. This project's own.
use Rattle.rw_types.specs.declared.instrs.BlockSig.{BlockSig}
use Rattle.rw_types.specs.declared.instrs.Instr.{MemUnpack'}
use Rattle.rich_soundness_points.specs.Good.{IsSafeAt}

-- a list beneath a location, which begins with the value that hides it
abbrev pub LocationRowsAreSafe : Type 0
LocationRowsAreSafe = (sig : BlockSig) (m : _) (body : _) → IsSafeAt (MemUnpack' sig m body)
