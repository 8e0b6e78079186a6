use Rattle.std.proofs.Common.{take}
use Rattle.rw_types.specs.LoneMain.{ArePlain}
use Rattle.rw_check.proofs.lone.are_plain.Given as goal

abbrev pub invariant-loop-instr : goal.invariant-loop-instr
invariant-loop-instr l = ArePlain (take l.instr-index l.body)
