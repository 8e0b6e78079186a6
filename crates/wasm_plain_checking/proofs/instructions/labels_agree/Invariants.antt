use Rattle.std.proofs.Common.{take}
use Rattle.wasm_plain_checking.specs.Answers.{AgreeAs}
use Rattle.wasm_plain_checking.proofs.instructions.labels_agree.Given as goal

abbrev pub invariant-loop-n : goal.invariant-loop-n
invariant-loop-n l = AgreeAs l.labels (take l.n-index l.indices) l.t l.same
