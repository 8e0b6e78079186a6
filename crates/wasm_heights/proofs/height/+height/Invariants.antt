use Rattle.std.proofs.Common.{◌≡◌, ◌+◌, ◌*◌, drop, sum_by}
use Rattle.wasm_ast.proofs.Counts.{instruction_count}
use Rattle.wasm_typing.specs.Heights.{met_list, met_of}
use Rattle.wasm_heights.proofs.Lists.{joined}
use Rattle.wasm_heights.proofs.height.+height.Given as goal

abbrev pub decreases-met_one : goal.decreases-met_one
decreases-met_one l = 4 * instruction_count l.x.now

abbrev pub decreases-met_arm : goal.decreases-met_arm
decreases-met_arm l = 4 * sum_by instruction_count l.xs.now + 2

abbrev pub decreases-met_all : goal.decreases-met_all
decreases-met_all l = 4 * sum_by instruction_count l.xs.now + 1

abbrev pub invariant-met_all-loop-x : goal.invariant-met_all-loop-x
invariant-met_all-loop-x l = record {
  left : met_list (met_of l.c) l.xs l.initial.labels l.fn.n ≡ joined l.most (met_list (met_of l.c) (drop l.x-index l.xs) l.initial.labels l.after);
  same : l.labels ≡ l.initial.labels;
}
