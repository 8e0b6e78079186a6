use Rattle.std.proofs.Common.{◌≡◌, ◌+◌, ◌*◌, take, sum_by}
use Rattle.std.specs.List.{flat_map}
use Rattle.wasm_ast.proofs.Counts.{instruction_count}
use Rattle.wasm_typing.specs.Tokens.{tokens_of}
use Rattle.wasm_checking.specs.Judging.{TypesTo}
use Rattle.wasm_operands.specs.Taking.{seen_of}
use Rattle.wasm_checking.proofs.body.+body.Given as goal

abbrev pub decreases-check_one : goal.decreases-check_one
decreases-check_one l = 4 * instruction_count l.x.now

abbrev pub decreases-check_block : goal.decreases-check_block
decreases-check_block l = 4 * sum_by instruction_count l.xs.now + 3

abbrev pub decreases-check_loop : goal.decreases-check_loop
decreases-check_loop l = 4 * sum_by instruction_count l.xs.now + 3

abbrev pub decreases-check_if : goal.decreases-check_if
decreases-check_if l = 4 * sum_by instruction_count l.xs.now + 3

abbrev pub decreases-check_if_else : goal.decreases-check_if_else
decreases-check_if_else l = 4 * (sum_by instruction_count l.xs.now + sum_by instruction_count l.ys.now) + 3

abbrev pub decreases-check_arm : goal.decreases-check_arm
decreases-check_arm l = 4 * sum_by instruction_count l.xs.now + 2

abbrev pub decreases-check_list : goal.decreases-check_list
decreases-check_list l = 4 * sum_by instruction_count l.xs.now + 1

abbrev pub invariant-check_list-loop-x : goal.invariant-check_list-loop-x
invariant-check_list-loop-x l = record {
  gone : TypesTo l.c l.initial.labels (flat_map tokens_of (take l.x-index l.xs)) (seen_of l.initial.top) l.initial.at (seen_of l.top) l.at;
  same : l.labels ≡ l.initial.labels;
}
