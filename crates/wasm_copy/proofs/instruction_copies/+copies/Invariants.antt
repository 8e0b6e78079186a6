-- Measures by the count of instructions; the loop has copied the list as far as it has come.
use Rattle.std.proofs.Common.{◌≡◌, ◌+◌, ◌*◌, ◌++◌, take, sum_by}
use Rattle.wasm_ast.proofs.Counts.{instruction_count}
use Rattle.wasm_copy.proofs.instruction_copies.+copies.Given as goal

abbrev pub decreases-copy_instruction : goal.decreases-copy_instruction
decreases-copy_instruction l = 3 * instruction_count l.instruction.now

abbrev pub decreases-copy_instructions : goal.decreases-copy_instructions
decreases-copy_instructions l = 3 * sum_by instruction_count l.instructions.now + 2

abbrev pub decreases-push_copies : goal.decreases-push_copies
decreases-push_copies l = 3 * sum_by instruction_count l.instructions.now + 1

abbrev pub invariant-push_copies-loop-instruction : goal.invariant-push_copies-loop-instruction
invariant-push_copies-loop-instruction l = l.copied ≡ l.initial.copied ++ take l.instruction-index l.instructions
