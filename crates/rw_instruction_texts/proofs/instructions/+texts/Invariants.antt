-- What was written, and what is still to be written, are the whole.
use Rattle.std.proofs.Common.{◌≡◌, ◌+◌, ◌*◌, ◌++◌, drop}
use Rattle.std.specs.Prelude.{map}
use Rattle.rich_writing.specs.Pieces.{spaced}
use Rattle.rich_writing.specs.Instructions.{arm_text, instruction_text}
use Rattle.rw_instruction_texts.proofs.instructions.+texts.Given as goal

abbrev pub invariant-push_arms-loop-index : goal.invariant-push_arms-loop-index
invariant-push_arms-loop-index l = l.out.items ++ spaced (map arm_text (drop l.index l.arms)) ≡ l.fn.out.items ++ spaced (map arm_text l.arms)

abbrev pub invariant-push_from-loop-index : goal.invariant-push_from-loop-index
invariant-push_from-loop-index l = l.out.items ++ spaced (map instruction_text (drop l.index l.instructions)) ≡ l.fn.out.items ++ spaced (map instruction_text (drop l.from l.instructions))

abbrev pub decreases-push_instruction : goal.decreases-push_instruction
decreases-push_instruction l = 5 * goal.size-push_instruction l + 0

abbrev pub decreases-push_from : goal.decreases-push_from
decreases-push_from l = 5 * goal.size-push_from l + 1

abbrev pub decreases-push_arm : goal.decreases-push_arm
decreases-push_arm l = 5 * goal.size-push_arm l + 2

abbrev pub decreases-push_arms : goal.decreases-push_arms
decreases-push_arms l = 5 * goal.size-push_arms l + 3

abbrev pub decreases-push_case : goal.decreases-push_case
decreases-push_case l = 5 * goal.size-push_case l + 4

abbrev pub decreases-push_headed : goal.decreases-push_headed
decreases-push_headed l = 5 * goal.size-push_headed l + 2

abbrev pub decreases-push_then : goal.decreases-push_then
decreases-push_then l = 5 * goal.size-push_then l + 3

abbrev pub decreases-push_else : goal.decreases-push_else
decreases-push_else l = 5 * goal.size-push_else l + 3

abbrev pub decreases-push_block : goal.decreases-push_block
decreases-push_block l = 5 * goal.size-push_block l + 2
