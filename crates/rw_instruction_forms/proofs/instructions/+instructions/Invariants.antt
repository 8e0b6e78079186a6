use Rattle.std.proofs.Common.{◌+◌, ◌*◌, length}
use Rattle.rich_text.specs.Forms.{arm_form, instruction_form}
use Rattle.rich_text.specs.Grammars.{a_form}
use Rattle.rw_parser.proofs.Looping.{Going}
use Rattle.rw_parser.specs.Reads.{tokens_left}
use Rattle.rw_instruction_forms.proofs.instructions.+instructions.Given as goal

abbrev pub decreases-read_instructions : goal.decreases-read_instructions
decreases-read_instructions l = 2 * length (tokens_left l.parser.now) + 1

abbrev pub decreases-read_instruction : goal.decreases-read_instruction
decreases-read_instruction l = 2 * length (tokens_left l.parser.now)

abbrev pub decreases-read_block_instruction : goal.decreases-read_block_instruction
decreases-read_block_instruction l = 2 * length (tokens_left l.parser.now) + 1

abbrev pub decreases-read_block : goal.decreases-read_block
decreases-read_block l = 2 * length (tokens_left l.parser.now)

abbrev pub decreases-read_if : goal.decreases-read_if
decreases-read_if l = 2 * length (tokens_left l.parser.now)

abbrev pub decreases-read_branches : goal.decreases-read_branches
decreases-read_branches l = 2 * length (tokens_left l.parser.now) + 1

abbrev pub decreases-read_then : goal.decreases-read_then
decreases-read_then l = 2 * length (tokens_left l.parser.now)

abbrev pub decreases-read_else : goal.decreases-read_else
decreases-read_else l = 2 * length (tokens_left l.parser.now)

abbrev pub decreases-read_case : goal.decreases-read_case
decreases-read_case l = 2 * length (tokens_left l.parser.now)

abbrev pub decreases-read_arms : goal.decreases-read_arms
decreases-read_arms l = 2 * length (tokens_left l.parser.now) + 1

abbrev pub decreases-read_arm : goal.decreases-read_arm
decreases-read_arm l = 2 * length (tokens_left l.parser.now)

abbrev pub invariant-read_instructions-loop-instructions : goal.invariant-read_instructions-loop-instructions
invariant-read_instructions-loop-instructions l = Going (a_form instruction_form) l.initial.parser l.parser l.instructions

abbrev pub decreases-read_instructions-loop-instructions : goal.decreases-read_instructions-loop-instructions
decreases-read_instructions-loop-instructions l = length (tokens_left l.parser)

abbrev pub invariant-read_arms-loop-arms : goal.invariant-read_arms-loop-arms
invariant-read_arms-loop-arms l = Going (a_form arm_form) l.initial.parser l.parser l.arms

abbrev pub decreases-read_arms-loop-arms : goal.decreases-read_arms-loop-arms
decreases-read_arms-loop-arms l = length (tokens_left l.parser)
