use Rattle.std.proofs.Common.{◌≡◌, ◌++◌, ◌+◌, ◌*◌, take, sum_by}
use Rattle.std.specs.List.{flat_map}
use Rattle.wasm_ast.specs.ImmediateViews.{immediate_seen}
use Rattle.wasm_ast.proofs.Counts.{instruction_count, immediate_count}
use Rattle.wasm_grammar.specs.CanonicalInstructions.{instruction_bytes}
use Rattle.wasm_encode.proofs.instructions.+instructions.Given as goal

abbrev pub decreases-push_instruction : goal.decreases-push_instruction
decreases-push_instruction l = 4 * instruction_count l.instruction.now

abbrev pub decreases-push_immediate : goal.decreases-push_immediate
decreases-push_immediate l = 4 * immediate_count instruction_count (immediate_seen l.immediate) + 3

abbrev pub decreases-push_arm : goal.decreases-push_arm
decreases-push_arm l = 4 * sum_by instruction_count l.body.now + 2

abbrev pub decreases-push_expression : goal.decreases-push_expression
decreases-push_expression l = 4 * sum_by instruction_count l.body.now + 2

abbrev pub decreases-push_instructions : goal.decreases-push_instructions
decreases-push_instructions l = 4 * sum_by instruction_count l.body.now + 1

abbrev pub invariant-push_instructions-loop-instruction :
    goal.invariant-push_instructions-loop-instruction
invariant-push_instructions-loop-instruction l = l.out.items ≡ l.fn.out.items ++ flat_map instruction_bytes (take l.instruction-index l.body)
