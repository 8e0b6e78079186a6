-- Measures by the count of instructions; the loop has compared the lists as far as it has come.
use Rattle.std.proofs.Common.{◌≡◌, ◌+◌, ◌*◌, take, length, sum_by}
use Rattle.wasm_ast.specs.ImmediateViews.{immediate_seen}
use Rattle.wasm_ast.proofs.Counts.{instruction_count, immediate_count}
use Rattle.wasm_copy.proofs.instruction_comparison.+comparison.Given as goal

abbrev pub decreases-same_instruction : goal.decreases-same_instruction
decreases-same_instruction l = 4 * instruction_count l.a.now

abbrev pub decreases-same_immediate : goal.decreases-same_immediate
decreases-same_immediate l = 4 * immediate_count instruction_count (immediate_seen l.a) + 3

abbrev pub decreases-is_body : goal.decreases-is_body
decreases-is_body l = 4 * sum_by instruction_count l.body.now + 2

abbrev pub decreases-is_bodies : goal.decreases-is_bodies
decreases-is_bodies l = 4 * (sum_by instruction_count l.first.now + sum_by instruction_count l.second.now) + 2

abbrev pub decreases-same_instructions : goal.decreases-same_instructions
decreases-same_instructions l = 4 * sum_by instruction_count l.a.now + 1

abbrev pub invariant-same_instructions-loop-x : goal.invariant-same_instructions-loop-x
invariant-same_instructions-loop-x l = take (length l.yielded) l.a ≡ take (length l.yielded) l.b
