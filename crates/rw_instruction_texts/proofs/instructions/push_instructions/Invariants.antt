-- What was written, and what is still to be written, are the whole.
use Rattle.std.proofs.Common.{◌≡◌, ◌++◌, drop}
use Rattle.std.specs.Prelude.{map}
use Rattle.rich_writing.specs.Pieces.{spaced}
use Rattle.rich_writing.specs.Instructions.{instruction_text}
use Rattle.rw_instruction_texts.proofs.instructions.push_instructions.Given as goal

abbrev pub invariant-loop-instruction : goal.invariant-loop-instruction
invariant-loop-instruction l = l.out.items ++ spaced (map instruction_text (drop l.instruction-index l.instructions)) ≡ l.fn.out.items ++ spaced (map instruction_text l.instructions)
