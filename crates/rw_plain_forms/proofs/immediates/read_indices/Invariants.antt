use Rattle.std.proofs.Common.{length}
use Rattle.rich_text.specs.Grammars.{index}
use Rattle.rw_parser.proofs.Looping.{Going}
use Rattle.rw_parser.specs.Reads.{tokens_left}
use Rattle.rw_plain_forms.proofs.immediates.read_indices.Given as goal

abbrev pub invariant-loop-indices : goal.invariant-loop-indices
invariant-loop-indices l = Going index l.initial.parser l.parser l.indices

abbrev pub decreases-loop-indices : goal.decreases-loop-indices
decreases-loop-indices l = length (tokens_left l.parser)
