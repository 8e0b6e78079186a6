use Rattle.std.proofs.Common.{length}
use Rattle.rich_text.specs.Numbers.{Index}
use Rattle.rich_text.specs.Grammars.{a_number}
use Rattle.rw_parser.specs.Reads.{tokens_left}
use Rattle.rw_parser.proofs.Looping.{Going}
use Rattle.rw_field_forms.proofs.fields.read_sizes.Given as goal

abbrev pub invariant-loop-sizes : goal.invariant-loop-sizes
invariant-loop-sizes l = Going (a_number Index) l.initial.parser l.parser l.sizes

abbrev pub decreases-loop-sizes : goal.decreases-loop-sizes
decreases-loop-sizes l = length (tokens_left l.parser)
