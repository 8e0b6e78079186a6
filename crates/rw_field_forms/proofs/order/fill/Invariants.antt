use Rattle.std.proofs.Common.{length}
use Rattle.rw_parser.specs.Reads.{tokens_left}
use Rattle.rw_field_forms.proofs.Filling.{Filling}
use Rattle.rw_field_forms.proofs.order.fill.Given as goal

abbrev pub invariant-loop-kind : goal.invariant-loop-kind
invariant-loop-kind l = Filling l.initial.parser l.parser l.last l.parsed

abbrev pub decreases-loop-kind : goal.decreases-loop-kind
decreases-loop-kind l = length (tokens_left l.parser)
