use Rattle.std.proofs.Common.{length}
use Rattle.rich_text.specs.Forms.{argument_form}
use Rattle.rich_text.specs.Grammars.{a_form}
use Rattle.rw_parser.proofs.Looping.{Going}
use Rattle.rw_parser.specs.Reads.{tokens_left}
use Rattle.rw_plain_forms.proofs.arguments.read_arguments.Given as goal

abbrev pub invariant-loop-arguments : goal.invariant-loop-arguments
invariant-loop-arguments l = Going (a_form argument_form) l.initial.parser l.parser l.arguments

abbrev pub decreases-loop-arguments : goal.decreases-loop-arguments
decreases-loop-arguments l = length (tokens_left l.parser)
