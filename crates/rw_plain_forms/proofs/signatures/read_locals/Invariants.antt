use Rattle.std.proofs.Common.{length}
use Rattle.rich_text.specs.Forms.{local_form}
use Rattle.rich_text.specs.Grammars.{a_form}
use Rattle.rw_parser.proofs.Looping.{Going}
use Rattle.rw_parser.specs.Reads.{tokens_left}
use Rattle.rw_plain_forms.proofs.signatures.read_locals.Given as goal

abbrev pub invariant-loop-locals : goal.invariant-loop-locals
invariant-loop-locals l = Going (a_form local_form) l.initial.parser l.parser l.locals

abbrev pub decreases-loop-locals : goal.decreases-loop-locals
decreases-loop-locals l = length (tokens_left l.parser)
