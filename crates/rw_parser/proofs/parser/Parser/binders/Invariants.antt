use Rattle.std.proofs.Common.{length}
use Rattle.rich_text.specs.Forms.{binder_form}
use Rattle.rich_text.specs.Grammars.{a_form}
use Rattle.rw_parser.specs.Reads.{tokens_left}
use Rattle.rw_parser.proofs.Looping.{Going}
use Rattle.rw_parser.proofs.parser.Parser.binders.Given as goal

abbrev pub invariant-loop-binders : goal.invariant-loop-binders
invariant-loop-binders l = Going (a_form binder_form) l.initial.self l.self l.binders

abbrev pub decreases-loop-binders : goal.decreases-loop-binders
decreases-loop-binders l = length (tokens_left l.self)
