use Rattle.std.proofs.Common.{length}
use Rattle.rich_text.specs.Lexing.{InBlank}
use Rattle.rw_tokens.specs.Found.{Skips}
use Rattle.rw_tokens.proofs.cursor.Cursor.skip.Given as goal

abbrev pub invariant-loop-self : goal.invariant-loop-self
invariant-loop-self l = Skips InBlank l.initial.self InBlank l.self

abbrev pub decreases-loop-self : goal.decreases-loop-self
decreases-loop-self l = length l.self.bytes
