use Rattle.std.proofs.Common.{length, ◌≤◌}
use Rattle.rich_text.specs.Lexing.{InComment}
use Rattle.rw_tokens.specs.Found.{Skips}
use Rattle.rw_tokens.proofs.cursor.Cursor.end_line.Given as goal

abbrev pub invariant-loop-byte : goal.invariant-loop-byte
invariant-loop-byte l = Skips InComment l.initial.self InComment l.self × (length l.self.bytes ≤ length l.initial.self.bytes)

abbrev pub decreases-loop-byte : goal.decreases-loop-byte
decreases-loop-byte l = length l.self.bytes
