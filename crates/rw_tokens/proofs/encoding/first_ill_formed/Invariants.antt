use Rattle.std.proofs.Common.{◌≡◌, length}
use Rattle.rich_text.specs.Utf8.{ill_formed, ill_formed_from}
use Rattle.rw_tokens.proofs.encoding.first_ill_formed.Given as goal

abbrev pub invariant-whole : goal.invariant-whole
invariant-whole l = ill_formed l.text ≡ ill_formed_from l.more l.cursor.at l.cursor.bytes

abbrev pub decreases-whole : goal.decreases-whole
decreases-whole l = length l.cursor.bytes
