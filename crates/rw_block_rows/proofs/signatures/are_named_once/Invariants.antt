-- Those that are left tell of all.
use Rattle.std.proofs.Common.{◌≡◌, drop}
use Rattle.rich_rules.specs.Blocks.{are_named_once}
use Rattle.rw_block_rows.proofs.signatures.are_named_once.Given as goal

abbrev pub invariant-loop-at : goal.invariant-loop-at
invariant-loop-at l = are_named_once l.count (drop l.at l.changes) ≡ are_named_once l.count l.changes
