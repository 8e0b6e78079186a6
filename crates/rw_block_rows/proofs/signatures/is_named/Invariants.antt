-- Those that are left tell of all.
use Rattle.std.proofs.Common.{◌≡◌, drop}
use Rattle.rich_rules.specs.Blocks.{is_named}
use Rattle.rw_block_rows.proofs.signatures.is_named.Given as goal

abbrev pub invariant-loop-change : goal.invariant-loop-change
invariant-loop-change l = is_named l.n (drop l.change-index l.changes) ≡ is_named l.n l.changes
