-- What is still to be changed makes of these locals what all make of those at the beginning.
use Rattle.std.proofs.Common.{◌≡◌, drop}
use Rattle.rich_rules.specs.Blocks.{changed_by}
use Rattle.rw_block_rows.proofs.locals.changed_locals.Given as goal

abbrev pub invariant-loop-change : goal.invariant-loop-change
invariant-loop-change l = changed_by (drop l.change-index l.changes) l.after.items ≡ changed_by l.changes l.locals
