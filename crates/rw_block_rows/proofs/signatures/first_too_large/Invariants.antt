-- The first one that is left is the first one.
use Rattle.std.proofs.Common.{◌≡◌, drop}
use Rattle.rich_types.specs.Scopes.{scope_of}
use Rattle.rich_rules.specs.Blocks.{first_too_large}
use Rattle.rw_block_rows.proofs.signatures.first_too_large.Given as goal

abbrev pub invariant-loop-change : goal.invariant-loop-change
invariant-loop-change l = first_too_large (scope_of l.c.binders) l.slots (drop l.change-index l.changes) ≡ first_too_large (scope_of l.c.binders) l.slots l.changes
