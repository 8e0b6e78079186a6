-- The first one that is left is the first one.
use Rattle.std.proofs.Common.{◌≡◌, drop}
use Rattle.rich_types.specs.Scopes.{scope_of}
use Rattle.rich_rules.specs.Blocks.{local_types}
use Rattle.rich_rules.specs.Forms.{first_ill_formed}
use Rattle.rw_block_rows.proofs.signatures.ill_formed_local.Given as goal

abbrev pub invariant-loop-change : goal.invariant-loop-change
invariant-loop-change l = first_ill_formed (scope_of l.c.binders) (local_types (drop l.change-index l.changes)) ≡ first_ill_formed (scope_of l.c.binders) (local_types l.changes)
