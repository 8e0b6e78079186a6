-- The first one that is left is the deepest one.
use Rattle.std.proofs.Common.{◌≡◌, drop, reverse}
use Rattle.rich_types.specs.Scopes.{scope_of}
use Rattle.rich_rules.specs.Raised.{raise_all}
use Rattle.rich_rules.specs.Takers.{first_held, last_held}
use Rattle.rw_operand_stack.specs.Operands.{types_of}
use Rattle.rw_scopes.proofs.held.first_held.Given as goal

abbrev pub invariant-loop-operand : goal.invariant-loop-operand
invariant-loop-operand l = first_held (scope_of l.c.binders) (raise_all l.by (types_of (drop l.operand-index l.operands))) ≡ last_held (scope_of l.c.binders) (raise_all l.by (types_of (reverse l.operands)))
