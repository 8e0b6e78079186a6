-- So many were given.
use Rattle.std.proofs.Common.{◌≡◌, ◌++◌, take, reverse}
use Rattle.rich_types.specs.Scopes.{scope_of}
use Rattle.rw_operand_stack.specs.Operands.{types_of, AreOperands}
use Rattle.rw_demands.proofs.stacks.give_all.Given as goal

abbrev pub invariant-loop-t : goal.invariant-loop-t
invariant-loop-t l = record {
  operands : types_of l.s.operands ≡ reverse (take l.t-index l.types) ++ types_of l.initial.s.operands;
  spare : l.s.spare ≡ l.initial.s.spare;
  marked : AreOperands (scope_of l.c.binders) l.initial.s.operands → AreOperands (scope_of l.c.binders) l.s.operands;
}
