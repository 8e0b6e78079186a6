-- Rows that call functions at which a step is safe. This project's own.
use Rattle.std.specs.Prelude.{ℕ, List}
use Rattle.rw_types.specs.declared.instrs.Instr.{Call, CallIndirect, Inst}
use Rattle.rw_types.specs.declared.types.Arg.{Arg}
use Rattle.rich_soundness_points.specs.Good.{IsSafeAt}

-- rows that call a function and the one on top of the operands, and one that answers the binders of a function
pub record CallRowsAreSafe : Type 0 where
  pub call : (n : ℕ) (args : List Arg) → IsSafeAt (Call n args)
  pub call_indirect : IsSafeAt CallIndirect
  pub inst : (args : List Arg) → IsSafeAt (Inst args)
