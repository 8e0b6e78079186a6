-- Rows on tuples and functions at which a step is safe. This project's own.
use Rattle.std.specs.Prelude.{ℕ}
use Rattle.rw_types.specs.declared.instrs.Instr.{Group, Ungroup, Coderef}
use Rattle.rw_types.specs.declared.types.Qual.{Qual}
use Rattle.rich_soundness_points.specs.Good.{IsSafeAt}

-- rows that make a tuple, take one apart, and name a function
pub record TupleRowsAreSafe : Type 0 where
  pub group : (n : ℕ) (q : Qual) → IsSafeAt (Group n q)
  pub ungroup : IsSafeAt Ungroup
  pub coderef : (n : ℕ) → IsSafeAt (Coderef n)
