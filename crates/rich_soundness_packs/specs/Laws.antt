-- Rows on recursive types and hidden locations at which a step is safe. This project's own.
use Rattle.std.specs.Prelude.{ℕ}
use Rattle.rw_types.specs.declared.instrs.Instr.{RecFold, RecUnfold, MemPack}
use Rattle.rw_types.specs.declared.types.Ty.{Ty}
use Rattle.rich_soundness_points.specs.Good.{IsSafeAt}

-- rows that fold and unfold a value, and that hide a location
pub record PackRowsAreSafe : Type 0 where
  pub fold : (t : Ty) → IsSafeAt (RecFold t)
  pub unfold_one : IsSafeAt RecUnfold
  pub pack : (l : ℕ) (t : Ty) → IsSafeAt (MemPack l t)
