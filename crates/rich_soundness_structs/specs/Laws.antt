-- Rows on structs at which a step is safe. This project's own.
use Rattle.std.specs.Prelude.{ℕ, List}
use Rattle.rw_types.specs.declared.instrs.Instr.{StructMalloc, StructFree, StructGet, StructSet, StructSwap}
use Rattle.rw_types.specs.declared.types.Mem.{Mem}
use Rattle.rich_soundness_points.specs.Good.{IsSafeAt}

-- rows that make a struct, free one, read, write and swap a slot
pub record StructRowsAreSafe : Type 0 where
  pub malloc : (m : Mem) (sizes : List ℕ) → IsSafeAt (StructMalloc m sizes)
  pub free : IsSafeAt StructFree
  pub get : (n : ℕ) → IsSafeAt (StructGet n)
  pub set : (n : ℕ) → IsSafeAt (StructSet n)
  pub swap : (n : ℕ) → IsSafeAt (StructSwap n)
