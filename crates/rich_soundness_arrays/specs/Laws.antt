-- Rows on arrays at which a step is safe. This project's own.
use Rattle.rw_types.specs.declared.instrs.Instr.{ArrayMalloc, ArrayGet, ArraySet, ArrayLen, ArrayFree}
use Rattle.rw_types.specs.declared.types.Mem.{Mem}
use Rattle.rich_soundness_points.specs.Good.{IsSafeAt}

-- rows that make an array, read and write an element, tell the length, and free an array
pub record ArrayRowsAreSafe : Type 0 where
  pub malloc : (m : Mem) → IsSafeAt (ArrayMalloc m)
  pub get : IsSafeAt ArrayGet
  pub set : IsSafeAt ArraySet
  pub len : IsSafeAt ArrayLen
  pub free : IsSafeAt ArrayFree
