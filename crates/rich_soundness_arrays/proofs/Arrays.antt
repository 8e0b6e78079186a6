-- Rows on arrays.
use Rattle.std.proofs.Common.{refl}
use Rattle.rw_types.specs.declared.instrs.Instr.{ArrayMalloc, ArrayGet, ArraySet, ArrayLen, ArrayFree}
use Rattle.rich_soundness_frames.proofs.Acts.{safe}
use Rattle.rich_soundness_arrays.specs.Laws.{ArrayRowsAreSafe}
use Rattle.rich_soundness_arrays.proofs.Making.{malloc_acts}
use Rattle.rich_soundness_arrays.proofs.Reading.{get_acts, len_acts, free_acts}
use Rattle.rich_soundness_arrays.proofs.Writing.{set_acts}

pub array_rows : ArrayRowsAreSafe
array_rows = record {
  malloc = λ m. safe (ArrayMalloc m) refl (malloc_acts m);
  get = safe ArrayGet refl get_acts;
  set = safe ArraySet refl set_acts;
  len = safe ArrayLen refl len_acts;
  free = safe ArrayFree refl free_acts;
}
