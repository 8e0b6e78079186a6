-- Rows on structs.
use Rattle.std.proofs.Common.{refl}
use Rattle.rw_types.specs.declared.instrs.Instr.{StructMalloc, StructFree, StructGet, StructSet, StructSwap}
use Rattle.rich_soundness_frames.proofs.Acts.{safe}
use Rattle.rich_soundness_structs.specs.Laws.{StructRowsAreSafe}
use Rattle.rich_soundness_structs.proofs.Making.{malloc_acts}
use Rattle.rich_soundness_structs.proofs.Reading.{get_acts, free_acts}
use Rattle.rich_soundness_structs.proofs.Writing.{set_acts, swap_acts}

pub struct_rows : StructRowsAreSafe
struct_rows = record {
  malloc = λ m sizes. safe (StructMalloc m sizes) refl (malloc_acts m sizes);
  free = safe StructFree refl free_acts;
  get = λ n. safe (StructGet n) refl (get_acts n);
  set = λ n. safe (StructSet n) refl (set_acts n);
  swap = λ n. safe (StructSwap n) refl (swap_acts n);
}
