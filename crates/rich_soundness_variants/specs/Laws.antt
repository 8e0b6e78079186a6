-- Rows on variants at which a step is safe. This project's own.
use Rattle.std.specs.Prelude.{ℕ, List}
use Rattle.rw_types.specs.declared.instrs.BlockSig.{BlockSig}
use Rattle.rw_types.specs.declared.instrs.Instr.{VariantMalloc, VariantCase'}
use Rattle.rw_types.specs.declared.types.Mem.{Mem}
use Rattle.rw_types.specs.declared.types.Ty.{Ty}
use Rattle.rich_soundness_points.specs.Good.{IsSafeAt}

-- rows that make a variant, and enter the list of its case
pub record VariantRowsAreSafe : Type 0 where
  pub malloc : (m : Mem) (n : ℕ) (cases : List Ty) → IsSafeAt (VariantMalloc m n cases)
  pub enters : (sig : BlockSig) (m : _) (arms : _) → IsSafeAt (VariantCase' sig m arms)
