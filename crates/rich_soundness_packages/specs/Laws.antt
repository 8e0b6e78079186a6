-- Rows on existential packages at which a step is safe. This project's own.
use Rattle.std.specs.Prelude.{ℕ}
use Rattle.rw_types.specs.declared.instrs.BlockSig.{BlockSig}
use Rattle.rw_types.specs.declared.instrs.Instr.{ExistPack, ExistUnpack'}
use Rattle.rw_types.specs.declared.types.Mem.{Mem}
use Rattle.rw_types.specs.declared.types.Qual.{Qual}
use Rattle.rw_types.specs.declared.types.Ty.{Ty}
use Rattle.rich_soundness_points.specs.Good.{IsSafeAt}

-- rows that make a package, and enter a list with its value, beneath a type variable
pub record PackageRowsAreSafe : Type 0 where
  pub pack : (m : Mem) (q : Qual) (size : ℕ) (t body : Ty) → IsSafeAt (ExistPack m q size t body)
  pub unpack : (sig : BlockSig) (m : _) (body : _) → IsSafeAt (ExistUnpack' sig m body)
