-- How many operands plain instructions give. This project's own.
use Rattle.std.specs.Prelude.{ℕ}
use Rattle.rw_types.specs.declared.instrs.Instr.{Instr, I64Const, Num}
use Rattle.rw_types.specs.declared.numbers.NumName.TheVariants.{I64Add}

-- how many operands a plain instruction gives
abbrev pub gives : Instr → ℕ
gives (I64Const n) = 1
gives (Num I64Add) = 1
gives _ = 0
