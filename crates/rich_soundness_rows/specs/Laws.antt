-- Rows of the table at which a step is safe: there is one, and it keeps what is good. This project's own.
use Rattle.std.specs.Prelude.{ℕ}
use Rattle.rw_types.specs.declared.instrs.Instr.{Nop, Unreachable, Drop, Unit, Print, I32Const, I64Const, Qualify, Num, LocalGet, LocalTake, LocalSet, RefSplit, RefJoin, CapSplit, CapJoin}
use Rattle.rw_types.specs.declared.numbers.NumName.{NumName}
use Rattle.rich_soundness_points.specs.Good.{IsSafeAt}

-- rows that look at operands alone
pub record OperandRowsAreSafe : Type 0 where
  pub nop : IsSafeAt Nop
  pub unreachable : IsSafeAt Unreachable
  pub drop : IsSafeAt Drop
  pub unit : IsSafeAt Unit
  pub print : IsSafeAt Print
  pub i32_const : (n : ℕ) → IsSafeAt (I32Const n)
  pub i64_const : (n : ℕ) → IsSafeAt (I64Const n)
  pub qualify : IsSafeAt Qualify

-- rows of numbers, each of which adds its operator's answer or traps
abbrev pub NumberRowsAreSafe : Type 0
NumberRowsAreSafe = (n : NumName) → IsSafeAt (Num n)

-- rows on locals
pub record LocalRowsAreSafe : Type 0 where
  pub get : (n : ℕ) → IsSafeAt (LocalGet n)
  pub take : (n : ℕ) → IsSafeAt (LocalTake n)
  pub set : (n : ℕ) → IsSafeAt (LocalSet n)

-- rows that take references and capabilities apart and put them together
pub record RightRowsAreSafe : Type 0 where
  pub ref_split : IsSafeAt RefSplit
  pub ref_join : IsSafeAt RefJoin
  pub cap_split : IsSafeAt CapSplit
  pub cap_join : IsSafeAt CapJoin
