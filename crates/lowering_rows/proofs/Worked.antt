-- The written rows, computed.
use Rattle.std.proofs.Common.{refl}
use Rattle.lowering_rows.specs.Worked.{WorkedRows}

pub worked : WorkedRows
worked = record {
  innermost = refl;
  of_case = refl;
  outermost = refl;
  height = refl;
  upwards = refl;
  load = refl;
  store = refl;
  quotient = refl;
  test = refl;
  extension = refl;
}
