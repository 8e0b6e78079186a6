-- The rows, computed.
use Rattle.std.proofs.Common.{refl}
use Rattle.wasm_num.specs.Rows.{ArithmeticRows, CountRows, DigitRows, TestRows}

pub arithmetic_rows : ArithmeticRows
arithmetic_rows = (refl, refl, refl, refl, refl, refl, refl, refl, refl, refl, refl, refl, refl, refl)

pub digit_rows : DigitRows
digit_rows = (refl, refl, refl, refl, refl, refl, refl, refl, refl, refl)

pub count_rows : CountRows
count_rows = (refl, refl, refl, refl, refl, refl, refl)

pub test_rows : TestRows
test_rows = (refl, refl, refl, refl, refl, refl, refl, refl, refl, refl, refl, refl, refl)
