use Rattle.wasm_num.proofs.Rows.{arithmetic_rows, count_rows, digit_rows, test_rows}
use Rattle.wasm_num.proofs.laws.numbers_compute.Goals as goal

pub returns-clause-arithmetic : goal.returns-clause-arithmetic
returns-clause-arithmetic c = arithmetic_rows

pub returns-clause-digits : goal.returns-clause-digits
returns-clause-digits c = digit_rows

pub returns-clause-counts : goal.returns-clause-counts
returns-clause-counts c = count_rows

pub returns-clause-tests : goal.returns-clause-tests
returns-clause-tests c = test_rows
