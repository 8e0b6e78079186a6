-- What a number instruction has to find. This project's own.
use Rattle.std.specs.Prelude.{List}
use Rattle.wasm_num.specs.Operators.{width_from}
use Rattle.rich_operators.specs.Operators.{Operator, Eqz, Compare, Unary, Binary, Convert}
use Rattle.rich_reduction.specs.Configurations.{Val}
use Rattle.rw_plain_steps.specs.Operands.{HasInteger, HasIntegers}

-- integers of the widths that its operator takes
abbrev pub FindsNumbers : Operator → List Val → Type 0
FindsNumbers (Eqz w) operands = HasInteger w operands
FindsNumbers (Compare operator w) operands = HasIntegers w operands
FindsNumbers (Unary operator w) operands = HasInteger w operands
FindsNumbers (Binary operator w) operands = HasIntegers w operands
FindsNumbers (Convert operator) operands = HasInteger (width_from operator) operands
