use Rattle.wasm_operators.specs.declared.Width.TheVariants.{W32, W64}
use Rattle.wasm_num.proofs.Counts.{trailing-at}
use Rattle.wasm_num.proofs.digits.trailing_zeros.Goals as goal

pub returns-in-W32-clause-value : goal.returns-in-W32-clause-value
returns-in-W32-clause-value c = trailing-at _ W32 _ _ c.in-W32.is c.from.ensures

pub returns-in-W64-clause-value : goal.returns-in-W64-clause-value
returns-in-W64-clause-value c = trailing-at _ W64 _ _ c.in-W64.is c.from-in-W64.ensures
