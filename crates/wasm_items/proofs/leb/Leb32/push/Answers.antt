use Rattle.std.proofs.Common.{ap, sym}
use Rattle.wasm_items.specs.LebStates.{rest_of_leb}
use Rattle.wasm_items.proofs.Taking.{takes_of, takes_exit}
use Rattle.wasm_items.proofs.leb.Leb32.push.Goals as goal

pub returns-in_err-number : goal.returns-in_err-number
returns-in_err-number c = takes_of (ap rest_of_leb (sym c.self.view_is)) (takes_exit rest_of_leb _ c.from_residual.ensures.1 c.in_err-number.ensures.pushes)

pub returns-in-More : goal.returns-in-More
returns-in-More c = takes_of (ap rest_of_leb (sym c.self.view_is)) (rw c.in-More.is at c.in_ok-number.ensures.pushes)

pub returns-in-Done : goal.returns-in-Done
returns-in-Done c = takes_of (ap rest_of_leb (sym c.self.view_is)) (rw c.in-Done.is at c.in_ok-number.ensures.pushes)
