use Rattle.std.proofs.Common.{◌∙◌, ap, false}
use Rattle.wasm_items.specs.LebStates.{rest_of_leb}
use Rattle.wasm_items.proofs.LebSteps.{whole_number}
use Rattle.wasm_items.proofs.leb.Leb32.unsigned.Goals as goal

pub returns : goal.returns
returns c = ap rest_of_leb c.new.ensures ∙ whole_number 32 false
