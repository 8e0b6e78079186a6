use Rattle.wasm_items.specs.WantsBytes.{wants_leb}
use Rattle.wasm_items.specs.BoundedStates.{wants_bounded}
use Rattle.wasm_items.specs.LimitsStates.{wants_limits}
use Rattle.wasm_items.specs.ImmediateStates.{wants_immediates}
use Rattle.wasm_items.proofs.laws.each_state_wants_a_byte.Goals as goal

pub returns-clause-numbers : goal.returns-clause-numbers
returns-clause-numbers c = wants_leb

pub returns-clause-bounded : goal.returns-clause-bounded
returns-clause-bounded c = wants_bounded

pub returns-clause-limits : goal.returns-clause-limits
returns-clause-limits c = wants_limits

pub returns-clause-immediates : goal.returns-clause-immediates
returns-clause-immediates c = wants_immediates
