use Rattle.std.proofs.Common.{◌∙◌}
use Rattle.wasm_functions.proofs.Same.{all_same}
use Rattle.wasm_functions.proofs.types.are_same_value_types.Goals as goal

pub returns : goal.returns
returns c = c.eq.ensures ∙ all_same c.args.ts.now c.args.us.now
