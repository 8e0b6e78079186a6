use Rattle.std.proofs.Common.{◌∙◌}
use Rattle.wasm_operators.specs.declared.Width.TheVariants.{W32, W64}
use Rattle.wasm_num.proofs.Rotations.{right-at}
use Rattle.wasm_num.proofs.digits.rotated_right.Goals as goal

pub returns-in-W32-clause-value : goal.returns-in-W32-clause-value
returns-in-W32-clause-value c = right-at _ W32 _ _ _ _ c.in-W32.is c.requires c.distance-by.ensures.value c.distance-by.ensures.below (c.from.ensures ∙ c.rotate_right.ensures)

pub returns-in-W64-clause-value : goal.returns-in-W64-clause-value
returns-in-W64-clause-value c = right-at _ W64 _ _ _ _ c.in-W64.is c.requires c.distance-by.ensures.value c.distance-by.ensures.below c.rotate_right-in-W64.ensures
