-- The loop has copied the parts as far as it has come.
use Rattle.std.proofs.Common.{◌≡◌, map, take}
use Rattle.rw_values.specs.Values.{value_of}
use Rattle.rw_values.proofs.value.+copies.Given as goal

abbrev pub invariant-copy_parts-loop-part : goal.invariant-copy_parts-loop-part
invariant-copy_parts-loop-part l = map value_of l.copied.items ≡ map value_of (take l.part-index l.parts)
