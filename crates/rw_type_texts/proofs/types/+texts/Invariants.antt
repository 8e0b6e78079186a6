-- What was written, and what is still to be written, are the whole.
use Rattle.std.proofs.Common.{◌≡◌, ◌++◌, drop}
use Rattle.std.specs.Prelude.{codes, map}
use Rattle.rich_writing.specs.Pieces.{spaced}
use Rattle.rich_writing.specs.Types.{slot_text, type_text}
use Rattle.rw_type_texts.proofs.types.+texts.Given as goal

abbrev pub invariant-push_struct-loop-slot : goal.invariant-push_struct-loop-slot
invariant-push_struct-loop-slot l = l.out.items ++ spaced (map slot_text (drop l.slot-index l.slots)) ≡ l.fn.out.items ++ (codes "(struct" ++ spaced (map slot_text l.slots))

abbrev pub invariant-push_spaced_types-loop-index : goal.invariant-push_spaced_types-loop-index
invariant-push_spaced_types-loop-index l = l.out.items ++ spaced (map type_text (drop l.index l.types)) ≡ l.fn.out.items ++ spaced (map type_text (drop l.from l.types))
