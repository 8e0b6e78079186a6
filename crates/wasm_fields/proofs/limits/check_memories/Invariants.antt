use Rattle.std.proofs.Common.{◌≡◌}
use Rattle.wasm_typing.specs.Modules.{first_fault}
use Rattle.wasm_fields.proofs.Firsts.{left_behind, memory_behind}
use Rattle.wasm_fields.proofs.limits.check_memories.Given as goal

abbrev pub invariant-loop-at : goal.invariant-loop-at
invariant-loop-at l = first_fault (memory_behind l.imported) l.memories ≡ left_behind (memory_behind l.imported) l.memories l.at
