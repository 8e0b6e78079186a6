use Rattle.std.proofs.Common.{◌≡◌}
use Rattle.wasm_typing.specs.Modules.{first_fault}
use Rattle.wasm_fields.proofs.Firsts.{left_behind, table_behind}
use Rattle.wasm_fields.proofs.limits.check_tables.Given as goal

abbrev pub invariant-loop-at : goal.invariant-loop-at
invariant-loop-at l = first_fault (table_behind l.imported) l.tables ≡ left_behind (table_behind l.imported) l.tables l.at
