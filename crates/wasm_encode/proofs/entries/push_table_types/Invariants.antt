use Rattle.std.proofs.Common.{◌≡◌, ◌++◌, take, length}
use Rattle.std.specs.List.{flat_map}
use Rattle.wasm_leb.specs.Leb.{unsigned_least}
use Rattle.wasm_grammar.specs.CanonicalTypes.{table_type_bytes}
use Rattle.wasm_encode.proofs.entries.push_table_types.Given as goal

abbrev pub invariant-loop-table : goal.invariant-loop-table
invariant-loop-table l = l.out.items ≡ l.fn.out.items ++ (unsigned_least 5 (length l.tables) ++ flat_map table_type_bytes (take l.table-index l.tables))
