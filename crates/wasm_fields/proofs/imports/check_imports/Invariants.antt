use Rattle.std.proofs.Common.{◌≡◌, ◌≤◌, take}
use Rattle.wasm_typing.specs.Contexts.{imported_tables, imported_memories}
use Rattle.wasm_typing.specs.Fields.{import_rule}
use Rattle.wasm_typing.specs.Modules.{first_fault}
use Rattle.wasm_fields.proofs.Firsts.{left_behind}
use Rattle.wasm_fields.proofs.imports.check_imports.Given as goal

abbrev pub invariant-loop-at : goal.invariant-loop-at
invariant-loop-at l = record {
  told : first_fault (import_rule l.types) l.imports ≡ left_behind (import_rule l.types) l.imports l.at;
  tables : l.tables ≡ imported_tables (take l.at l.imports);
  memories : l.memories ≡ imported_memories (take l.at l.imports);
  few_tables : l.tables ≤ l.at;
  few_memories : l.memories ≤ l.at;
}
