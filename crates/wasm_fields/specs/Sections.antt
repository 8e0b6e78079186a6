-- The first fault of each section that stands before the code section (WebAssembly Core Specification 1.0, sections 3.4 and 5.5).
use Rattle.std.specs.Prelude.{◌+◌, List, [], ◌∷◌, Option, length}
use Rattle.wasm_ast.specs.declared.modules.WModule.{WModule}
use Rattle.wasm_typing.specs.Contexts.{context_of, imported_globals, imported_memories, imported_tables}
use Rattle.wasm_typing.specs.Fields.{element_rule, export_rule, function_rule, global_rule, import_rule, memory_rule, start_rule, table_rule}
use Rattle.wasm_typing.specs.Modules.{Fault, first_alone, first_fault, start_entries}
use Rattle.wasm_fields.specs.declared.section.Section.{Section}
use Rattle.wasm_fields.specs.declared.section.Section.TheVariants.{Imports, Functions, Tables, Memories, Globals, Exports, Start, Elements}

abbrev pub section_fault : WModule → Section → Option Fault
section_fault m Imports = first_fault (import_rule m.types) m.imports
section_fault m Functions = first_alone (function_rule (context_of m)) m.funcs
section_fault m Tables = first_fault (λ before l. table_rule (imported_tables m.imports + length before) l) m.tables
section_fault m Memories = first_fault (λ before l. memory_rule (imported_memories m.imports + length before) l) m.memories
section_fault m Globals = first_alone (global_rule (imported_globals m.imports)) m.globals
section_fault m Exports = first_fault (export_rule (context_of m)) m.exports
section_fault m Start = first_alone (start_rule (context_of m)) (start_entries m.start)
section_fault m Elements = first_alone (element_rule (context_of m)) m.elements

-- in the order of sections
abbrev pub all_sections : List Section
all_sections = Imports ∷ Functions ∷ Tables ∷ Memories ∷ Globals ∷ Exports ∷ Start ∷ Elements ∷ []
