use Rattle.std.proofs.Common.{◌≡◌, ◌∙◌, ◌-◌, ℕ, List, length, take, sym, ap, arith}
use Rattle.wasm_ast.specs.declared.types.FuncType.{FuncType}
use Rattle.wasm_typing.specs.declared.context.Context.{Context}
use Rattle.wasm_typing.specs.declared.context.GlobalType.{GlobalType}
use Rattle.wasm_typing.specs.Fields.{element_rule, export_rule, function_rule, global_rule, import_rule, start_rule}
use Rattle.wasm_typing.specs.Modules.{first_alone, first_fault, start_entries}
use Rattle.wasm_fields.specs.Sections.{section_fault}
use Rattle.wasm_fields.proofs.Firsts.{table_behind, memory_behind}
use Rattle.wasm_fields.proofs.SectionFaults.{tells_as, imports_tables, imports_memories, imports_globals, globals_length}
use Rattle.wasm_fields.proofs.sections.check_section.Goals as goal

pub returns-in-Imports : goal.returns-in-Imports
returns-in-Imports c =
    tells_as c.check_imports.result (ap (section_fault c.args.m.now) c.in-Imports.is
    ∙ ap (λ (ts : List FuncType). first_fault (import_rule ts) c.args.m.now.imports) (sym c.as_slice.ensures.items)
    ∙ ap (first_fault (import_rule c.as_slice.result.now)) (sym c.as_slice-in-Imports.ensures.items)) c.check_imports.ensures

pub returns-in-Functions : goal.returns-in-Functions
returns-in-Functions c =
    tells_as c.check_functions.result (ap (section_fault c.args.m.now) c.in-Functions.is
    ∙ ap (λ (C : Context). first_alone (function_rule C) c.args.m.now.funcs) (sym c.requires)
    ∙ ap (first_alone (function_rule c.args.c.now)) (sym c.as_slice-in-Functions.ensures.items)) c.check_functions.ensures

pub returns-in-Tables : goal.returns-in-Tables
returns-in-Tables c =
    tells_as c.check_tables.result (ap (section_fault c.args.m.now) c.in-Tables.is
    ∙ ap (λ (n : ℕ). first_fault (table_behind n) c.args.m.now.tables) (imports_tables c.args.c.now c.args.m.now _ c.requires (ap length c.as_slice-tables.ensures.items))
    ∙ ap (first_fault (table_behind (c.args.c.now.tables - length c.as_slice-tables.result.now))) (sym c.as_slice-tables.ensures.items)) c.check_tables.ensures

pub returns-in-Memories : goal.returns-in-Memories
returns-in-Memories c =
    tells_as c.check_memories.result (ap (section_fault c.args.m.now) c.in-Memories.is
    ∙ ap (λ (n : ℕ). first_fault (memory_behind n) c.args.m.now.memories) (imports_memories c.args.c.now c.args.m.now _ c.requires (ap length c.as_slice-memories.ensures.items))
    ∙ ap (first_fault (memory_behind (c.args.c.now.memories - length c.as_slice-memories.result.now))) (sym c.as_slice-memories.ensures.items)) c.check_memories.ensures

pub returns-in-Globals : goal.returns-in-Globals
returns-in-Globals c =
    let count : c.len.result - c.len-in-Globals.result ≡ length c.args.c.now.globals - length c.args.m.now.globals = omega (arith, c.len.ensures.count, c.len-in-Globals.ensures.count) in
    tells_as c.check_globals.result (ap (section_fault c.args.m.now) c.in-Globals.is
    ∙ ap (λ (gs : List GlobalType). first_alone (global_rule gs) c.args.m.now.globals) (imports_globals c.args.c.now c.args.m.now c.as_slice-in-Globals.result.now (c.len.result - c.len-in-Globals.result) c.requires c.as_slice-in-Globals.ensures.items count)
    ∙ ap (first_alone (global_rule (take (c.len.result - c.len-in-Globals.result) c.as_slice-in-Globals.result.now))) (sym c.as_slice-in-Globals-2.ensures.items)) c.check_globals.ensures

pub returns-in-Exports : goal.returns-in-Exports
returns-in-Exports c =
    tells_as c.check_exports.result (ap (section_fault c.args.m.now) c.in-Exports.is
    ∙ ap (λ (C : Context). first_fault (export_rule C) c.args.m.now.exports) (sym c.requires)
    ∙ ap (first_fault (export_rule c.args.c.now)) (sym c.as_slice-in-Exports.ensures.items)) c.check_exports.ensures

pub returns-in-Start : goal.returns-in-Start
returns-in-Start c =
    tells_as c.check_start.result (ap (section_fault c.args.m.now) c.in-Start.is
    ∙ ap (λ (C : Context). first_alone (start_rule C) (start_entries c.args.m.now.start)) (sym c.requires)) c.check_start.ensures

pub returns-in-Elements : goal.returns-in-Elements
returns-in-Elements c =
    tells_as c.check_elements.result (ap (section_fault c.args.m.now) c.in-Elements.is
    ∙ ap (λ (C : Context). first_alone (element_rule C) c.args.m.now.elements) (sym c.requires)
    ∙ ap (first_alone (element_rule c.args.c.now)) (sym c.as_slice-in-Elements.ensures.items)) c.check_elements.ensures

pub overflow_sub-imported : goal.overflow_sub-imported
overflow_sub-imported c = omega (arith, globals_length c.args.c.now c.args.m.now c.requires, c.len.ensures.count, c.len-in-Globals.ensures.count)
