use Rattle.std.proofs.Common.{◌≡◌, ◌∙◌, List, map, ap, sym}
use Rattle.std.specs.Prelude.{None}
use Rattle.wasm_ast.specs.declared.modules.Import.{Import}
use Rattle.wasm_execution.specs.Imports.{is_print}
use Rattle.wasm_execution.specs.Starts.{first_failing, first_globals}
use Rattle.wasm_starts.proofs.Whole.{elements_in, segments_in, memory_is, table_is, starts_with}
use Rattle.wasm_starts.proofs.starts.start.Goals as goal

pub first_memory-requires : goal.first_memory-requires
first_memory-requires c =
    let m = c.module-m.result.now in
    let globals = c.in_ok-globals.ensures ∙ ap first_globals c.as_slice-2.ensures.items in
    segments_in m c.deref-2.result.now c.as_slice-3.result.now c.as_slice-4.result.now (c.deref-2.ensures.value ∙ globals) c.as_slice-3.ensures.items c.as_slice-4.ensures.items (sym c.in_default-first_out.ensures)

pub first_table-requires : goal.first_table-requires
first_table-requires c =
    let m = c.module-m.result.now in
    let globals = c.in_ok-globals.ensures ∙ ap first_globals c.as_slice-2.ensures.items in
    elements_in m c.deref-3.result.now c.as_slice-5.result.now c.as_slice-6.result.now (c.deref-3.ensures.value ∙ globals) c.as_slice-5.ensures.items c.as_slice-6.ensures.items (sym c.in_default-first_out.ensures)

pub returns-clause-starts : goal.returns-clause-starts
returns-clause-starts c =
    let m = c.module-m.result.now in
    let globals = c.in_ok-globals.ensures ∙ ap first_globals c.as_slice-2.ensures.items in
    let prints : first_failing 0 (map (is_print m.types) m.imports) ≡ None = ap (λ (l : List Import). first_failing 0 (map (is_print m.types) l)) (sym c.as_slice.ensures.items) ∙ sym c.in_default.ensures in
    starts_with m c.args.valid.now c.in-Some-find_main.main
    (record { memory = c.in_ok-memory.memory; table = c.in_ok-table.table; globals = c.in_ok-globals.globals; first = c.first_call.result; next_call = c.next_call.result })
    c.module-m.ensures.value c.module-m.ensures.valid c.module-m.ensures.profile prints (sym c.in_default-first_out.ensures) c.in-Some-find_main.ensures
    (c.in_ok-memory.ensures ∙ memory_is m c.deref-2.result.now c.as_slice-3.result.now c.as_slice-4.result.now (c.deref-2.ensures.value ∙ globals) c.as_slice-3.ensures.items c.as_slice-4.ensures.items)
    (c.in_ok-table.ensures ∙ table_is m c.deref-3.result.now c.as_slice-5.result.now c.as_slice-6.result.now (c.deref-3.ensures.value ∙ globals) c.as_slice-5.ensures.items c.as_slice-6.ensures.items)
    globals c.first_call.ensures c.next_call.ensures
