use Rattle.std.proofs.Common.{length, ap, arith}
use Rattle.wasm_execution.specs.Starts.{first_entries}
use Rattle.wasm_starts.proofs.Putting.{element_fits}
use Rattle.wasm_starts.proofs.stores.first_table.Goals as goal

pub put_functions-requires : goal.put_functions-requires
put_functions-requires c =
    let fits = element_fits c.args.globals.now (first_entries c.args.tables.now) 0 c.args.elements.now c.loop-s.s-index c.s-item.result c.requires c.loop-s-test.true c.s-item.is in
    let long = c.in_ok-table.ensures.len in
    omega (arith, fits, long, c.loop-s.invariant.count, c.value-at.ensures, c.first_entries-entries.ensures, ap length c.as_slice.ensures.items)
