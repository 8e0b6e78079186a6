use Rattle.std.proofs.Common.{◌∙◌, ap, arith}
use Rattle.std.proofs.lemmas.List.{take_all}
use Rattle.wasm_typing.specs.Contexts.{imported_tables}
use Rattle.wasm_contexts.proofs.Counted.{tables_more}
use Rattle.wasm_contexts.proofs.counts.imported_tables.Goals as goal

pub loop-import-preserved : goal.loop-import-preserved
loop-import-preserved c = record {
  counted = tables_more c.args.imports.now c.loop-import.import-index c.import-item.result c.loop-import-test.true c.import-item.is c.loop-import.invariant.counted c.table_count-count.ensures.count;
  few = omega arith;
}

pub returns-clause-count : goal.returns-clause-count
returns-clause-count c = c.loop-import.invariant.counted ∙ ap imported_tables (take_all c.loop-import.import-index c.args.imports.now c.loop-import-test.false)
