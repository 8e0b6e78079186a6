use Rattle.std.proofs.Common.{◌∙◌, List, length, ap, arith}
use Rattle.std.proofs.lemmas.List.{take_all}
use Rattle.wasm_ast.specs.declared.modules.Import.{Import}
use Rattle.wasm_ast.specs.declared.types.FuncType.{FuncType}
use Rattle.wasm_typing.specs.Contexts.{imported_functions}
use Rattle.wasm_contexts.proofs.Counted.{functions_more}
use Rattle.wasm_contexts.proofs.counts.function_imports.Goals as goal

pub loop-import-preserved : goal.loop-import-preserved
loop-import-preserved c = record {
  counted = functions_more c.as_slice-types.result.now c.as_slice-imports.result.now c.loop-import.import-index c.import-item.result c.loop-import-test.true c.import-item.is c.loop-import.invariant.counted c.function_count-count.ensures.count;
  few = omega arith;
}

pub returns-clause-count : goal.returns-clause-count
returns-clause-count c =
    c.loop-import.invariant.counted
    ∙ ap (λ (xs : List Import). length (imported_functions c.as_slice-types.result.now xs)) (take_all c.loop-import.import-index c.as_slice-imports.result.now c.loop-import-test.false ∙ c.as_slice-imports.ensures.items)
    ∙ ap (λ (ts : List FuncType). length (imported_functions ts c.args.m.now.imports)) c.as_slice-types.ensures.items
