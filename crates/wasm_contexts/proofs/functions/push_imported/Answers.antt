use Rattle.wasm_ast.specs.declared.modules.Import.{Import}
use Rattle.wasm_typing.specs.Contexts.{function_type}
use Rattle.wasm_contexts.proofs.Pushes.{none_put, one_put, all_put}
use Rattle.wasm_contexts.proofs.functions.push_imported.Goals as goal

pub loop-import-init : goal.loop-import-init
loop-import-init c = none_put (λ (i : Import). function_type c.args.types.now i.what) c.args.functions.now c.args.imports.now

pub loop-import-preserved : goal.loop-import-preserved
loop-import-preserved c = one_put (λ (i : Import). function_type c.args.types.now i.what) c.args.functions.now c.loop-import.functions c.push_import.new.functions c.args.imports.now c.loop-import.import-index _ c.import-item.result c.loop-import-test.true c.import-item.is c.loop-import.invariant c.in_ok-push_import.ensures

pub returns : goal.returns
returns c = all_put (λ (i : Import). function_type c.args.types.now i.what) c.args.functions.now c.loop-import.functions c.args.imports.now c.loop-import.import-index c.loop-import-test.false c.loop-import.invariant
