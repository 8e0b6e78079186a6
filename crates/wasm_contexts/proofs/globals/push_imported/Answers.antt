use Rattle.wasm_ast.specs.declared.modules.Import.{Import}
use Rattle.wasm_typing.specs.Contexts.{global_type}
use Rattle.wasm_contexts.proofs.Pushes.{none_put, one_put, all_put}
use Rattle.wasm_contexts.proofs.globals.push_imported.Goals as goal

pub loop-import-init : goal.loop-import-init
loop-import-init c = none_put (λ (i : Import). global_type i.what) c.args.globals.now c.args.imports.now

pub loop-import-preserved : goal.loop-import-preserved
loop-import-preserved c = one_put (λ (i : Import). global_type i.what) c.args.globals.now c.loop-import.globals c.push_import.new.globals c.args.imports.now c.loop-import.import-index _ c.import-item.result c.loop-import-test.true c.import-item.is c.loop-import.invariant c.in_ok-push_import.ensures

pub returns : goal.returns
returns c = all_put (λ (i : Import). global_type i.what) c.args.globals.now c.loop-import.globals c.args.imports.now c.loop-import.import-index c.loop-import-test.false c.loop-import.invariant
