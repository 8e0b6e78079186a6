use Rattle.std.proofs.Common.{◌∙◌, ◌<◌, List, get_or, length, take, ap, subst, sym, arith}
use Rattle.std.specs.Prelude.{Option}
use Rattle.wasm_ast.specs.declared.modules.Import.{Import}
use Rattle.wasm_execution.specs.Environments.{Function, imported_functions}
use Rattle.wasm_functions.specs.Functions.{AreFunctions}
use Rattle.wasm_module_checking.proofs.Bodies.{found}
use Rattle.wasm_functions.proofs.Imports.{type_there}
use Rattle.wasm_functions.proofs.Tables.{imports_more}
use Rattle.wasm_functions.proofs.function.imported.Goals as goal

pub push_import-requires : goal.push_import-requires
push_import-requires c n e =
    let m = c.args.m.now in
    let i = c.loop-import.import-index in
    let x = c.import-item.result in
    let items = c.as_slice-import-items.ensures.items in
    let lt : i < length m.imports = omega (arith, c.loop-import-test.true, ap length items) in
    type_there m i n x c.requires (found m.imports i x x lt (c.import-item.is ∙ ap (λ (xs : List Import). get_or xs i x) items)) e

pub loop-import-preserved : goal.loop-import-preserved
loop-import-preserved c =
    let m = c.args.m.now in
    let i = c.loop-import.import-index in
    let x = c.import-item.result in
    let items = c.as_slice-import-items.ensures.items in
    let lt : i < length m.imports = omega (arith, c.loop-import-test.true, ap length items) in
    subst (λ (os : List (Option Function)). AreFunctions m os c.push_import.new.functions.items) (sym (imports_more m.types m.imports i x lt (c.import-item.is ∙ ap (λ (xs : List Import). get_or xs i x) items)))
    (c.in_ok-push_import.ensures (imported_functions m.types (take i m.imports)) c.loop-import.invariant)
