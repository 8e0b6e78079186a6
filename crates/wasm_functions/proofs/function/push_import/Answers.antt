use Rattle.std.proofs.Common.{◌++◌, ◌∷◌, [], List, sym, subst}
use Rattle.std.specs.Prelude.{None}
use Rattle.wasm_ast.specs.declared.modules.ImportKind.{ImportKind}
use Rattle.wasm_execution.specs.Environments.{function_with, imported}
use Rattle.wasm_functions.specs.Functions.{AreFunctions}
use Rattle.wasm_functions.specs.declared.function.Function.{Function}
use Rattle.wasm_functions.proofs.Tables.{one_put}
use Rattle.wasm_functions.proofs.function.push_import.Goals as goal

pub returns-in_ok-push-in-Func : goal.returns-in_ok-push-in-Func
returns-in_ok-push-in-Func c os h =
    let m = c.args.m.now in
    let is = c.with_type.ensures None (λ ty e. tt) in
    subst (λ (fs : List Function). AreFunctions m (os ++ imported m.types c.args.what) fs) (sym {A = List Function} c.in_ok-push-in-Func.ensures.items)
    (subst (λ (w : ImportKind). AreFunctions m (os ++ imported m.types w) (c.args.functions.now.items ++ c.with_type.result ∷ [])) (sym c.in-Func.is)
    (one_put m os c.args.functions.now.items (function_with m.types c.in-Func.n None) c.with_type.result h is))
