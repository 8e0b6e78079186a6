use Rattle.std.proofs.Common.{◌≡◌, ◌∙◌, ap, subst, slice_get, List, None}
use Rattle.std.specs.Prelude.{MatchOption}
use Rattle.wasm_ast.specs.declared.modules.WModule.{WModule}
use Rattle.wasm_execution.specs.Environments.{environment_of, function_at}
use Rattle.wasm_functions.specs.Functions.{IsFunction}
use Rattle.wasm_functions.specs.declared.function.Function.{Function}
use Rattle.wasm_functions.proofs.Tables.{found, looked_up}
use Rattle.wasm_functions.proofs.environment.Environment.function.Goals as goal

pub returns : goal.returns
returns c =
    let i = c.self.inside in
    let looked = looked_up c.deref.result.now c.args.n c.get.result c.get.ensures.lookup.0 c.get.ensures.lookup.1 ∙ ap (λ (fs : List Function). slice_get fs c.args.n) c.deref.ensures.value in
    subst (λ (m : WModule). MatchOption c.get.result (function_at (environment_of m) c.args.n ≡ None) (λ f. IsFunction m (function_at (environment_of m) c.args.n) f.now)) c.self.view_is
    (found i.«module».now (environment_of i.«module».now).functions i.functions.items c.args.n c.get.result looked c.self.invariant.0)
