use Rattle.std.proofs.Common.{◌∙◌, ap, ◌++◌, ◌∷◌, [], List}
use Rattle.std.proofs.lemmas.List.Concat.{flat_map_single}
use Rattle.wasm_ast.specs.declared.modules.WGlobal.{WGlobal}
use Rattle.wasm_typing.specs.declared.context.GlobalType.{GlobalType}
use Rattle.wasm_typing.specs.Contexts.{type_of_global}
use Rattle.wasm_contexts.proofs.Pushes.{none_put, one_put, all_put}
use Rattle.wasm_contexts.proofs.globals.push_defined.Goals as goal

pub loop-g-init : goal.loop-g-init
loop-g-init c = none_put (λ (g : WGlobal). type_of_global g ∷ []) c.args.globals.now c.args.defined.now

pub loop-g-preserved : goal.loop-g-preserved
loop-g-preserved c = one_put (λ (g : WGlobal). type_of_global g ∷ []) c.args.globals.now c.loop-g.globals c.push.new.self c.args.defined.now c.loop-g.g-index _ c.g-item.result c.loop-g-test.true c.g-item.is c.loop-g.invariant c.in_ok-push.ensures.ok

pub returns : goal.returns
returns c = all_put (λ (g : WGlobal). type_of_global g ∷ []) c.args.globals.now c.loop-g.globals c.args.defined.now c.loop-g.g-index c.loop-g-test.false c.loop-g.invariant ∙ ap (λ (ys : List GlobalType). c.args.globals.now ++ ys) (flat_map_single type_of_global c.args.defined.now)
