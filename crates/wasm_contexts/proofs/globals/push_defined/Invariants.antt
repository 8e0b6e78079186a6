use Rattle.std.proofs.Common.{◌≡◌, ◌∷◌, [], ◌++◌, take}
use Rattle.std.specs.Prelude.{flat_map}
use Rattle.wasm_ast.specs.declared.modules.WGlobal.{WGlobal}
use Rattle.wasm_typing.specs.Contexts.{type_of_global}
use Rattle.wasm_contexts.proofs.globals.push_defined.Given as goal

abbrev pub invariant-loop-g : goal.invariant-loop-g
invariant-loop-g l = l.globals ≡ l.initial.globals ++ flat_map (λ (g : WGlobal). type_of_global g ∷ []) (take l.g-index l.defined)
