use Rattle.std.proofs.Common.{◌∙◌, sym, eq-eqb}
use Rattle.wasm_functions.proofs.Same.{by_index}
use Rattle.wasm_functions.proofs.environment.Environment.has_type.Goals as goal

pub returns-then-f-type_index : goal.returns-then-f-type_index
returns-then-f-type_index c =
    eq-eqb c.args.f.now.type_index c.args.type_index c.if-f-type_index.true ∙ sym (by_index c.args.self.now c.args.f.now.ty.now c.args.f.now.type_index c.args.type_index c.if-f-type_index.true c.requires)
