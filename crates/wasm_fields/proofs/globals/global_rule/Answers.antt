use Rattle.wasm_fields.proofs.Rules.{three_joined}
use Rattle.wasm_fields.proofs.globals.global_rule.Goals as goal

pub returns : goal.returns
returns c = three_joined c.or-2.ensures c.or.ensures c.constant_index.ensures c.constant_form.ensures c.constant_type.ensures
