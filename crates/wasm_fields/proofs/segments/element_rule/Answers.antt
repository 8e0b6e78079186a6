use Rattle.std.proofs.Common.{◌∙◌, sym}
use Rattle.wasm_fields.proofs.Rules.{four_joined, first_kept}
use Rattle.wasm_fields.proofs.segments.element_rule.Goals as goal

pub returns : goal.returns
returns c = rw (← c.as_slice-globals.ensures.items, ← c.as_slice.ensures.items) (four_joined c.or-3.ensures c.or-2.ensures c.or.ensures c.constant_index.ensures c.functions_rule.ensures c.constant_form.ensures c.constant_type.ensures ∙ sym (first_kept _ _ _ _ c.if-s-c.false))
