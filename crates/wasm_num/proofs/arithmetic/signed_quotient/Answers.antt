use Rattle.std.proofs.Common.{◌∙◌, sym, ap₂}
use Rattle.std.specs.Prelude.{int_div}
use Rattle.wasm_num.specs.Widths.{residue}
use Rattle.wasm_num.proofs.Quotients.{residue-quotient, signed_quotient-answer}
use Rattle.wasm_num.proofs.arithmetic.signed_quotient.Goals as goal

pub returns-clause-value : goal.returns-clause-value
returns-clause-value c =
    signed_quotient-answer c.args.w c.args.a c.args.b _ c.if-b-eq0.false (sym c.overflows.ensures ∙ c.if-overflows.false)
    (c.residue.ensures.value
    ∙ residue-quotient c.args.w c.signed.result c.signed-2.result c.signed.type_inv c.signed-2.type_inv
    ∙ ap₂ (λ x y. residue c.args.w (int_div x y)) c.signed.ensures c.signed-2.ensures)
