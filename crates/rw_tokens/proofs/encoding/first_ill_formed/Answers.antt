use Rattle.std.proofs.Common.{◌∙◌, sym, ap, Some}
use Rattle.rw_tokens.proofs.Encoded.{sequence_begun}
use Rattle.rw_tokens.proofs.encoding.first_ill_formed.Goals as goal

pub whole-preserved : goal.whole-preserved
whole-preserved c =
    c.whole.invariant ∙ sequence_begun _ _ _ _ _ _ c.if-more-gt0.false c.in-Some.ensures c.as_slice.ensures c.in-Some-following.ensures

pub returns-in_default-following : goal.returns-in_default-following
returns-in_default-following c =
    ap Some c.position-at.ensures ∙ sym (c.whole.invariant ∙ sequence_begun _ _ _ _ _ _ c.if-more-gt0.false c.in-Some.ensures c.as_slice.ensures c.in_default-following.ensures)
