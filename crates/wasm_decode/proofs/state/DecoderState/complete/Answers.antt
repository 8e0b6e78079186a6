use Rattle.std.proofs.Common.{sym, ◌∙◌}
use Rattle.wasm_decode.proofs.Decoding.{answer_wanting, answer_complete, answer_uneven}
use Rattle.wasm_decode.proofs.state.DecoderState.complete.Goals as goal

pub returns-then-wants_a_byte-clause-err : goal.returns-then-wants_a_byte-clause-err
returns-then-wants_a_byte-clause-err c =
    let d = c.args.self.now in
    answer_wanting d c.requires (c.wants_a_byte.ensures.yes c.if-wants_a_byte.true d.at d.last d.built)

pub returns-then-len-clause-err : goal.returns-then-len-clause-err
returns-then-len-clause-err c =
    let d = c.args.self.now in
    answer_uneven d c.requires (c.wants_a_byte.ensures.no c.if-wants_a_byte.false d.at d.last d.built) (λ e. c.if-len.true (c.len.ensures.count ∙ e ∙ sym c.len-2.ensures.count))

pub returns-clause-ok : goal.returns-clause-ok
returns-clause-ok c =
    let d = c.args.self.now in
    answer_complete d c.requires (c.wants_a_byte.ensures.no c.if-wants_a_byte.false d.at d.last d.built) (sym c.len.ensures.count ∙ c.if-len.false ∙ c.len-2.ensures.count)
