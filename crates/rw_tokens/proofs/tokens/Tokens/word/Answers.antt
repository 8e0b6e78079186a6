use Rattle.std.proofs.Common.{◌∙◌, sym, ap, length, List, ℕ}
use Rattle.std.specs.Prelude.{◌==◌}
use Rattle.rw_tokens.specs.Streams.{Left}
use Rattle.rw_tokens.proofs.Taking.{word_given}
use Rattle.rw_tokens.proofs.tokens.Tokens.word.Goals as goal

pub returns-clause-gives : goal.returns-clause-gives
returns-clause-gives c =
    let some = ap (λ (x : List ℕ). length x == 0) (sym c.as_slice.ensures) ∙ sym c.is_empty.ensures ∙ c.if-is_empty.false in
    (word_given _ _ _ _ _ _ c.self.view_is c.requires.place c.word-word.ensures.front c.word-word.ensures.rest some, ap (λ (l : Left). l.depth) c.self.view_is)
