use Rattle.std.proofs.Common.{◌∙◌, sym, ap, subst, ◌-◌}
use Rattle.rich_text.specs.Lexing.{Lexed, before}
use Rattle.rich_text.specs.Layout.{open_behind}
use Rattle.rich_text.specs.Tokens.{Token}
use Rattle.rw_tokens.specs.Streams.{BeginNotClosing, Left, ahead, place_of}
use Rattle.rw_tokens.specs.Found.{first_of}
use Rattle.rw_tokens.proofs.Closings.{no_closing, some_same}
use Rattle.rw_tokens.proofs.tokens.Tokens.closes.Goals as goal

pub returns-then-first-ne41-clause-closes : goal.returns-then-first-ne41-clause-closes
returns-then-first-ne41-clause-closes c =
    let same = ap ahead (sym c.self.view_is) ∙ c.skip.ensures.same c.self.inside.depth in
    let P : Lexed → Type 0 = λ l. BeginNotClosing l.tokens in
    (same, ap (λ (l : Left). l.depth) c.self.view_is, subst P (sym same) (no_closing _ _ _ c.skip.ensures.no_blank c.skip.ensures.no_comment (λ bs q. c.if-first-ne41.true (some_same _ _ (c.in-Some.ensures ∙ ap first_of q)))))

pub returns-clause-closes : goal.returns-clause-closes
returns-clause-closes c =
    let same = ap ahead (sym c.self.view_is) ∙ c.skip.ensures.same c.self.inside.depth in
    let depth = ap (λ (l : Left). l.depth) c.self.view_is in (
      (place_of c.close.result.at, same ∙ c.close.ensures.gives.0 ∙ ap (λ (t : Token). before t (place_of c.close.result.at) (ahead c.close.new.self)) c.close.ensures.symbol),
      c.close.ensures.gives.1 ∙ ap (λ (t : Token). open_behind t c.self.inside.depth) c.close.ensures.symbol ∙ ap (λ n. n - 1) depth,
    )
