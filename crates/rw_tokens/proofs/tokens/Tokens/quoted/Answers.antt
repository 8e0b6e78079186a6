use Rattle.std.proofs.Common.{refl, ◌∙◌, sym, ap, length, List, ℕ}
use Rattle.rich_text.specs.Lexing.{stop}
use Rattle.rw_tokens.specs.declared.symbols.FirstFault.{FirstFault}
use Rattle.rw_tokens.specs.Streams.{Left, Remains, fault_of, place_of}
use Rattle.rw_tokens.specs.Found.{fits_name}
use Rattle.rw_tokens.proofs.Taking.{left_at, begun_by, name_given, no_name, no_quote, quote_taken}
use Rattle.rw_tokens.proofs.tokens.Tokens.quoted.Goals as goal

pub returns-then-not-end_quote-clause-gives : goal.returns-then-not-end_quote-clause-gives
returns-then-not-end_quote-clause-gives c =
    let begun = begun_by _ _ _ _ _ c.args.at _ _ (ap (λ (r : Remains). left_at r c.self.inside.depth) c.again-cursor.ensures ∙ c.self.view_is) c.requires.place c.requires.next c.take.ensures c.name-name.ensures.front c.name-name.ensures.rest in
    (no_name _ _ _ _ _ c.args.at _ begun (λ r e. absurd (no_quote _ _ _ c.if-not-end_quote.true c.end_quote.ensures r e)) ∙ ap (λ (f : FirstFault). stop (fault_of f.fault) (place_of f.at)) (sym c.fault_at.ensures), refl)

pub returns-then-not-fits-clause-gives : goal.returns-then-not-fits-clause-gives
returns-then-not-fits-clause-gives c =
    let begun = begun_by _ _ _ _ _ c.args.at _ _ (ap (λ (r : Remains). left_at r c.self.inside.depth) c.again-cursor.ensures ∙ c.self.view_is) c.requires.place c.requires.next c.take.ensures c.name-name.ensures.front c.name-name.ensures.rest in
    let unfit = ap (λ (x : List ℕ). fits_name (length x)) (sym c.as_slice.ensures) ∙ sym c.fits.ensures ∙ c.if-not-fits.true in
    (no_name _ _ _ _ _ c.args.at _ begun (λ r e. unfit) ∙ ap (λ (f : FirstFault). stop (fault_of f.fault) (place_of f.at)) (sym c.fault_at-then-not-fits.ensures), refl)

pub returns-clause-gives : goal.returns-clause-gives
returns-clause-gives c =
    let begun = begun_by _ _ _ _ _ c.args.at _ _ (ap (λ (r : Remains). left_at r c.self.inside.depth) c.again-cursor.ensures ∙ c.self.view_is) c.requires.place c.requires.next c.take.ensures c.name-name.ensures.front c.name-name.ensures.rest in
    let fit = ap (λ (x : List ℕ). fits_name (length x)) (sym c.as_slice.ensures) ∙ sym c.fits.ensures ∙ c.if-not-fits.false in
    let quote = quote_taken _ _ _ c.if-not-end_quote.false c.end_quote.ensures in
    (name_given _ _ _ _ _ _ c.args.at _ begun quote.0 quote.1 fit, ap (λ (l : Left). l.depth) c.self.view_is)
