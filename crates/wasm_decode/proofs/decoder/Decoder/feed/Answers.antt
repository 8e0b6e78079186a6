use Rattle.std.proofs.Common.{◌++◌, ◌∙◌, ◌<◌, ap, sym, inr, arith}
use Rattle.std.proofs.lemmas.List.Elements.{All-from_get_or}
use Rattle.wasm_decode.specs.Decoding.{error_of}
use Rattle.wasm_decode.proofs.Decoding.{answer_failed}
use Rattle.wasm_decode.proofs.Continuations.{settled_or, undecided_behind}
use Rattle.wasm_decode.proofs.CustomSections.{never_failed}
use Rattle.wasm_decode.proofs.InProfile.{stays_in_profile}
use Rattle.wasm_decode.proofs.decoder.Decoder.feed.Goals as goal

pub returns-in-Some-clause-err : goal.returns-in-Some-clause-err
returns-in-Some-clause-err c =
    let failed = ap error_of (sym c.self.view_is) ∙ sym c.error.ensures ∙ c.in-Some.is in
    inr (λ rest. answer_failed c.args.self.now c.in-Some.e failed (c.args.piece.now ++ rest))

pub returns-in-Some-clause-settled : goal.returns-in-Some-clause-settled
returns-in-Some-clause-settled c =
    let failed = ap error_of (sym c.self.view_is) ∙ sym c.error.ensures ∙ c.in-Some.is in
    settled_or c.args.self.now c.args.piece.now c.in-Some.e (inr (λ rest. answer_failed c.args.self.now c.in-Some.e failed (c.args.piece.now ++ rest)))

pub returns-in-None-clause-undecided : goal.returns-in-None-clause-undecided
returns-in-None-clause-undecided c =
    rw (← c.self.view_is) (undecided_behind c.self.inside.state c.take.new.self c.args.piece.now c.take.result c.take.ensures.ok c.take.ensures.whole)

pub returns-in-Some-clause-in_content : goal.returns-in-Some-clause-in_content
returns-in-Some-clause-in_content c = λ fed n s ends short small.
    let failed = ap error_of (sym c.self.view_is) ∙ sym c.error.ensures ∙ c.in-Some.is in
    absurd (never_failed c.args.self.now c.in-Some.e fed s failed)

pub returns-in-Some-clause-in_custom : goal.returns-in-Some-clause-in_custom
returns-in-Some-clause-in_custom c = λ fed s lies small.
    let failed = ap error_of (sym c.self.view_is) ∙ sym c.error.ensures ∙ c.in-Some.is in
    absurd (never_failed c.args.self.now c.in-Some.e fed s failed)

pub returns-in-None-clause-in_content : goal.returns-in-None-clause-in_content
returns-in-None-clause-in_content c =
    rw (← c.self.view_is)
    (λ fed n s ends short small.
    let left = s.in_content n ends in
    let place = s.place in
    c.take.ensures.custom (omega (arith, short, left)) (omega (arith, small, place)))

pub invariant_of-self : goal.invariant_of-self
invariant_of-self c =
    stays_in_profile c.self.inside.state c.take.new.self c.args.piece.now c.take.result
    (All-from_get_or (λ b. b < 256) c.args.piece.now 0 (λ i h. omega (arith, c.type_inv.piece i))) c.take.ensures.ok c.take.ensures.kept c.self.invariant
