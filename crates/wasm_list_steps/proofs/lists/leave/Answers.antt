use Rattle.std.proofs.Common.{◌≡◌, List, ◌∷◌, sym, ap, subst, ◌∙◌, length, length-append, arith}
use Rattle.wasm_levels.specs.declared.row.OpenList.{OpenList}
use Rattle.wasm_levels.specs.Lists.{around, outer, AreLaid}
use Rattle.wasm_list_steps.proofs.Landing.{first_of, outer-long, around-outer, leaves, left-stays}
use Rattle.wasm_list_steps.proofs.lists.leave.Goals as goal

pub returns-clause-does : goal.returns-clause-does
returns-clause-does c =
    let l = c.get-list.result in
    let before = c.args.values.now in
    let lists : c.args.levels.now.own ≡ l ∷ c.close.new.self.own = first_of c.args.levels.now.own l c.get-list.ensures ∙ ap (λ (ls : List OpenList). l ∷ ls) (sym c.close.ensures.own) in
    let Q : List OpenList → Type 0 = λ ls. AreLaid ls before.beneath in
    let laid = subst Q lists c.requires.laid in
    let joined = c.join.ensures (around l before.beneath) (outer l before.beneath) (around-outer l before.beneath) (outer-long l before.beneath laid.0) in
    leaves before c.join.new.self c.args.levels.now c.close.new.self l lists (c.requires.ready l c.get-list.ensures) joined.0 joined.1

pub returns-clause-stays : goal.returns-clause-stays
returns-clause-stays c =
    let l = c.get-list.result in
    let before = c.args.values.now in
    let lists : c.args.levels.now.own ≡ l ∷ c.close.new.self.own = first_of c.args.levels.now.own l c.get-list.ensures ∙ ap (λ (ls : List OpenList). l ∷ ls) (sym c.close.ensures.own) in
    let Q : List OpenList → Type 0 = λ ls. AreLaid ls before.beneath in
    let laid = subst Q lists c.requires.laid in
    let joined = c.join.ensures (around l before.beneath) (outer l before.beneath) (around-outer l before.beneath) (outer-long l before.beneath laid.0) in
    left-stays before c.join.new.self c.args.levels.now c.close.new.self l lists c.close.ensures.beneath joined.1

pub returns-clause-capacity : goal.returns-clause-capacity
returns-clause-capacity c =
    let l = c.get-list.result in
    let before = c.args.values.now in
    let lists : c.args.levels.now.own ≡ l ∷ c.close.new.self.own = first_of c.args.levels.now.own l c.get-list.ensures ∙ ap (λ (ls : List OpenList). l ∷ ls) (sym c.close.ensures.own) in
    let Q : List OpenList → Type 0 = λ ls. AreLaid ls before.beneath in
    let laid = subst Q lists c.requires.laid in
    let joined = c.join.ensures (around l before.beneath) (outer l before.beneath) (around-outer l before.beneath) (outer-long l before.beneath laid.0) in
    let a = ap length joined.0 ∙ length-append before.own (around l before.beneath) in
    let b = ap length joined.1 in
    let d = ap length (around-outer l before.beneath) ∙ length-append (around l before.beneath) (outer l before.beneath) in
    let r = joined.2 in
    omega (arith, a, b, d, r)
