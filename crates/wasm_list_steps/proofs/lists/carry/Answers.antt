use Rattle.std.proofs.Common.{◌≡◌, ℕ, List, ◌∷◌, ◌++◌, length, sym, ap, ◌∙◌, arith, length-append}
use Rattle.wasm_levels.specs.Lists.{count_of}
use Rattle.wasm_list_steps.proofs.Landing.{one_taken}
use Rattle.wasm_list_steps.proofs.lists.carry.Goals as goal

pub returns-then-gives : goal.returns-then-gives
returns-then-gives c taken rest gone own beneath split long parts low high =
    let one : length taken ≡ 1 = long ∙ ap count_of c.if-gives.true in
    let is = one_taken taken rest c.pop-value.result c.pop-value.new.self.own one (sym split ∙ c.pop-value.ensures.own) in
    let cut = c.cut.ensures.cut gone own beneath (ap (λ (l : List ℕ). l ++ c.pop-value.new.self.beneath) (sym is.1) ∙ ap (λ (l : List ℕ). rest ++ l) c.pop-value.ensures.beneath ∙ parts) low high in
    let all = ap length parts ∙ length-append gone (own ++ beneath) in
    let two = length-append own beneath in
    let three = length-append rest c.args.values.now.beneath in
    let four = ap length is.1 in
    let five = ap length c.pop-value.ensures.own in
    let six = ap length c.push.ensures.own in
    let seven = ap length cut.0 in
    let eight = ap length c.push.ensures.beneath in
    let nine = ap length cut.1 in
    let ten = cut.2 in
    (c.push.ensures.own ∙ ap (λ (l : List ℕ). c.pop-value.result ∷ l) cut.0 ∙ ap (λ (l : List ℕ). l ++ own) (sym is.0), c.push.ensures.beneath ∙ cut.1, omega (arith, all, two, three, four, five, six, seven, eight, nine, ten, c.push.ensures.room, c.pop-value.ensures.room))
