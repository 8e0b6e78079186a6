use Rattle.std.proofs.Common.{◌≡◌, ℕ, ◌+◌, ◌-◌, List, ◌++◌, length, reverse, take, drop, vec_len, vec_capacity, sym, ap, ◌∙◌, arith, length-append}
use Rattle.std.proofs.lemmas.List.{length-reverse}
use Rattle.wasm_values.specs.Stacked.{Stacked}
use Rattle.wasm_values.proofs.Ends.{parts, upper, lower}
use Rattle.wasm_values.proofs.operands.Values.cut.Goals as goal

pub returns-clause-cut : goal.returns-clause-cut
returns-clause-cut c gone own beneath e low high =
    let items = c.self.inside.items.items in
    let first = c.self.inside.base in
    let was = c.args.self.now in
    let height = c.args.height in
    let its_own : reverse (drop first items) ≡ was.own = ap (λ (s : Stacked). s.own) c.self.view_is in
    let below : reverse (take first items) ≡ was.beneath = ap (λ (s : Stacked). s.beneath) c.self.view_is in
    let room : vec_capacity c.self.inside.items - vec_len c.self.inside.items ≡ was.room = ap (λ (s : Stacked). s.room) c.self.view_is in
    let all : reverse items ≡ gone ++ (own ++ beneath) =
    sym (parts first items) ∙ ap (λ (l : List ℕ). l ++ reverse (take first items)) its_own ∙ ap (λ (l : List ℕ). was.own ++ l) below ∙ e in
    let long : length (own ++ beneath) ≡ height = length-append own beneath ∙ omega (arith, low, high) in
    let kept : reverse (take height items) ≡ own ++ beneath = lower items gone (own ++ beneath) height all long in
    let count : length items ≡ length gone + height = sym (length-reverse items) ∙ ap length all ∙ length-append gone (own ++ beneath) ∙ ap (λ (n : ℕ). length gone + n) long in
    let left : c.truncate.new.self.items ≡ take height items = c.truncate.ensures.items in
    let now : reverse c.truncate.new.self.items ≡ own ++ beneath = ap reverse left ∙ kept in
    (upper c.truncate.new.self.items own beneath c.args.base now low, lower c.truncate.new.self.items own beneath c.args.base now low, omega (arith, room, count, c.truncate.ensures.len, c.truncate.ensures.capacity))
