use Rattle.std.proofs.Common.{◌≡◌, ℕ, List, ◌++◌, reverse, take, drop, sym, ap, ◌∙◌, append_assoc}
use Rattle.wasm_values.specs.Stacked.{Stacked}
use Rattle.wasm_values.proofs.Ends.{parts, upper, lower}
use Rattle.wasm_values.proofs.operands.Values.join.Goals as goal

pub returns : goal.returns
returns c own beneath e long =
    let items = c.self.inside.items.items in
    let first = c.self.inside.base in
    let was = c.args.self.now in
    let its_own : reverse (drop first items) ≡ was.own = ap (λ (s : Stacked). s.own) c.self.view_is in
    let below : reverse (take first items) ≡ was.beneath = ap (λ (s : Stacked). s.beneath) c.self.view_is in
    let all : reverse items ≡ (was.own ++ own) ++ beneath =
    sym (parts first items) ∙ ap (λ (l : List ℕ). l ++ reverse (take first items)) its_own ∙ ap (λ (l : List ℕ). was.own ++ l) (below ∙ e) ∙ sym (append_assoc was.own own beneath) in
    (upper items (was.own ++ own) beneath c.args.base all long, lower items (was.own ++ own) beneath c.args.base all long, ap (λ (s : Stacked). s.room) c.self.view_is)
