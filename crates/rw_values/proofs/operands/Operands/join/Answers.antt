use Rattle.std.proofs.Common.{◌≡◌, List, ◌++◌, map, reverse, take, drop, sym, ap, ◌∙◌, append_assoc}
use Rattle.rich_reduction.specs.Configurations.{Val}
use Rattle.rw_values.specs.Values.{value_of}
use Rattle.rw_values.specs.Rows.{OperandRow}
use Rattle.rw_values.proofs.Ends.{parts, upper, lower}
use Rattle.rw_values.proofs.operands.Operands.join.Goals as goal

pub returns : goal.returns
returns c own beneath e long =
    let items = map value_of c.self.inside.items.items in
    let first = c.self.inside.base in
    let was = c.args.self.now in
    let its_own : reverse (drop first items) ≡ was.own = ap (λ (s : OperandRow). s.own) c.self.view_is in
    let below : reverse (take first items) ≡ was.beneath = ap (λ (s : OperandRow). s.beneath) c.self.view_is in
    let all : reverse items ≡ (was.own ++ own) ++ beneath =
    sym (parts first items) ∙ ap (λ (l : List Val). l ++ reverse (take first items)) its_own ∙ ap (λ (l : List Val). was.own ++ l) (below ∙ e) ∙ sym (append_assoc was.own own beneath) in
    (upper items (was.own ++ own) beneath c.args.base all long, lower items (was.own ++ own) beneath c.args.base all long, ap (λ (s : OperandRow). s.room) c.self.view_is)
