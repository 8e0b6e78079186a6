use Rattle.std.proofs.Common.{◌≡◌, List, ◌++◌, map, reverse, take, drop, sym, ap, ◌∙◌, arith}
use Rattle.std.proofs.lemmas.List.{length-map, take_all}
use Rattle.rich_reduction.specs.Configurations.{Val}
use Rattle.rw_values.specs.Values.{value_of}
use Rattle.rw_values.specs.Rows.{OperandRow}
use Rattle.rw_values.proofs.Ends.{parts}
use Rattle.rw_values.proofs.operands.Operands.open.Goals as goal

pub returns-clause-beneath : goal.returns-clause-beneath
returns-clause-beneath c =
    let old = c.self.inside.items.items in
    let items = map value_of old in
    let first = c.self.inside.base in
    let was = c.args.self.now in
    let its_own : reverse (drop first items) ≡ was.own = ap (λ (s : OperandRow). s.own) c.self.view_is in
    let below : reverse (take first items) ≡ was.beneath = ap (λ (s : OperandRow). s.beneath) c.self.view_is in
    ap reverse (take_all c.len-self-inside.result items (omega (arith, length-map old value_of, c.len-self-inside.ensures)))
    ∙ sym (parts first items) ∙ ap (λ (l : List Val). l ++ reverse (take first items)) its_own ∙ ap (λ (l : List Val). was.own ++ l) below
