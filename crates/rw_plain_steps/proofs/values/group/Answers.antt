use Rattle.std.proofs.Common.{◌≡◌, List, ◌∷◌, map, take, drop, reverse, sym, ap, ◌∙◌}
use Rattle.rich_reduction.specs.Configurations.{Val, Tuple}
use Rattle.rich_reduction.specs.Values.{parts_of}
use Rattle.rich_reduction.specs.Turns.{leaves}
use Rattle.rw_values.specs.Values.{value_of}
use Rattle.rw_values.proofs.Meanings.{tuple_means}
use Rattle.rw_plain_steps.proofs.Lists.{top}
use Rattle.rw_plain_steps.proofs.values.group.Goals as goal

pub returns-clause-does : goal.returns-clause-does
returns-clause-does c here c' =
    let old = c.args.operands.now.own in
    let count = c.args.count in
    let same : c.reserve.new.self.own ≡ old = c.reserve.ensures.own in
    let parts : map value_of c.in_ok-parts.parts.items ≡ reverse (take count old) = c.in_ok-parts.ensures.taken ∙ ap (λ (l : List Val). reverse (take count l)) same in
    let left : c.take_top.new.self.own ≡ drop count old = c.in_ok-parts.ensures.own ∙ ap (drop count) same in
    let now : c.push.new.self.own ≡ Tuple (parts_of (reverse (take count old))) ∷ drop count old = c.push.ensures.own
    ∙ ap (λ (v : Val). v ∷ c.take_top.new.self.own) (tuple_means c.in_ok-parts.parts ∙ ap (λ (l : List Val). Tuple (parts_of l)) parts)
    ∙ ap (λ (l : List Val). Tuple (parts_of (reverse (take count old))) ∷ l) left in
    top count old (λ vs beneath. leaves (Tuple (parts_of (reverse vs)) ∷ beneath) here c') c.requires
    ∙ ap (λ (l : List Val). leaves l here c') (sym now)
