use Rattle.std.proofs.Common.{◌≡◌, List, ◌∷◌, ◌++◌, map, reverse, sym, ap, ◌∙◌}
use Rattle.rich_reduction.specs.Configurations.{Val, Tuple}
use Rattle.rich_reduction.specs.Values.{parts_of}
use Rattle.rich_reduction.specs.Turns.{leaves}
use Rattle.rich_reduction.specs.Plain.{ungroup}
use Rattle.rw_values.specs.declared.value.Value.{Value}
use Rattle.rw_values.specs.Values.{value_of}
use Rattle.rw_values.proofs.Meanings.{tuple_means}
use Rattle.rw_plain_steps.proofs.Lists.{listed}
use Rattle.rw_plain_steps.proofs.values.ungroup.Goals as goal

pub returns-in-Ok-clause-does : goal.returns-in-Ok-clause-does
returns-in-Ok-clause-does c here c' =
    let parts = map value_of c.in-Tuple.parts.items in
    let beneath = c.pop.new.self.own in
    let was : c.args.operands.now.own ≡ Tuple (parts_of parts) ∷ beneath = c.in-Tuple.ensures.own ∙ ap (λ (v : Val). v ∷ beneath) (tuple_means c.in-Tuple.parts) in
    ap (λ (l : List Val). ungroup (record here { operands = l }) c') was
    ∙ ap (λ (l : List Val). leaves (reverse l ++ beneath) here c') (listed parts)
    ∙ ap (λ (l : List Val). leaves l here c') (sym c.in-Ok.ensures.own)

pub returns-in-Err-clause-unchanged : goal.returns-in-Err-clause-unchanged
returns-in-Err-clause-unchanged c =
    let parts = map value_of c.in-Tuple.parts.items in
    let beneath = c.pop.new.self.own in
    let was : c.args.operands.now.own ≡ Tuple (parts_of parts) ∷ beneath = c.in-Tuple.ensures.own ∙ ap (λ (v : Val). v ∷ beneath) (tuple_means c.in-Tuple.parts) in
    c.push.ensures.own ∙ ap (λ (v : Val). v ∷ c.push_all.new.self.own) (tuple_means c.push_all.new.values ∙ ap (λ (l : List Value). Tuple (parts_of (map value_of l))) c.in-Err.ensures.kept)
    ∙ ap (λ (l : List Val). Tuple (parts_of parts) ∷ l) c.in-Err.ensures.unchanged ∙ sym was
