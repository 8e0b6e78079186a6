use Rattle.std.proofs.Common.{◌+◌, map, take, drop, slice_set, ap, ◌∙◌, arith}
use Rattle.std.proofs.lemmas.List.{map-set, drop-set-add, take-set-le}
use Rattle.rw_values.specs.declared.value.Value.{Value}
use Rattle.rw_values.specs.Values.{value_of}
use Rattle.rw_values.specs.Rows.{LocalRow}
use Rattle.rw_values.proofs.locals.Locals.replace.Goals as goal

pub returns-clause-own : goal.returns-clause-own
returns-clause-own c =
    let old = c.self.inside.items.items in
    let first = c.self.inside.base in
    let n = c.args.n in
    let v = c.args.value in
    ap (λ (w : Value). drop first (map value_of (slice_set old (first + n) w))) c.replace.ensures.after ∙ ap (drop first) (map-set value_of old (first + n) v)
    ∙ drop-set-add first (map value_of old) n (value_of v) ∙ ap (λ (s : LocalRow). slice_set s.own n (value_of v)) c.self.view_is

pub returns-clause-beneath : goal.returns-clause-beneath
returns-clause-beneath c =
    let old = c.self.inside.items.items in
    let first = c.self.inside.base in
    let n = c.args.n in
    let v = c.args.value in
    ap (λ (w : Value). take first (map value_of (slice_set old (first + n) w))) c.replace.ensures.after ∙ ap (take first) (map-set value_of old (first + n) v)
    ∙ take-set-le first (map value_of old) (first + n) (value_of v) (omega arith) ∙ ap (λ (s : LocalRow). s.beneath) c.self.view_is
