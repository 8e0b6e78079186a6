use Rattle.std.proofs.Common.{◌≡◌, ℕ, ◌++◌, length, map, take, drop, sym, ap, ◌∙◌}
use Rattle.std.proofs.lemmas.List.{take-map}
use Rattle.std.proofs.Math.Seq.{drop-append_seam, take-append_seam}
use Rattle.rw_values.specs.Values.{value_of}
use Rattle.rw_values.specs.Rows.{LocalRow}
use Rattle.rw_values.proofs.locals.Locals.leave.Goals as goal

pub returns : goal.returns
returns c beneath own e long =
    let old = c.self.inside.items.items in
    let now = map value_of c.truncate.new.self.items in
    let kept : now ≡ beneath ++ own = ap (map value_of) c.truncate.ensures.items ∙ sym (take-map value_of c.self.inside.base old) ∙ ap (λ (s : LocalRow). s.beneath) c.self.view_is ∙ e in
    (ap (λ (k : ℕ). drop k now) (sym long) ∙ ap (drop (length beneath)) kept ∙ drop-append_seam beneath own, ap (λ (k : ℕ). take k now) (sym long) ∙ ap (take (length beneath)) kept ∙ take-append_seam beneath own)
