-- The body with the type put in is given.
use Rattle.std.proofs.Common.{◌∙◌, [], ◌∷◌, ap}
use Rattle.rw_types.specs.declared.types.Arg.TheVariants.{Given}
use Rattle.rw_types.specs.declared.types.Ty.{Ty}
use Rattle.rich_types.specs.Instances.{instance}
use Rattle.rw_plain_rows.proofs.Folds.{unfolds}
use Rattle.rw_plain_rows.proofs.recursive.look_unfold.Goals as goal

pub returns : goal.returns
returns c = λ beneath. unfolds _ _ c.args.t.now _ c.in_ok-unfolded.field-0 beneath c.in-Rec.is (c.in_ok-unfolded.ensures ∙ ap (λ (b : Ty). instance b (Given c.args.t.now ∷ [])) c.get.ensures)
