use Rattle.std.proofs.Common.{◌++◌}
use Rattle.std.specs.Prelude.{codes, decimal, map}
use Rattle.rich_writing.specs.Pieces.{spaced}
use Rattle.rw_plain_texts.proofs.Appended.{both}
use Rattle.rw_write.proofs.fields.push_locals.Goals as goal

pub returns : goal.returns
returns c =
    let sizes = spaced (map decimal c.args.sizes.now) in
    both _ _ _ (codes " (locals") (sizes ++ codes ")") c.in_ok-extend_from_slice.ensures.items (both _ _ _ sizes (codes ")") c.in_ok-push_numbers.ensures c.in_ok-push.ensures.items)
