use Rattle.std.specs.Prelude.{codes}
use Rattle.rich_writing.specs.Pieces.{signed_text}
use Rattle.rw_plain_texts.proofs.Appended.{form_of_one}
use Rattle.rw_plain_texts.proofs.immediates.push_const32.Goals as goal

pub returns : goal.returns
returns c = form_of_one _ _ _ _ (codes "(i32.const ") (signed_text 32 c.args.bits) (codes ")") c.in_ok-extend_from_slice.ensures.items c.in_ok-push_constant32.ensures c.in_ok-push.ensures.items
