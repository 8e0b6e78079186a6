use Rattle.std.specs.Prelude.{codes}
use Rattle.rich_writing.specs.Pieces.{signed_text}
use Rattle.rw_plain_texts.proofs.Appended.{form_of_one}
use Rattle.rw_plain_texts.proofs.immediates.push_const64.Goals as goal

pub returns : goal.returns
returns c = form_of_one _ _ _ _ (codes "(i64.const ") (signed_text 64 c.args.bits) (codes ")") c.in_ok-extend_from_slice.ensures.items c.in_ok-push_constant64.ensures c.in_ok-push.ensures.items
