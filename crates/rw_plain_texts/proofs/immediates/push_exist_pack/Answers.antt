use Rattle.std.specs.Prelude.{codes, decimal}
use Rattle.rich_writing.specs.Pieces.{mem_text, qual_text}
use Rattle.rich_writing.specs.Types.{type_text}
use Rattle.rw_plain_texts.proofs.Appended.{package_written}
use Rattle.rw_plain_texts.proofs.immediates.push_exist_pack.Goals as goal

pub returns : goal.returns
returns c =
    package_written _ _ _ _ (codes "(exist.pack ") (mem_text c.args.memory) (qual_text c.args.qual) (decimal c.args.size) (type_text c.args.hidden.now) (type_text c.args.shown.now) c.in_ok-push_packed.ensures c.push_two_types.ensures
