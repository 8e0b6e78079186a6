use Rattle.lower.proofs.ShortContents.{low_has_short_contents}
use Rattle.lower.proofs.laws.low_has_short_contents.Goals as goal

pub returns : goal.returns
returns c = low_has_short_contents
