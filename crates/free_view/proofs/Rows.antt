-- The rows, computed.
use Rattle.std.proofs.Common.{refl}
use Rattle.memory_words.specs.Memories.{read}
use Rattle.free_view.specs.Rows.{WorkedViews}

pub worked_views : WorkedViews
unfolding read
worked_views = record { none = refl; one = refl; misaligned = refl; high = refl; low = refl; round = refl }
