-- The rows, computed.
use Rattle.std.proofs.Common.{refl}
use Rattle.std.specs.Fmt as formats
use Rattle.rich_writing.specs.Rows.{WrittenRows}

pub rows : WrittenRows
unfolding formats.digits
rows = record { main_type = refl; main = refl }
