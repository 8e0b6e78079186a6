-- Each is computed.
use Rattle.rw_unpack_rows.proofs.Rows.{rows}
use Rattle.rw_unpack_rows.proofs.laws.worked_unpacking.Goals as goal

pub returns : goal.returns
returns c = rows
