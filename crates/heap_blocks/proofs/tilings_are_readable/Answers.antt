use Rattle.heap_blocks.proofs.Readings.{tiled_is_readable, fresh_is_tiled}
use Rattle.heap_blocks.proofs.tilings_are_readable.Goals as goal

pub returns-clause-readable : goal.returns-clause-readable
returns-clause-readable c = tiled_is_readable

pub returns-clause-fresh : goal.returns-clause-fresh
returns-clause-fresh c = fresh_is_tiled
