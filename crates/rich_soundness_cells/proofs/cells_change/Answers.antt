use Rattle.rich_soundness_cells.proofs.Live.{stays, grows, ends}
use Rattle.rich_soundness_cells.proofs.Stores.{written, made, opened}
use Rattle.rich_soundness_cells.proofs.cells_change.Goals as goal

pub returns-clause-written : goal.returns-clause-written
returns-clause-written c = written

pub returns-clause-made : goal.returns-clause-made
returns-clause-made c = made

pub returns-clause-opened : goal.returns-clause-opened
returns-clause-opened c = opened

pub returns-clause-stays : goal.returns-clause-stays
returns-clause-stays c = stays

pub returns-clause-grows : goal.returns-clause-grows
returns-clause-grows c = grows

pub returns-clause-ends : goal.returns-clause-ends
returns-clause-ends c = ends
