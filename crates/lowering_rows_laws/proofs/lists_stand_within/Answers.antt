use Rattle.lowering_rows_laws.proofs.Lists.{blocks_hold, ifs_hold, locations_open, loops_hold, packages_open, variants_open}
use Rattle.lowering_rows_laws.proofs.lists_stand_within.Goals as goal

pub returns-clause-blocks : goal.returns-clause-blocks
returns-clause-blocks c = blocks_hold

pub returns-clause-loops : goal.returns-clause-loops
returns-clause-loops c = loops_hold

pub returns-clause-ifs : goal.returns-clause-ifs
returns-clause-ifs c = ifs_hold

pub returns-clause-locations : goal.returns-clause-locations
returns-clause-locations c = locations_open

pub returns-clause-packages : goal.returns-clause-packages
returns-clause-packages c = packages_open

pub returns-clause-variants : goal.returns-clause-variants
returns-clause-variants c = variants_open
