use Rattle.lowering_rows_worked.proofs.StructsRows.{dividing, joining, other_types, packing, qualifying, splitting, swapping, wide_slots}
use Rattle.lowering_rows_worked.proofs.structs_are_lowered.Goals as goal

pub returns-clause-wide_slots : goal.returns-clause-wide_slots
returns-clause-wide_slots c = wide_slots

pub returns-clause-other_types : goal.returns-clause-other_types
returns-clause-other_types c = other_types

pub returns-clause-swapping : goal.returns-clause-swapping
returns-clause-swapping c = swapping

pub returns-clause-splitting : goal.returns-clause-splitting
returns-clause-splitting c = splitting

pub returns-clause-joining : goal.returns-clause-joining
returns-clause-joining c = joining

pub returns-clause-packing : goal.returns-clause-packing
returns-clause-packing c = packing

pub returns-clause-dividing : goal.returns-clause-dividing
returns-clause-dividing c = dividing

pub returns-clause-qualifying : goal.returns-clause-qualifying
returns-clause-qualifying c = qualifying
