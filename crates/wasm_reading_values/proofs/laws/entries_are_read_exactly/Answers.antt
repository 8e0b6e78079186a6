use Rattle.wasm_reading_values.proofs.ExactEntries.{import_entry, export_entry, global_entry, element_entry, segment_entry}
use Rattle.wasm_reading_values.proofs.ExactCodes.{local_runs, code_entry, codes}
use Rattle.wasm_reading_values.proofs.laws.entries_are_read_exactly.Goals as goal

pub returns-clause-import : goal.returns-clause-import
returns-clause-import c = import_entry

pub returns-clause-export : goal.returns-clause-export
returns-clause-export c = export_entry

pub returns-clause-global : goal.returns-clause-global
returns-clause-global c = global_entry

pub returns-clause-element : goal.returns-clause-element
returns-clause-element c = element_entry

pub returns-clause-segment : goal.returns-clause-segment
returns-clause-segment c = segment_entry

pub returns-clause-locals : goal.returns-clause-locals
returns-clause-locals c = local_runs

pub returns-clause-code : goal.returns-clause-code
returns-clause-code c = code_entry

pub returns-clause-codes : goal.returns-clause-codes
returns-clause-codes c = codes
