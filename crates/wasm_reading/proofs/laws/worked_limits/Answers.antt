-- Each row is computed.
use Rattle.std.proofs.Common.{refl}
use Rattle.wasm_reading.proofs.laws.worked_limits.Goals as goal

pub returns-clause-limits : goal.returns-clause-limits
returns-clause-limits c = record { pages = refl; entries = refl; entry_more = refl; locals = refl; local_more = refl; local_run_more = refl; two_results = refl }

pub returns-clause-nesting : goal.returns-clause-nesting
returns-clause-nesting c = record { deepest = refl; deeper = refl }

pub returns-clause-preambles : goal.returns-clause-preambles
returns-clause-preambles c = record { nothing = refl; three_bytes = refl; first_byte = refl; fourth_byte = refl; fifth_byte = refl; last_byte = refl }
