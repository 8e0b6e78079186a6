use Rattle.wasm_reading_laws.proofs.Faults.{truncated_at_the_end, truncated_is_undecided}
use Rattle.wasm_reading_laws.proofs.laws.truncated_only_at_the_end.Goals as goal

pub returns-clause-place : goal.returns-clause-place
returns-clause-place c = truncated_at_the_end

pub returns-clause-undecided : goal.returns-clause-undecided
returns-clause-undecided c = truncated_is_undecided
