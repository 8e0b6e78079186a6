use Rattle.wasm_reading_laws.proofs.FirstFaults.{early_or_settled, undecided_is_open, decided_by_least_front, one_least_front}
use Rattle.wasm_reading_laws.proofs.laws.first_fault_at_the_least_front.Goals as goal

pub returns-clause-settled : goal.returns-clause-settled
returns-clause-settled c = early_or_settled

pub returns-clause-undecided : goal.returns-clause-undecided
returns-clause-undecided c = undecided_is_open

pub returns-clause-front : goal.returns-clause-front
returns-clause-front c = decided_by_least_front

pub returns-clause-one : goal.returns-clause-one
returns-clause-one c = one_least_front
