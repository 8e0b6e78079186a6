use Rattle.wasm_reading_laws.proofs.Faults.{module_or_fault, never_both, one_first_fault, never_of_memory, fault_is_in_bytes}
use Rattle.wasm_reading_laws.proofs.laws.a_module_or_one_first_fault.Goals as goal

pub returns-clause-either : goal.returns-clause-either
returns-clause-either c = module_or_fault

pub returns-clause-never_both : goal.returns-clause-never_both
returns-clause-never_both c = never_both

pub returns-clause-one : goal.returns-clause-one
returns-clause-one c = one_first_fault

pub returns-clause-not_memory : goal.returns-clause-not_memory
returns-clause-not_memory c = never_of_memory

pub returns-clause-place : goal.returns-clause-place
returns-clause-place c = fault_is_in_bytes
