use Rattle.rich_text_laws.proofs.Faults.{fault_is_in_text}
use Rattle.rich_text_laws.proofs.Whole.{module_or_fault, never_both, one_first_fault}
use Rattle.rich_text_laws.proofs.a_module_or_one_first_fault.Goals as goal

pub returns-clause-either : goal.returns-clause-either
returns-clause-either c = module_or_fault

pub returns-clause-never_both : goal.returns-clause-never_both
returns-clause-never_both c = never_both

pub returns-clause-one : goal.returns-clause-one
returns-clause-one c = one_first_fault

pub returns-clause-within : goal.returns-clause-within
returns-clause-within c = fault_is_in_text
