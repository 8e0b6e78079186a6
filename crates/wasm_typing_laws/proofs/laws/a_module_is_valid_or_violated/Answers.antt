use Rattle.wasm_typing_laws.proofs.Modules.{valid_or_violated, never_both, one}
use Rattle.wasm_typing_laws.proofs.laws.a_module_is_valid_or_violated.Goals as goal

pub returns-clause-either : goal.returns-clause-either
returns-clause-either c = valid_or_violated

pub returns-clause-never_both : goal.returns-clause-never_both
returns-clause-never_both c = never_both

pub returns-clause-one : goal.returns-clause-one
returns-clause-one c = one
