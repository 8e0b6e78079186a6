use Rattle.wasm_typing_laws.proofs.Balance.{typed_or_violated}
use Rattle.wasm_typing_laws.proofs.OneRule.{one_violation}
use Rattle.wasm_typing_laws.proofs.Refusals.{typed_none}
use Rattle.wasm_typing_laws.proofs.laws.a_body_is_typed_or_violated.Goals as goal

pub returns-clause-either : goal.returns-clause-either
returns-clause-either c = typed_or_violated

pub returns-clause-never_both : goal.returns-clause-never_both
returns-clause-never_both c = typed_none

pub returns-clause-one : goal.returns-clause-one
returns-clause-one c = one_violation
