use Rattle.wasm_run.proofs.Going.{goes_as, never_stuck, seen_as}
use Rattle.wasm_run.proofs.laws.machines_run_their_modules.Goals as goal

pub returns-clause-goes : goal.returns-clause-goes
returns-clause-goes c = goes_as

pub returns-clause-seen : goal.returns-clause-seen
returns-clause-seen c = seen_as

pub returns-clause-never_stuck : goal.returns-clause-never_stuck
returns-clause-never_stuck c = never_stuck
