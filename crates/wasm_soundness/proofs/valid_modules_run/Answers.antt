use Rattle.wasm_soundness.proofs.Starts.{valid_never_stuck, valid_stands_within, valid_starts_typed}
use Rattle.wasm_soundness.proofs.valid_modules_run.Goals as goal

pub returns-clause-starts : goal.returns-clause-starts
returns-clause-starts c = valid_starts_typed

pub returns-clause-stuck : goal.returns-clause-stuck
returns-clause-stuck c = valid_never_stuck

pub returns-clause-room : goal.returns-clause-room
returns-clause-room c = valid_stands_within
