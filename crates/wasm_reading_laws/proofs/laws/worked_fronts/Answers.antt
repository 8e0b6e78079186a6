-- Each row is computed.
use Rattle.std.proofs.Common.{refl}
use Rattle.wasm_reading_laws.proofs.laws.worked_fronts.Goals as goal

pub returns-clause-content_stops : goal.returns-clause-content_stops
returns-clause-content_stops c = refl

pub returns-clause-count : goal.returns-clause-count
returns-clause-count c = refl
