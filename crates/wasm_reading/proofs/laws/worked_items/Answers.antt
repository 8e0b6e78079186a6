-- Each row is computed.
use Rattle.std.proofs.Common.{refl}
use Rattle.wasm_reading.proofs.laws.worked_items.Goals as goal

pub returns-clause-items : goal.returns-clause-items
returns-clause-items c = record {
  numbers = refl;
  number_too_great = refl;
  bytes = refl;
  table = refl;
  memory = refl;
  types = refl;
  constant = refl;
  float = refl;
}

pub returns-clause-immediates : goal.returns-clause-immediates
returns-clause-immediates c = record { labels = refl; index_zero = refl; memory_argument = refl; no_zero = refl; constant = refl }

pub returns-clause-entries : goal.returns-clause-entries
returns-clause-entries c = record { whole = refl; small = refl }
