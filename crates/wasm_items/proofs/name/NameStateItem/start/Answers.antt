use Rattle.std.proofs.Common.{◌∙◌, sym, ap}
use Rattle.wasm_reading.specs.Readers.{◌>>=◌}
use Rattle.wasm_items.specs.NameStates.{checked_behind}
use Rattle.wasm_items.proofs.NamePlaces.{whole_name}
use Rattle.wasm_items.proofs.name.NameStateItem.start.Goals as goal

pub returns : goal.returns
returns c = ap (λ bytes. bytes >>= checked_behind) c.start.ensures ∙ sym whole_name
