use Rattle.std.proofs.Common.{refl}
use Rattle.wasm_decode.proofs.CustomSections.{stands_new}
use Rattle.wasm_decode.proofs.Decoding.{answer_new, no_entries}
use Rattle.wasm_decode.proofs.state.DecoderState.new.Goals as goal

pub returns-clause-starts : goal.returns-clause-starts
returns-clause-starts c = λ bytes.
    answer_new _ refl refl refl
    (no_entries _ c.new.ensures c.new-2.ensures c.new-3.ensures c.new-4.ensures c.new-5.ensures c.new-6.ensures c.new-7.ensures refl c.new-8.ensures c.new-9.ensures c.new-10.ensures)
    refl bytes

pub returns-clause-stands : goal.returns-clause-stands
returns-clause-stands c = stands_new _ (returns-clause-starts c) refl refl
