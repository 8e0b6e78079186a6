-- A bounded number behind a byte begins one place on: its first byte is known there.
-- By the definition of what is at most so much.
use Rattle.std.proofs.Common.{◌≡◌, ℕ, ◌+◌, refl, ap, sym}
use Rattle.wasm_reading.specs.Readers.{Reader, ◌>>=◌}
use Rattle.wasm_reading.specs.ReadTypes.{at_most}
use Rattle.wasm_items.specs.declared.bounded.BoundedState.{BoundedState}
use Rattle.wasm_items.specs.BoundedStates.{rest_of_bounded, bounded_at}
use Rattle.wasm_items.specs.Residuals.{Takes}
use Rattle.wasm_items.proofs.Taking.{takes_as, takes_point}

pub takes_bounded : {A : Type 0} {old : Reader A} {b at : ℕ} (most : ℕ) (state : BoundedState) (f : ℕ → Reader A) → rest_of_bounded state ≡ bounded_at most (at + 1) → Takes old b at (at_most most >>= f) → Takes old b at (rest_of_bounded state >>= f)
takes_bounded most state f e t = takes_as (ap (λ number. number >>= f) (sym e)) (takes_point (λ end bs. refl) t)
