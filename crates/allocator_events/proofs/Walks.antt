-- What a walk comes to, in other words.
use Rattle.std.proofs.Common.{ℕ, zero, suc, [], ◌∷◌}
use Rattle.machine_steps.specs.Steps.{Turn, Went, Ended, NoStep}
use Rattle.wasm_execution.specs.Configurations.{Config, Event}
use Rattle.wasm_execution.specs.Environments.{Environment}
use Rattle.wasm_execution.specs.Steps.{step}
use Rattle.allocator_contract.specs.Walks.{on_quiet, Quietly, Within}

turn : (t : Turn Event Config) (P Q : Config → Type 0) → ((d : Config) → P d → Q d) → on_quiet t P → on_quiet t Q
turn (Went [] d) P Q f k = f d k
turn (Went (x ∷ xs) d) P Q f k = absurd k
turn (Ended xs x d) P Q f k = absurd k
turn NoStep P Q f k = absurd k

module _ (e : Environment) (words : ℕ) (K L : Config → Type 0) (f : (c : Config) → K c → L c) where
  quietly : (n : ℕ) (c : Config) → Quietly e words K n c → Quietly e words L n c
  quietly zero c h = (h.0, f c h.1)
  quietly (suc n) c h = (h.0, turn (step e c) (Quietly e words K n) (Quietly e words L n) (λ d k. quietly n d k) h.1)

  pub within_as : (n : ℕ) (c : Config) → Within e words K n c → Within e words L n c
  within_as n c h = record { steps = h.steps; few = h.few; quietly = quietly h.steps c h.quietly }
