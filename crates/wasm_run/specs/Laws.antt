-- What a machine does is what its module does (this project's own).
use Rattle.std.specs.Prelude.{◌≡◌, ◌≢◌, ℕ, ◌+◌, None}
use Rattle.std.specs.List.{flat_map}
use Rattle.machine_runs.specs.Runs.{end_of}
use Rattle.machine_steps.specs.Agreement.{Seen}
use Rattle.machine_steps.specs.Steps.{Reached, Stuck, reached}
use Rattle.wasm_ast.specs.declared.modules.WModule.{WModule}
use Rattle.wasm_execution.specs.Behaviour.{wasm}
use Rattle.wasm_execution.specs.Configurations.{Config, Event, prints}
use Rattle.wasm_execution.specs.Environments.{environment_of}
use Rattle.wasm_execution.specs.Starts.{Begins, start_of}
use Rattle.wasm_execution.specs.Steps.{step}
use Rattle.wasm_grammar.specs.Profile.{IsInProfile}
use Rattle.wasm_typing.specs.Modules.{IsValid}
use Rattle.wasm_run.specs.Progress.{Progress, begun, next_of}

-- what a machine comes to, which had made so many steps, is what its module comes to
pub record IsAs (m : WModule) (made : ℕ) (r : Reached Event Config) (s : Reached ℕ Progress) : Type 0 where
  pub said : s.said ≡ flat_map prints r.said
  pub stand : s.stand ≡ r.stand
  pub steps : s.steps ≡ r.steps
  pub at : s.at ≡ record { source = m; config = r.at; steps = made + r.steps; ended = end_of r.stand }

-- after any number of steps
abbrev pub GoesAsModule : Type 0
GoesAsModule =
    (m : WModule) (first : Config) (made n : ℕ)
    → IsAs m made (reached (step (environment_of m)) n first) (reached next_of n (record { source = m; config = first; steps = made; ended = None }))

-- what is seen of a machine
abbrev pub seen_of : Reached ℕ Progress → Seen
seen_of s = record { printed = s.said; stand = s.stand }

-- from its start on it is what is seen of the module
abbrev pub SeenAsModule : Type 0
SeenAsModule = (m : WModule) (first : Config) → start_of m ≡ Begins first → (n : ℕ) → seen_of (reached next_of n (begun m first)) ≡ wasm m n

-- and it is stuck after no number of steps, where the module is valid and in the profile
abbrev pub NeverStuck : Type 0
NeverStuck = (m : WModule) (first : Config) → IsValid m → IsInProfile m → start_of m ≡ Begins first → (n : ℕ) → (reached next_of n (begun m first)).stand ≢ Stuck
