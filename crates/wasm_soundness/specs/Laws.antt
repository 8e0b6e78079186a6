-- Valid modules that start (WebAssembly Core Specification 1.0, sections 4.5.4 and A.5, "soundness").
use Rattle.std.specs.Prelude.{◌≡◌, ℕ}
use Rattle.wasm_ast.specs.declared.modules.WModule.{WModule}
use Rattle.wasm_grammar.specs.Profile.{IsInProfile}
use Rattle.wasm_typing.specs.Contexts.{context_of}
use Rattle.wasm_typing.specs.Modules.{IsValid}
use Rattle.machine_steps.specs.Ending.{NeverStuck}
use Rattle.machine_steps.specs.Steps.{reached}
use Rattle.wasm_execution.specs.Configurations.{Config}
use Rattle.wasm_execution.specs.Environments.{environment_of}
use Rattle.wasm_execution.specs.Steps.{step}
use Rattle.wasm_execution.specs.Starts.{Begins, start_of}
use Rattle.wasm_execution.specs.Behaviour.{wasm}
use Rattle.wasm_machine_typing.specs.Configurations.{IsTypedEnvironment, IsTypedConfig}
use Rattle.wasm_machine_typing.specs.Laws.{IsWithinHeight}

-- what a module starts with, and what it looks up, are typed
pub record StartsTyped (m : WModule) (c : Config) : Type 0 where
  pub environment : IsTypedEnvironment (context_of m) (environment_of m)
  pub config : IsTypedConfig (context_of m) (environment_of m) c

abbrev pub ValidStartsTyped : Type 0
ValidStartsTyped = (m : WModule) (c : Config) → IsValid m → IsInProfile m → start_of m ≡ Begins c → StartsTyped m c

-- a valid module of the profile that starts is stuck after no number of steps
abbrev pub ValidNeverStuck : Type 0
ValidNeverStuck = (m : WModule) (c : Config) → IsValid m → IsInProfile m → start_of m ≡ Begins c → NeverStuck (wasm m)

-- at each configuration that it reaches the operands are within the height of the code of the function that runs
abbrev pub ValidStandsWithin : Type 0
ValidStandsWithin =
    (m : WModule) (c : Config) → IsValid m → IsInProfile m → start_of m ≡ Begins c → (n : ℕ) → IsWithinHeight (context_of m) (environment_of m) (reached (step (environment_of m)) n c).at
