-- What holds of a state of a valid module that runs (this project's own).
use Rattle.std.specs.Prelude.{◌≡◌, ℕ, Option}
use Rattle.wasm_ast.specs.declared.modules.WModule.{WModule}
use Rattle.wasm_typing.specs.Contexts.{context_of}
use Rattle.wasm_execution.specs.Environments.{environment_of}
use Rattle.wasm_machine_typing.specs.Configurations.{IsTypedEnvironment, IsTypedConfig}
use Rattle.wasm_call_steps.specs.Callers.{AreCalls}
use Rattle.wasm_frames.specs.Frames.{rows}
use Rattle.wasm_run_state.specs.declared.state.State.{State}
use Rattle.wasm_run_state.specs.States.{config_of, IsRoomy}

-- a state of a module that runs: its configuration is typed, what its rows keep is there, and there is room for the code of each
-- call; the global that tells why `unreachable` was reached and the most pages of memory are what the module says
pub record IsRunning (m : WModule) (told_by : Option ℕ) (limit : ℕ) (s : State) : Type 0 where
  pub environment : IsTypedEnvironment (context_of m) (environment_of m)
  pub trap_code : (environment_of m).trap_code ≡ told_by
  pub most : (environment_of m).most_pages ≡ limit
  pub config : IsTypedConfig (context_of m) (environment_of m) (config_of s)
  pub calls : AreCalls (rows s.frames)
  pub room : IsRoomy (context_of m) (environment_of m) s.frames
