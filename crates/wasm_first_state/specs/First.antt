-- The first call of a module that runs (WebAssembly Core Specification 1.0, section 4.5.5).
use Rattle.std.specs.Prelude.{◌≡◌, ◌≤◌, []}
use Rattle.wasm_ast.specs.declared.modules.Code.{Code}
use Rattle.wasm_execution.specs.Calls.{entered}
use Rattle.wasm_execution.specs.Configurations.{Bottom, Store}
use Rattle.wasm_call_steps.specs.Callers.{AreCalls}
use Rattle.wasm_frames.specs.declared.calls.Called.{Called}
use Rattle.wasm_frames.specs.declared.frames.Frames.{Frames}
use Rattle.wasm_frames.specs.Frames.{rows, callers_now, config, HasCode}

-- the frames of a call of a function that takes nothing, for which no call waits
pub record IsFirst (f : Called) (after : Frames) : Type 0 where
  pub entered : (code : Code) → HasCode f code → (bottom : Bottom) (store : Store) → config after bottom store ≡ entered f.function code [] [] bottom store
  pub callers : callers_now after ≡ []
  pub calls : AreCalls (rows after)
  pub room : f.room ≤ after.values.room
