-- What is seen of a module that runs (this project's own).
use Rattle.std.specs.Prelude.{ℕ, []}
use Rattle.wasm_ast.specs.declared.modules.WModule.{WModule}
use Rattle.machine_steps.specs.Steps.{Stuck, reached}
use Rattle.machine_steps.specs.Agreement.{Seen, seen}
use Rattle.wasm_execution.specs.Configurations.{prints}
use Rattle.wasm_execution.specs.Environments.{environment_of}
use Rattle.wasm_execution.specs.Steps.{step}
use Rattle.wasm_execution.specs.Starts.{Start, Begins, start_of}

-- after so many steps of a module that starts so; one that does not start is stuck
abbrev pub seen_from : WModule → ℕ → Start → Seen
seen_from m n (Begins c) = seen prints (reached (step (environment_of m)) n c)
seen_from m n _ = record { printed = []; stand = Stuck }

-- after so many steps of a module
abbrev pub wasm : WModule → ℕ → Seen
wasm m n = seen_from m n (start_of m)
