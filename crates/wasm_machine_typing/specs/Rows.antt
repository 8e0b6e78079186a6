-- A module whose first configuration is typed (this project's own row).
use Rattle.std.specs.Prelude.{[], ◌∷◌}
use Rattle.wasm_ast.specs.declared.instructions.WInstr as w
use Rattle.wasm_ast.specs.declared.modules.Code.{Code}
use Rattle.wasm_typing.specs.Contexts.{context_of}
use Rattle.wasm_execution.specs.Configurations.{TheEnd}
use Rattle.wasm_execution.specs.Environments.{environment_of}
use Rattle.wasm_execution.specs.Starts.{first_store}
use Rattle.wasm_execution.specs.Calls.{entered}
use Rattle.wasm_execution.specs.ControlRows.{alone}
use Rattle.wasm_machine_typing.specs.Configurations.{IsTypedEnvironment, IsTypedConfig}

-- the code of the one function of `alone`, which gives 6
abbrev pub main_code : Code
main_code = record { locals = []; body = w.I64Const 6 ∷ [] }

pub record FirstIsTyped : Type 0 where
  pub environment : IsTypedEnvironment (context_of alone) (environment_of alone)
  pub config : IsTypedConfig (context_of alone) (environment_of alone) (entered 0 main_code [] [] TheEnd (first_store alone))
