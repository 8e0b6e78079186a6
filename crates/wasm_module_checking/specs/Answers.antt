-- What an error tells of a module (this project's own).
use Rattle.std.specs.Prelude.{◌≡◌, ℕ, ◌+◌, Option, Some, None, Result, Ok, Err, ⊤}
use Rattle.wasm_ast.specs.declared.modules.Code.{Code}
use Rattle.wasm_ast.specs.declared.modules.WModule.{WModule}
use Rattle.wasm_typing.specs.declared.rule.WRule.{WRule}
use Rattle.wasm_typing.specs.declared.context.Context.{Context}
use Rattle.wasm_typing.specs.Typing.{IsTypedBody}
use Rattle.wasm_typing.specs.Violations.{IsFirstViolation}
use Rattle.wasm_typing.specs.Modules.{Fault, FirstViolation, HasBody, function_imports}
use Rattle.wasm_module_checking.specs.Heights.{HasHeight}
use Rattle.wasm_module_checking.specs.declared.error.ValidateError.{ValidateError}
use Rattle.wasm_module_checking.specs.declared.error.ValidateError.TheVariants.{Invalid, Memory}

-- the first violation; want of memory alone tells nothing
abbrev pub TellsFirst : WModule → ValidateError → Type 0
TellsFirst m (Invalid func at rule) = FirstViolation m (record { func = func; at = at; rule = rule })
TellsFirst m Memory = Unit {0}

-- whether there is a fault outside function bodies, and which
abbrev pub TellsOutside : Option Fault → Result ⊤ ValidateError → Type 0
TellsOutside first (Ok _) = first ≡ None
TellsOutside first (Err (Invalid None at rule)) = first ≡ Some (record { at = at; rule = rule })
TellsOutside first (Err (Invalid (Some f) at rule)) = ⊥
TellsOutside first (Err Memory) = Unit {0}

-- the body with this number is where this violation is
pub record BreaksBody (m : WModule) (k : ℕ) (func : Option ℕ) (at : ℕ) (rule : WRule) : Type 0 where
  pub C : Context
  pub code : Code
  pub body : HasBody m k C code
  pub violation : IsFirstViolation C code.body at rule
  pub number : func ≡ Some (function_imports m + k)

abbrev pub TellsBody : WModule → ℕ → ValidateError → Type 0
TellsBody m k (Invalid func at rule) = BreaksBody m k func at rule
TellsBody m k Memory = Unit {0}

-- the body with this number is typed, and has this height
pub record IsChecked (m : WModule) (k n : ℕ) : Type 0 where
  pub typed : (C : Context) (code : Code) → HasBody m k C code → IsTypedBody C code.body
  pub height : HasHeight m k n

-- the context of a module, whatever the locals and the result of the function that is typed
abbrev pub IsContextOf : Context → Context → Type 0
IsContextOf c C = c ≡ record C { locals = c.locals; result = c.result }
