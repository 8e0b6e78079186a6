-- The heights of the codes of a valid module (this project's own).
use Rattle.std.specs.Prelude.{◌≡◌, ℕ, ◌<◌, List, length, slice_index}
use Rattle.wasm_ast.specs.declared.modules.Code.{Code}
use Rattle.wasm_ast.specs.declared.modules.WModule.{WModule}
use Rattle.wasm_typing.specs.declared.context.Context.{Context}
use Rattle.wasm_typing.specs.Heights.{height_of}
use Rattle.wasm_typing.specs.Modules.{HasBody}
use Rattle.wasm_typing.specs.Points.{IsHeight}

-- the code with this number, under its context, has this height, which is the greatest number of operands at a point of it
pub record HasHeight (m : WModule) (k height : ℕ) : Type 0 where
  pub C : Context
  pub code : Code
  pub body : HasBody m k C code
  pub is : height ≡ height_of C code.body
  pub greatest : IsHeight C code.body height

-- a height for each code
pub record AreHeights (m : WModule) (heights : List ℕ) : Type 0 where
  pub count : length heights ≡ length m.codes
  pub each : (k : ℕ) → k < length m.codes → HasHeight m k (slice_index heights k)
