-- Types and their counts (WebAssembly Core Specification 1.0, section 2.3).
use Rattle.std.specs.Prelude.{ℕ, Bool, true, false, ◌&&◌, List, [], ◌∷◌, Option, Some, None}
use Rattle.wasm_operators.specs.declared.Width.{Width}
use Rattle.wasm_operators.specs.declared.Width.TheVariants.{W32, W64}
use Rattle.wasm_ast.specs.declared.types.FuncType.{FuncType}
use Rattle.wasm_ast.specs.declared.types.ValTy.{ValTy}
use Rattle.wasm_ast.specs.declared.types.ValTy.TheVariants.{I32, I64}

abbrev pub width_of : ValTy → Width
width_of I32 = W32
width_of I64 = W64

-- how many results a function or a list has
abbrev pub results_of : Option ValTy → ℕ
results_of None = 0
results_of (Some t) = 1

abbrev pub takes_and_gives : List ValTy → Option ValTy → FuncType
takes_and_gives params result = record { params = params; result = result }
