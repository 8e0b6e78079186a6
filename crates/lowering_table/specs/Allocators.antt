-- The codes of the three allocator functions; the module's definition takes them as an argument. This project's own.
use Rattle.std.specs.Prelude.{[], ◌∷◌}
use Rattle.wasm_ast.specs.declared.instructions.WInstr.{Unreachable}
use Rattle.wasm_ast.specs.declared.modules.Code.{Code}

-- functions 1, 2 and 3: a cell of the linear part, its release, and a cell of the unrestricted region
pub record Allocators : Type 0 where
  pub alloc_lin : Code
  pub free_lin : Code
  pub alloc_unr : Code

-- a function that is never called: nothing allocates yet
abbrev pub unreachable_code : Code
unreachable_code = record { locals = []; body = Unreachable ∷ [] }

abbrev pub allocators : Allocators
allocators = record { alloc_lin = unreachable_code; free_lin = unreachable_code; alloc_unr = unreachable_code }
