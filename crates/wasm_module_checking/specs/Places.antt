-- A violation by the numbers that code computed, and the type of a function (this project's own).
use Rattle.std.specs.Prelude.{◌≡◌, ℕ, Some, slice_get}
use Rattle.wasm_ast.specs.declared.types.FuncType.{FuncType}
use Rattle.wasm_ast.specs.declared.modules.WModule.{WModule}
use Rattle.wasm_typing.specs.declared.rule.WRule.{WRule}
use Rattle.wasm_module_checking.specs.declared.error.ValidateError.{ValidateError}
use Rattle.wasm_module_checking.specs.declared.error.ValidateError.TheVariants.{Invalid, Memory}

-- this violation, or want of memory
abbrev pub IsInvalidAt : ℕ → ℕ → WRule → ValidateError → Type 0
IsInvalidAt func at rule (Invalid f a r) = (f ≡ Some func) × (a ≡ at) × (r ≡ rule)
IsInvalidAt func at rule Memory = Unit {0}

-- the function with this number has this type
pub record HasType (m : WModule) (k : ℕ) (f : FuncType) : Type 0 where
  pub index : ℕ
  pub listed : slice_get m.funcs k ≡ Some index
  pub typed : slice_get m.types index ≡ Some f
