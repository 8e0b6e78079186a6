-- The productions of types (WebAssembly Core Specification 1.0, section 5.3).
use Rattle.std.specs.Prelude.{ℕ, Bool, List, Option, Some, None, option_to_list}
use Rattle.wasm_ast.specs.declared.types.ValTy.{ValTy}
use Rattle.wasm_ast.specs.declared.types.FuncType.{FuncType}
use Rattle.wasm_ast.specs.declared.types.Limits.{Limits}
use Rattle.wasm_grammar.specs.Tags.{value_type, mutability}
use Rattle.wasm_grammar.specs.GrammarValues.{◌followed_by◌, IsByte, IsUnsigned, IsVector}

-- a value type (5.3.1)
abbrev pub IsValueType : ValTy → List ℕ → Type 0
IsValueType t = IsByte (value_type t)

-- a function type: its parameters and its results, of which there is one at most (5.3.3)
abbrev pub IsFuncType : FuncType → List ℕ → Type 0
IsFuncType f = IsByte 0x60 followed_by IsVector IsValueType f.params followed_by IsVector IsValueType (option_to_list f.result)

-- a least size, and a greatest where there is one (5.3.4)
abbrev pub IsBounds : ℕ → Option ℕ → List ℕ → Type 0
IsBounds least None = IsByte 0x00 followed_by IsUnsigned least
IsBounds least (Some most) = IsByte 0x01 followed_by IsUnsigned least followed_by IsUnsigned most

-- limits (5.3.4), which are also a memory type (5.3.5)
abbrev pub IsLimits : Limits → List ℕ → Type 0
IsLimits l = IsBounds l.min l.max

-- a table type: functions, and limits (5.3.6)
abbrev pub IsTableType : Limits → List ℕ → Type 0
IsTableType l = IsByte 0x70 followed_by IsLimits l

-- a global type: a value type, and whether it may be written (5.3.7)
abbrev pub IsGlobalType : ValTy → Bool → List ℕ → Type 0
IsGlobalType t mutable = IsValueType t followed_by IsByte (mutability mutable)
