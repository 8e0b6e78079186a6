-- Under what the codes are typed (WebAssembly Core Specification 1.0, section 3.4.1).
use Rattle.std.specs.Prelude.{◌≡◌, ◌<◌, [], ◌∷◌, true, Some, None, slice_get}
use Rattle.wasm_ast.specs.declared.types.FuncType.{FuncType}
use Rattle.wasm_ast.specs.declared.types.ValTy.TheVariants.{I32, I64}
use Rattle.wasm_ast.specs.declared.modules.Code.{Code}
use Rattle.wasm_typing.specs.declared.context.Context.{Context}
use Rattle.wasm_typing.specs.Contexts.{body_context}
use Rattle.wasm_typing.specs.Typing.{IsTypedBody}
use Rattle.allocator_codes.specs.Codes.{alloc_lin_code, free_lin_code, alloc_unr_code}

-- functions 1 and 3 take a size and give an address, function 2 takes an address
abbrev pub alloc_type : FuncType
alloc_type = record { params = I64 ∷ []; result = Some I64 }

abbrev pub free_type : FuncType
free_type = record { params = I64 ∷ []; result = None }

-- a module with a memory, whose first two globals are an i32 and an i64 that can be set
pub record HasHeap (C : Context) : Type 0 where
  pub memory : 0 < C.memories
  pub trap_code : slice_get C.globals 0 ≡ Some (record { ty = I32; mutable = true })
  pub next : slice_get C.globals 1 ≡ Some (record { ty = I64; mutable = true })

-- the body of a function of this type and code is typed
abbrev pub IsTypedCode : Context → FuncType → Code → Type 0
IsTypedCode C ty code = IsTypedBody (body_context C ty code) code.body

-- the three codes are typed in any such module
pub record CodesAreTyped (C : Context) : Type 0 where
  pub alloc_lin : IsTypedCode C alloc_type alloc_lin_code
  pub free_lin : IsTypedCode C free_type free_lin_code
  pub alloc_unr : IsTypedCode C alloc_type alloc_unr_code
