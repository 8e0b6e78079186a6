-- What the steps of a module look up in it (WebAssembly Core Specification 1.0, section 4.2).
use Rattle.std.specs.Prelude.{ℕ, min, Bool, true, false, ◌&&◌, nat_le, List, [], ◌∷◌, ◌++◌, Option, Some, None, codes, slice_get, if◌then◌else◌}
use Rattle.std.specs.Str.{bytes_eq}
use Rattle.wasm_ast.specs.declared.types.FuncType.{FuncType}
use Rattle.wasm_ast.specs.declared.types.Limits.{Limits}
use Rattle.wasm_ast.specs.declared.types.ValTy.TheVariants.{I32, I64}
use Rattle.wasm_ast.specs.declared.modules.Code.{Code}
use Rattle.wasm_ast.specs.declared.modules.Export.{Export}
use Rattle.wasm_ast.specs.declared.modules.ExportKind.{ExportKind}
use Rattle.wasm_ast.specs.declared.modules.ExportKind.TheVariants as export_kind
use Rattle.wasm_ast.specs.declared.modules.Import.{Import}
use Rattle.wasm_ast.specs.declared.modules.ImportKind.{ImportKind}
use Rattle.wasm_ast.specs.declared.modules.ImportKind.TheVariants as import_kind
use Rattle.wasm_ast.specs.declared.modules.WGlobal.{WGlobal}
use Rattle.wasm_ast.specs.declared.modules.WModule.{WModule}
use Rattle.wasm_execution.specs.Types.{takes_and_gives}
use Rattle.wasm_ast.specs.SameTypes.{is_same_type}

-- a function: its type, and its code where the host does not give it (4.2.6)
pub record Function : Type 0 where
  pub ty : FuncType
  pub code : Option Code

-- the types; the functions, each with its number, none where its type index is not there; the global that tells why
-- `unreachable` was reached, where there is one; the most pages that memory may grow to; and whether functions 1 to 3 have the
-- allocators' types
pub record Environment : Type 0 where
  pub types : List FuncType
  pub functions : List (Option Function)
  pub trap_code : Option ℕ
  pub most_pages : ℕ
  pub has_allocators : Bool

-- the function of this type index and code
abbrev pub function_with : List FuncType → ℕ → Option Code → Option Function
function_with types n code = elim (slice_get types n) [ None ↦ None | Some t ↦ Some (record { ty = t; code = code }) ]

abbrev pub imported : List FuncType → ImportKind → List (Option Function)
imported types (import_kind.Func n) = function_with types n None ∷ []
imported types _ = []

-- the functions that the host gives
abbrev pub imported_functions : List FuncType → List Import → List (Option Function)
imported_functions types [] = []
imported_functions types (i ∷ is) = imported types i.what ++ imported_functions types is

-- the functions of the module, by their type indices and codes
abbrev pub own_functions : List FuncType → List ℕ → List Code → List (Option Function)
own_functions types (n ∷ ns) (c ∷ cs) = function_with types n (Some c) ∷ own_functions types ns cs
own_functions types _ _ = []

-- the functions of a module, those of the host first (2.5.1)
abbrev pub functions_of : WModule → List (Option Function)
functions_of m = imported_functions m.types m.imports ++ own_functions m.types m.funcs m.codes

-- the function of this number
abbrev pub function_in : List (Option Function) → ℕ → Option Function
function_in fs n = elim (slice_get fs n) [ None ↦ None | Some f ↦ f ]

abbrev pub function_at : Environment → ℕ → Option Function
function_at e n = function_in e.functions n

abbrev pub is_global : ExportKind → Bool
is_global export_kind.Global = true
is_global _ = false

abbrev pub is_func : ExportKind → Bool
is_func export_kind.Func = true
is_func _ = false

-- the index that is exported under this name, as a thing of this kind
abbrev pub exported : (ExportKind → Bool) → List ℕ → List Export → Option ℕ
exported is_kind name [] = None
exported is_kind name (e ∷ es) = if is_kind e.kind then (if bytes_eq name e.name then Some e.index else exported is_kind name es) else exported is_kind name es

-- this global, where it is an i32
abbrev pub if_i32 : List WGlobal → ℕ → Option ℕ
if_i32 gs n = elim (slice_get gs n) [ None ↦ None | Some g ↦ elim g.ty [ I32 ↦ Some n | I64 ↦ None ] ]

-- the global that is exported as the i32 `trap_code`; a module that starts imports no global (this project's own)
abbrev pub trap_code_of : WModule → Option ℕ
trap_code_of m = elim (exported is_global (codes "trap_code") m.exports) [ None ↦ None | Some n ↦ if_i32 m.globals n ]

-- the lesser of the declared maximum and 1,024 pages (the limit is this project's own)
abbrev pub most_pages_of : List Limits → ℕ
most_pages_of [] = 0
most_pages_of (l ∷ ls) = elim l.max [ None ↦ 1024 | Some n ↦ min n 1024 ]

-- whether the function of this number has this type
abbrev pub has_type : List (Option Function) → FuncType → ℕ → Bool
has_type fs ty n = elim (function_in fs n) [ None ↦ false | Some f ↦ is_same_type f.ty ty ]

-- whether functions 1 to 3 take a size and give an address, take an address, and take a size and give an address (this
-- project's own)
abbrev pub have_allocators : List (Option Function) → Bool
have_allocators fs =
    has_type fs (takes_and_gives (I64 ∷ []) (Some I64)) 1 && (has_type fs (takes_and_gives (I64 ∷ []) None) 2 && has_type fs (takes_and_gives (I64 ∷ []) (Some I64)) 3)

abbrev pub environment_of : WModule → Environment
environment_of m = record {
  types = m.types;
  functions = functions_of m;
  trap_code = trap_code_of m;
  most_pages = most_pages_of m.memories;
  has_allocators = have_allocators (functions_of m);
}

-- whether a function is an allocator (this project's own)
abbrev pub is_allocator : Environment → ℕ → Bool
is_allocator e n = e.has_allocators && (nat_le 1 n && nat_le n 3)
