-- What instructions are typed under (WebAssembly Core Specification 1.0, section 3.1.1). Labels stand apart.
use Rattle.std.specs.Prelude.{ℕ, List, [], ◌∷◌, ◌++◌, None, ◌+◌, length, map, replicate, flat_map, slice_get, option_to_list}
use Rattle.wasm_ast.specs.declared.types.FuncType.{FuncType}
use Rattle.wasm_ast.specs.declared.types.ValTy.{ValTy}
use Rattle.wasm_ast.specs.declared.modules.Code.{Code}
use Rattle.wasm_ast.specs.declared.modules.Import.{Import}
use Rattle.wasm_ast.specs.declared.modules.ImportKind.{ImportKind}
use Rattle.wasm_ast.specs.declared.modules.ImportKind.TheVariants.{Func, Table, Memory, Global}
use Rattle.wasm_ast.specs.declared.modules.LocalRun.{LocalRun}
use Rattle.wasm_ast.specs.declared.modules.WGlobal.{WGlobal}
use Rattle.wasm_ast.specs.declared.modules.WModule.{WModule}
use Rattle.wasm_typing.specs.declared.context.Context.{Context}
use Rattle.wasm_typing.specs.declared.context.GlobalType.{GlobalType}

-- the type of an imported function, where its index is there
abbrev pub function_type : List FuncType → ImportKind → List FuncType
function_type types (Func n) = option_to_list (slice_get types n)
function_type types _ = []

abbrev pub table_count : ImportKind → ℕ
table_count (Table l) = 1
table_count _ = 0

abbrev pub memory_count : ImportKind → ℕ
memory_count (Memory l) = 1
memory_count _ = 0

abbrev pub global_type : ImportKind → List GlobalType
global_type (Global t mutable) = record { ty = t; mutable = mutable } ∷ []
global_type _ = []

-- how many tables are imported
abbrev pub imported_tables : List Import → ℕ
imported_tables [] = 0
imported_tables (i ∷ is) = table_count i.what + imported_tables is

-- how many memories are imported
abbrev pub imported_memories : List Import → ℕ
imported_memories [] = 0
imported_memories (i ∷ is) = memory_count i.what + imported_memories is

-- the types of the globals that are imported
abbrev pub imported_globals : List Import → List GlobalType
imported_globals imports = flat_map (λ (i : Import). global_type i.what) imports

abbrev pub imported_functions : List FuncType → List Import → List FuncType
imported_functions types imports = flat_map (λ (i : Import). function_type types i.what) imports

abbrev pub type_of_global : WGlobal → GlobalType
type_of_global g = record { ty = g.ty; mutable = g.mutable }

-- of a module, for what stands outside its functions (3.4.10)
abbrev pub context_of : WModule → Context
context_of m = record {
  types = m.types;
  functions = imported_functions m.types m.imports ++ flat_map (λ n. option_to_list (slice_get m.types n)) m.funcs;
  tables = imported_tables m.imports + length m.tables;
  memories = imported_memories m.imports + length m.memories;
  globals = imported_globals m.imports ++ map type_of_global m.globals;
  locals = [];
  result = None;
}

-- the locals that some runs declare
abbrev pub declared_locals : List LocalRun → List ValTy
declared_locals runs = flat_map (λ (r : LocalRun). replicate r.count r.ty) runs

-- of the body of a function of this type (3.4.1)
abbrev pub body_context : Context → FuncType → Code → Context
body_context C f code = record C { locals = f.params ++ declared_locals code.locals; result = f.result }
