-- A module with a section of each kind, and its canonical bytes, written out
-- (this project's own row; WebAssembly Core Specification 1.0, section 5.5).
use Rattle.std.specs.Prelude.{ℕ, List, [], ◌∷◌, ◌++◌, true, false, None, Some}
use Rattle.wasm_ast.specs.declared.types.ValTy.TheVariants.{I32, I64}
use Rattle.wasm_ast.specs.declared.types.FuncType.{FuncType}
use Rattle.wasm_ast.specs.declared.types.Limits.{Limits}
use Rattle.wasm_ast.specs.declared.instructions.WInstr.{If, IfElse, LocalGet, I32Const, I64Const, GlobalGet}
use Rattle.wasm_ast.specs.declared.modules.Code.{Code}
use Rattle.wasm_ast.specs.declared.modules.DataSeg.{DataSeg}
use Rattle.wasm_ast.specs.declared.modules.ElemSeg.{ElemSeg}
use Rattle.wasm_ast.specs.declared.modules.Export.{Export}
use Rattle.wasm_ast.specs.declared.modules.ExportKind.TheVariants.{Memory}
use Rattle.wasm_ast.specs.declared.modules.Import.{Import}
use Rattle.wasm_ast.specs.declared.modules.ImportKind.TheVariants.{Global}
use Rattle.wasm_ast.specs.declared.modules.WGlobal.{WGlobal}
use Rattle.wasm_ast.specs.declared.modules.WModule.{WModule}
use Rattle.wasm_grammar.specs.WorkedModules.{empty_module_bytes}

-- no parameter and no result
abbrev pub no_values : FuncType
no_values = record { params = []; result = None }

-- `a.b`, a constant i32
abbrev pub imported_global : Import
imported_global = record { «module» = 0x61 ∷ []; name = 0x62 ∷ []; what = Global I32 false }

-- one entry, and no more than 200
abbrev pub small_table : Limits
small_table = record { min = 1; max = Some 200 }

-- one page
abbrev pub small_memory : Limits
small_memory = record { min = 1; max = None }

-- a variable i64, at first -1
abbrev pub counter : WGlobal
counter = record { ty = I64; mutable = true; init = I64Const 0xFFFFFFFFFFFFFFFF }

-- memory 0 as `m`
abbrev pub memory_export : Export
memory_export = record { name = 0x6D ∷ []; kind = Memory; index = 0 }

-- function 0 at the place that the imported global gives
abbrev pub function_element : ElemSeg
function_element = record { table = 0; offset = GlobalGet 0; funcs = 0 ∷ [] }

-- two i32 locals; an if without `else`, and one with an empty `else`
abbrev pub two_ifs : Code
two_ifs = record {
  locals = record { count = 2; ty = I32 } ∷ [];
  body = LocalGet 0 ∷ If None [] ∷ LocalGet 1 ∷ IfElse None [] [] ∷ [];
}

-- two bytes at 64
abbrev pub two_bytes : DataSeg
two_bytes = record { memory = 0; offset = I32Const 64; bytes = 0x2A ∷ 0xFF ∷ [] }

-- the module
abbrev pub full_module : WModule
full_module = record {
  types = no_values ∷ [];
  imports = imported_global ∷ [];
  funcs = 0 ∷ [];
  tables = small_table ∷ [];
  memories = small_memory ∷ [];
  globals = counter ∷ [];
  exports = memory_export ∷ [];
  start = Some 0;
  elements = function_element ∷ [];
  codes = two_ifs ∷ [];
  segments = two_bytes ∷ [];
}

-- its sections in the order of their ids
abbrev pub full_types : List ℕ
full_types = 0x01 ∷ 0x04 ∷ 0x01 ∷ 0x60 ∷ 0x00 ∷ 0x00 ∷ []

abbrev pub full_imports : List ℕ
full_imports = 0x02 ∷ 0x08 ∷ 0x01 ∷ 0x01 ∷ 0x61 ∷ 0x01 ∷ 0x62 ∷ 0x03 ∷ 0x7F ∷ 0x00 ∷ []

abbrev pub full_functions : List ℕ
full_functions = 0x03 ∷ 0x02 ∷ 0x01 ∷ 0x00 ∷ []

abbrev pub full_tables : List ℕ
full_tables = 0x04 ∷ 0x06 ∷ 0x01 ∷ 0x70 ∷ 0x01 ∷ 0x01 ∷ 0xC8 ∷ 0x01 ∷ []

abbrev pub full_memories : List ℕ
full_memories = 0x05 ∷ 0x03 ∷ 0x01 ∷ 0x00 ∷ 0x01 ∷ []

abbrev pub full_globals : List ℕ
full_globals = 0x06 ∷ 0x06 ∷ 0x01 ∷ 0x7E ∷ 0x01 ∷ 0x42 ∷ 0x7F ∷ 0x0B ∷ []

abbrev pub full_exports : List ℕ
full_exports = 0x07 ∷ 0x05 ∷ 0x01 ∷ 0x01 ∷ 0x6D ∷ 0x02 ∷ 0x00 ∷ []

abbrev pub full_start : List ℕ
full_start = 0x08 ∷ 0x01 ∷ 0x00 ∷ []

abbrev pub full_elements : List ℕ
full_elements = 0x09 ∷ 0x07 ∷ 0x01 ∷ 0x00 ∷ 0x23 ∷ 0x00 ∷ 0x0B ∷ 0x01 ∷ 0x00 ∷ []

abbrev pub full_codes : List ℕ
full_codes =
    0x0A ∷ 0x11 ∷ 0x01 ∷ 0x0F ∷ 0x01 ∷ 0x02 ∷ 0x7F ∷ 0x20 ∷ 0x00 ∷ 0x04 ∷ 0x40 ∷ 0x0B ∷ 0x20 ∷ 0x01 ∷ 0x04 ∷ 0x40 ∷ 0x05 ∷ 0x0B ∷ 0x0B ∷ []

abbrev pub full_segments : List ℕ
full_segments = 0x0B ∷ 0x09 ∷ 0x01 ∷ 0x00 ∷ 0x41 ∷ 0xC0 ∷ 0x00 ∷ 0x0B ∷ 0x02 ∷ 0x2A ∷ 0xFF ∷ []

-- its canonical bytes
abbrev pub full_module_bytes : List ℕ
full_module_bytes =
    empty_module_bytes
    ++ (full_types
    ++ (full_imports
    ++ (full_functions
    ++ (full_tables
    ++ (full_memories
    ++ (full_globals
    ++ (full_exports
    ++ (full_start
    ++ (full_elements
    ++ (full_codes
    ++ full_segments))))))))))
