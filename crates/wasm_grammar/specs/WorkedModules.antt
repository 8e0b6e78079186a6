-- Two modules and their canonical bytes, written out (this project's own rows).
use Rattle.std.specs.Prelude.{ℕ, List, [], ◌∷◌, ◌++◌, Some, None}
use Rattle.wasm_ast.specs.declared.types.ValTy.TheVariants.{I64}
use Rattle.wasm_ast.specs.declared.types.FuncType.{FuncType}
use Rattle.wasm_ast.specs.declared.instructions.WInstr.{I64Const}
use Rattle.wasm_ast.specs.declared.modules.Code.{Code}
use Rattle.wasm_ast.specs.declared.modules.Export.{Export}
use Rattle.wasm_ast.specs.declared.modules.ExportKind.TheVariants.{Func}
use Rattle.wasm_ast.specs.declared.modules.WModule.{WModule}

-- the module without entries
abbrev pub empty_module : WModule
empty_module = record {
  types = [];
  imports = [];
  funcs = [];
  tables = [];
  memories = [];
  globals = [];
  exports = [];
  start = None;
  elements = [];
  codes = [];
  segments = [];
}

-- its bytes: the preamble
abbrev pub empty_module_bytes : List ℕ
empty_module_bytes = 0x00 ∷ 0x61 ∷ 0x73 ∷ 0x6D ∷ 0x01 ∷ 0x00 ∷ 0x00 ∷ 0x00 ∷ []

-- the type of no parameters and one i64
abbrev pub gives_i64 : FuncType
gives_i64 = record { params = []; result = Some I64 }

-- i64.const 6
abbrev pub six : Code
six = record { locals = []; body = I64Const 6 ∷ [] }

-- function 0 as `main`
abbrev pub main_export : Export
main_export = record { name = 0x6D ∷ 0x61 ∷ 0x69 ∷ 0x6E ∷ []; kind = Func; index = 0 }

-- a module whose `main` gives 6
abbrev pub six_module : WModule
six_module = record empty_module {
  types = gives_i64 ∷ [];
  funcs = 0 ∷ [];
  exports = main_export ∷ [];
  codes = six ∷ [];
}

-- its bytes: the preamble, and the type, function, export and code sections
abbrev pub six_module_bytes : List ℕ
six_module_bytes =
    empty_module_bytes
    ++ (0x01 ∷ 0x05 ∷ 0x01 ∷ 0x60 ∷ 0x00 ∷ 0x01 ∷ 0x7E ∷ 0x03 ∷ 0x02 ∷ 0x01 ∷ 0x00 ∷ 0x07 ∷ 0x08 ∷ 0x01 ∷ 0x04 ∷ 0x6D ∷ 0x61 ∷ 0x69 ∷ 0x6E ∷ 0x00 ∷ 0x00 ∷ 0x0A ∷ 0x06 ∷ 0x01 ∷ 0x04 ∷ 0x00 ∷ 0x42 ∷ 0x06 ∷ 0x0B ∷ [])
