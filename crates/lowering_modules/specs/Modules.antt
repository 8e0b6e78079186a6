-- The lowered module of a linked program. This project's own, in the terms of the WebAssembly Core Specification 1.0, section 2.5.
use Rattle.std.specs.Prelude.{ℕ, ◌+◌, map, replicate, codes, List, [], ◌∷◌, ◌++◌, length, true, Some, None}
use Rattle.wasm_ast.specs.declared.types.ValTy.TheVariants.{I32}
use Rattle.wasm_ast.specs.declared.instructions.WInstr as w
use Rattle.wasm_ast.specs.declared.modules.ImportKind.TheVariants as import_kind
use Rattle.wasm_ast.specs.declared.modules.Code.{Code}
use Rattle.wasm_ast.specs.declared.modules.WGlobal.{WGlobal}
use Rattle.wasm_ast.specs.declared.modules.WModule.{WModule}
use Rattle.rw_program.specs.declared.linked.LinkedFunc.{LinkedFunc}
use Rattle.rw_program.specs.Programs.{Program}
use Rattle.layout.specs.Limits.{functions_before, globals_words, greatest_result}
use Rattle.lowering_table.specs.declared.Pages.{Pages}
use Rattle.lowering_table.specs.Allocators.{Allocators}
use Rattle.lowering_table.specs.TypeUses.{type_index}
use Rattle.lowering_table.specs.Types.{alloc_type, start_type}
use Rattle.lowering_table.specs.Modules.{counted, first_pages, free_list_bytes, low_exports, most_pages, region_start, word_global}
use Rattle.lowering_rows.specs.Functions.{function_code, start_code}
use Rattle.lowering_rows_typed.specs.Contexts.{taking_words}
use Rattle.lowering_modules.specs.Types.{function_type, index_of_words, module_types}

-- the type indices of the module's own functions: the allocators, the linked functions and the exported main
abbrev pub module_functions : Program → List ℕ
module_functions p =
    let types = module_types p in
    type_index alloc_type types ∷ type_index (taking_words 1) types ∷ type_index alloc_type types
    ∷ (map (λ (f : LinkedFunc). type_index (function_type f) types) p.funcs ++ type_index start_type types ∷ [])

-- the trap code, the next address of the region, the result globals and the words of the program's globals
abbrev pub module_globals : Program → Pages → List WGlobal
module_globals p pages =
    record { ty = I32; mutable = true; init = w.I32Const 0 }
    ∷ word_global (region_start pages)
    ∷ replicate (greatest_result p.funcs + globals_words p.globals) (word_global 0)

-- the codes: those of the allocators, of the linked functions and of the exported main
abbrev pub module_codes : Allocators → Program → List Code
module_codes codes_of p =
    codes_of.alloc_lin ∷ codes_of.free_lin ∷ codes_of.alloc_unr ∷ (map (function_code p (index_of_words p)) p.funcs ++ start_code p (index_of_words p) ∷ [])

-- the lowered module, with these codes of the allocators
abbrev pub lowered_module : Allocators → Program → Pages → WModule
lowered_module codes_of p pages = record {
  types = module_types p;
  imports = record { «module» = codes "rw"; name = codes "print"; what = import_kind.Func 0 } ∷ [];
  funcs = module_functions p;
  tables = record { min = length p.funcs; max = Some (length p.funcs) } ∷ [];
  memories = record { min = first_pages pages; max = Some (most_pages pages) } ∷ [];
  globals = module_globals p pages;
  exports = low_exports p;
  start = None;
  elements = record { table = 0; offset = w.I32Const 0; funcs = counted (length p.funcs) functions_before } ∷ [];
  codes = module_codes codes_of p;
  segments = record { memory = 0; offset = w.I32Const 8; bytes = free_list_bytes pages } ∷ [];
}
