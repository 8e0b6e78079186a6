-- The lowered module of a linked program. This project's own, in the terms of the WebAssembly Core Specification 1.0,
-- section 2.5.
use Rattle.std.specs.Prelude.{ℕ, zero, suc, ◌+◌, ◌-◌, ◌*◌, ◌≤◌, map, replicate, codes, List, [], ◌∷◌, ◌++◌, length, true, Some, None}
use Rattle.std.specs.Int.{to_le_bytes, w64}
use Rattle.wasm_ast.specs.declared.types.ValTy.TheVariants.{I32, I64}
use Rattle.wasm_ast.specs.declared.instructions.WInstr as w
use Rattle.wasm_ast.specs.declared.modules.ImportKind.TheVariants as import_kind
use Rattle.wasm_ast.specs.declared.modules.ExportKind.TheVariants as export_kind
use Rattle.wasm_ast.specs.declared.modules.Export.{Export}
use Rattle.wasm_ast.specs.declared.modules.WGlobal.{WGlobal}
use Rattle.wasm_ast.specs.declared.modules.WModule.{WModule}
use Rattle.rich_typing.specs.Kinds.{size}
use Rattle.rw_program.specs.declared.linked.LinkedGlobal.{LinkedGlobal}
use Rattle.rw_program.specs.Programs.{Program}
use Rattle.lowering_table.specs.declared.Pages.{Pages}
use Rattle.lowering_table.specs.Allocators.{Allocators, allocators}
use Rattle.lowering_table.specs.TypeUses.{type_index}
use Rattle.lowering_table.specs.Codes.{functions_before, low_function, main_code, result_words}
use Rattle.lowering_table.specs.Types.{print_type, alloc_type, start_type, low_type, low_types}

-- 1 to 512 pages of the linear part, and 0 to 512 of the unrestricted region
pub record ArePages (pages : Pages) : Type 0 where
  pub some : 1 ≤ pages.lin
  pub linear : pages.lin ≤ 512
  pub unrestricted : pages.unr ≤ 512

-- the pages of the memory at the start
abbrev pub first_pages : Pages → ℕ
first_pages pages = pages.lin + pages.unr

-- the pages of the memory at most
abbrev pub most_pages : Pages → ℕ
most_pages pages = pages.lin + pages.unr

-- the address at which the unrestricted region begins
abbrev pub region_start : Pages → ℕ
region_start pages = 65536 * pages.lin

-- the words of all globals together
abbrev pub global_words : List LinkedGlobal → ℕ
global_words [] = 0
global_words (g ∷ gs) = size [] g.ty + global_words gs

-- a global of 64 bits that can be set
abbrev pub word_global : ℕ → WGlobal
word_global n = record { ty = I64; mutable = true; init = w.I64Const n }

-- the trap code, the next address of the region, the result globals and the words of the program's globals
abbrev pub low_globals : Program → Pages → List WGlobal
low_globals p pages =
    record { ty = I32; mutable = true; init = w.I32Const 0 }
    ∷ word_global (region_start pages)
    ∷ replicate (result_words p.funcs + global_words p.globals) (word_global 0)

-- the Wasm function of the exported main
abbrev pub main_function : Program → ℕ
main_function p = functions_before + length p.funcs

-- `main`, `memory` and `trap_code`
abbrev pub low_exports : Program → List Export
low_exports p =
    record { name = codes "main"; kind = export_kind.Func; index = main_function p }
    ∷ record { name = codes "memory"; kind = export_kind.Memory; index = 0 }
    ∷ record { name = codes "trap_code"; kind = export_kind.Global; index = 0 }
    ∷ []

-- so many numbers from one on
abbrev pub counted : ℕ → ℕ → List ℕ
counted zero from = []
counted (suc n) from = from ∷ counted n (suc from)

-- the free list at the start: the head at byte 8 names the block at 24, whose header at byte 16 has its words
abbrev pub free_list_bytes : Pages → List ℕ
free_list_bytes pages = to_le_bytes w64 24 ++ to_le_bytes w64 (8192 * pages.lin - 3)

-- the lowered module, with these codes of the allocators
abbrev pub low_module_with : Allocators → Program → Pages → WModule
low_module_with codes_of p pages =
    let types = low_types p in
    record {
      types = types;
      imports = record { «module» = codes "rw"; name = codes "print"; what = import_kind.Func 0 } ∷ [];
      funcs = type_index alloc_type types ∷ type_index print_type types ∷ type_index alloc_type types
          ∷ (map (λ f. type_index (low_type f) types) p.funcs ++ type_index start_type types ∷ []);
      tables = record { min = length p.funcs; max = Some (length p.funcs) } ∷ [];
      memories = record { min = first_pages pages; max = Some (most_pages pages) } ∷ [];
      globals = low_globals p pages;
      exports = low_exports p;
      start = None;
      elements = record { table = 0; offset = w.I32Const 0; funcs = counted (length p.funcs) functions_before } ∷ [];
      codes = codes_of.alloc_lin ∷ codes_of.free_lin ∷ codes_of.alloc_unr ∷ (map low_function p.funcs ++ main_code p ∷ []);
      segments = record { memory = 0; offset = w.I32Const 8; bytes = free_list_bytes pages } ∷ [];
    }

-- the lowered module
abbrev pub low_module : Program → Pages → WModule
low_module p pages = low_module_with allocators p pages
