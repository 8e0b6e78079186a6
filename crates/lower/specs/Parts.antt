-- The sections of the lowered module of a program of one function without parameters that gives one word. This
-- project's own.
use Rattle.std.specs.Prelude.{List, [], ◌∷◌, codes, true, Some, None}
use Rattle.wasm_ast.specs.declared.types.ValTy.TheVariants.{I32}
use Rattle.wasm_ast.specs.declared.types.FuncType.{FuncType}
use Rattle.wasm_ast.specs.declared.types.Limits.{Limits}
use Rattle.wasm_ast.specs.declared.instructions.WInstr.{I32Const}
use Rattle.wasm_ast.specs.declared.modules.Import.{Import}
use Rattle.wasm_ast.specs.declared.modules.Export.{Export}
use Rattle.wasm_ast.specs.declared.modules.ElemSeg.{ElemSeg}
use Rattle.wasm_ast.specs.declared.modules.DataSeg.{DataSeg}
use Rattle.wasm_ast.specs.declared.modules.WGlobal.{WGlobal}
use Rattle.wasm_ast.specs.declared.modules.ImportKind.TheVariants as import_kind
use Rattle.wasm_ast.specs.declared.modules.ExportKind.TheVariants as export_kind
use Rattle.lowering_table.specs.declared.Pages.{Pages}
use Rattle.lowering_table.specs.Types.{print_type, alloc_type, start_type}
use Rattle.lowering_table.specs.Modules.{word_global, region_start, first_pages, most_pages, free_list_bytes}

abbrev pub lone_types : List FuncType
lone_types = print_type ∷ alloc_type ∷ record { params = []; result = None } ∷ start_type ∷ []

abbrev pub lone_imports : List Import
lone_imports = record { «module» = codes "rw"; name = codes "print"; what = import_kind.Func 0 } ∷ []

abbrev pub lone_memories : Pages → List Limits
lone_memories pages = record { min = first_pages pages; max = Some (most_pages pages) } ∷ []

abbrev pub lone_globals : Pages → List WGlobal
lone_globals pages = record { ty = I32; mutable = true; init = I32Const 0 } ∷ word_global (region_start pages) ∷ word_global 0 ∷ []

abbrev pub lone_exports : List Export
lone_exports =
    record { name = codes "main"; kind = export_kind.Func; index = 5 }
    ∷ record { name = codes "memory"; kind = export_kind.Memory; index = 0 }
    ∷ record { name = codes "trap_code"; kind = export_kind.Global; index = 0 }
    ∷ []

abbrev pub lone_elements : List ElemSeg
lone_elements = record { table = 0; offset = I32Const 0; funcs = 4 ∷ [] } ∷ []

abbrev pub lone_segments : Pages → List DataSeg
lone_segments pages = record { memory = 0; offset = I32Const 8; bytes = free_list_bytes pages } ∷ []
