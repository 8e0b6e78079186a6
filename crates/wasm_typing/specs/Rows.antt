-- Rows of heights, and of faults outside function bodies (this project's own).
use Rattle.std.specs.Prelude.{◌≡◌, ℕ, List, [], ◌∷◌, None, Some, true, codes}
use Rattle.wasm_ast.specs.declared.types.ValTy.TheVariants.{I64}
use Rattle.wasm_ast.specs.declared.instructions.WInstr as w
use Rattle.wasm_ast.specs.declared.modules.ExportKind.TheVariants as export_kind
use Rattle.wasm_ast.specs.declared.modules.ImportKind.TheVariants as import_kind
use Rattle.wasm_ast.specs.declared.modules.ImportKind.{ImportKind}
use Rattle.wasm_ast.specs.declared.modules.ExportKind.{ExportKind}
use Rattle.wasm_ast.specs.declared.modules.Export.{Export}
use Rattle.wasm_ast.specs.declared.modules.WGlobal.{WGlobal}
use Rattle.wasm_ast.specs.declared.types.Limits.{Limits}
use Rattle.wasm_ast.specs.declared.modules.WModule.{WModule}
use Rattle.wasm_typing.specs.declared.rule.WRule.{WRule}
use Rattle.wasm_typing.specs.declared.rule.WRule.TheVariants.{TypeIndex, FuncIndex, TableIndex, MemoryIndex, GlobalIndex, ManyTables, ManyMemories, LimitsOrder, ConstExpr, EndOperands, DuplicateExport, StartType}
use Rattle.wasm_typing.specs.declared.context.Context.{Context}
use Rattle.wasm_typing.specs.Heights.{height_of}
use Rattle.wasm_typing.specs.Modules.{fault_before_codes, fault_behind_codes}

-- a function that gives one number of 64 bits, in a module without anything else
abbrev pub lone_context : Context
lone_context = record { types = []; functions = []; tables = 0; memories = 0; globals = []; locals = []; result = Some I64 }

pub record WorkedHeights : Type 0 where
  -- two constants, an addition
  pub two : height_of lone_context (w.I64Const 6 ∷ w.I64Const 2 ∷ w.I64Add ∷ []) ≡ 2
  -- what follows `unreachable` does not count
  pub dead : height_of lone_context (w.Unreachable ∷ w.I64Const 6 ∷ w.I64Const 2 ∷ []) ≡ 0
  -- what follows a block does, also where its list is dead
  pub behind : height_of lone_context (w.I64Const 6 ∷ w.Block None (w.Br 0 ∷ w.I64Const 2 ∷ w.I64Const 6 ∷ []) ∷ w.I64Const 2 ∷ []) ≡ 2

-- a module of nothing
abbrev pub empty_module : WModule
empty_module = record { types = []; imports = []; funcs = []; tables = []; memories = []; globals = []; exports = []; start = None; elements = []; codes = []; segments = [] }

-- the first entry that breaks a rule before the code section
abbrev pub Breaks : WModule → ℕ → WRule → Type 0
Breaks m at rule = fault_before_codes m ≡ Some (record { at = at; rule = rule })

abbrev pub importing : ImportKind → WModule
importing what = record empty_module { imports = record { «module» = codes "a"; name = codes "b"; what = what } ∷ [] }

-- one page at least, and no most
abbrev pub one_page : Limits
one_page = record { min = 1; max = None }

abbrev pub exporting : ExportKind → List ℕ → Export
exporting kind name = record { name = name; kind = kind; index = 0 }

abbrev pub initialised : w.WInstr → WGlobal
initialised init = record { ty = I64; mutable = true; init = init }

-- a type of nothing to one number of 64 bits, and a function of that type
abbrev pub giving : WModule
giving = record empty_module {
  types = record { params = []; result = Some I64 } ∷ [];
  funcs = 0 ∷ [];
  codes = record { locals = []; body = w.I64Const 6 ∷ [] } ∷ [];
}

-- each rule that stands outside function bodies, broken once
pub record WorkedFaults : Type 0 where
  pub none : fault_before_codes (record giving { exports = exporting export_kind.Func (codes "main") ∷ [] }) ≡ None
  pub imported_type : Breaks (importing (import_kind.Func 0)) 0 TypeIndex
  pub type_index : Breaks (record giving { funcs = 0 ∷ 1 ∷ [] }) 1 TypeIndex
  pub second_memory : Breaks (record (importing (import_kind.Memory one_page)) { memories = one_page ∷ [] }) 0 ManyMemories
  pub second_table : Breaks (record empty_module { tables = one_page ∷ one_page ∷ [] }) 1 ManyTables
  pub unordered : Breaks (record empty_module { tables = record { min = 2; max = Some 1 } ∷ [] }) 0 LimitsOrder
  pub too_many_pages : Breaks (record empty_module { memories = record { min = 1; max = Some 65537 } ∷ [] }) 0 LimitsOrder
  pub own_global_in_initial_value : Breaks (record empty_module { globals = initialised (w.I64Const 0) ∷ initialised (w.GlobalGet 0) ∷ [] }) 1 GlobalIndex
  pub set_global_in_initial_value : Breaks (record (importing (import_kind.Global I64 true)) { globals = initialised (w.GlobalGet 0) ∷ [] }) 0 ConstExpr
  pub wide_initial_value : Breaks (record empty_module { globals = initialised (w.I32Const 0) ∷ [] }) 0 EndOperands
  pub exported_function : Breaks (record empty_module { exports = exporting export_kind.Func (codes "f") ∷ [] }) 0 FuncIndex
  pub exported_table : Breaks (record empty_module { exports = exporting export_kind.Table (codes "f") ∷ [] }) 0 TableIndex
  pub exported_memory : Breaks (record empty_module { exports = exporting export_kind.Memory (codes "f") ∷ [] }) 0 MemoryIndex
  pub exported_twice : Breaks (record giving { exports = exporting export_kind.Func (codes "f") ∷ exporting export_kind.Func (codes "f") ∷ [] }) 1 DuplicateExport
  pub start_is_there : Breaks (record empty_module { start = Some 0 }) 0 FuncIndex
  pub start_gives : Breaks (record giving { start = Some 0 }) 0 StartType
  pub element_table : Breaks (record empty_module { elements = record { table = 0; offset = w.I32Const 0; funcs = [] } ∷ [] }) 0 TableIndex
  pub element_function : Breaks (record empty_module { tables = one_page ∷ []; elements = record { table = 0; offset = w.I64Const 0; funcs = 0 ∷ [] } ∷ [] }) 0 FuncIndex
  pub wide_offset : Breaks (record empty_module { tables = one_page ∷ []; elements = record { table = 0; offset = w.I64Const 0; funcs = [] } ∷ [] }) 0 EndOperands
  pub segment_memory : fault_behind_codes (record empty_module { segments = record { memory = 0; offset = w.I32Const 0; bytes = [] } ∷ [] }) ≡ Some (record { at = 0; rule = MemoryIndex })
