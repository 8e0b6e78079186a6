-- The rules of what stands outside function bodies (WebAssembly Core Specification 1.0, sections 3.2 and 3.4): for each
-- entry, given those before it in its section, the first rule that it breaks. The order is this project's own: indices come
-- first, in byte order; of a constant expression then its form, and then its type.
use Rattle.std.specs.Prelude.{ℕ, Bool, true, false, if◌then◌else◌, ◌&&◌, ◌||◌, nat_lt, nat_le, List, [], ◌∷◌, Option, Some, None, length, slice_get}
use Rattle.std.specs.Str.{bytes_eq}
use Rattle.wasm_ast.specs.declared.types.FuncType.{FuncType}
use Rattle.wasm_ast.specs.declared.types.Limits.{Limits}
use Rattle.wasm_ast.specs.declared.types.ValTy.{ValTy}
use Rattle.wasm_ast.specs.declared.types.ValTy.TheVariants.{I32, I64}
use Rattle.wasm_ast.specs.declared.instructions.WInstr.{WInstr, out-WInstr}
use Rattle.wasm_ast.specs.declared.instructions.WInstr.TheOpen.{WInstr-F}
use Rattle.wasm_ast.specs.declared.modules.DataSeg.{DataSeg}
use Rattle.wasm_ast.specs.declared.modules.ElemSeg.{ElemSeg}
use Rattle.wasm_ast.specs.declared.modules.Export.{Export}
use Rattle.wasm_ast.specs.declared.modules.ExportKind.{ExportKind}
use Rattle.wasm_ast.specs.declared.modules.ExportKind.TheVariants as export_kind
use Rattle.wasm_ast.specs.declared.modules.Import.{Import}
use Rattle.wasm_ast.specs.declared.modules.ImportKind.{ImportKind}
use Rattle.wasm_ast.specs.declared.modules.ImportKind.TheVariants as import_kind
use Rattle.wasm_ast.specs.declared.modules.WGlobal.{WGlobal}
use Rattle.wasm_typing.specs.declared.rule.WRule.{WRule}
use Rattle.wasm_typing.specs.declared.rule.WRule.TheVariants.{TypeIndex, FuncIndex, TableIndex, MemoryIndex, GlobalIndex, ManyTables, ManyMemories, LimitsOrder, ConstExpr, EndOperands, DuplicateExport, StartType}
use Rattle.wasm_typing.specs.declared.context.Context.{Context}
use Rattle.wasm_typing.specs.declared.context.GlobalType.{GlobalType}
use Rattle.wasm_typing.specs.Contexts.{imported_memories, imported_tables}
use Rattle.wasm_ast.specs.SameTypes.{is_same_value_type}

-- the rule, where this does not hold
abbrev pub breaks_unless : Bool → WRule → Option WRule
breaks_unless true rule = None
breaks_unless false rule = Some rule

-- the first of these that is broken
abbrev pub first_of : List (Option WRule) → Option WRule
first_of [] = None
first_of (Some rule ∷ rules) = Some rule
first_of (None ∷ rules) = first_of rules

-- an index of a list
abbrev pub is_index : {A : Type 0} → ℕ → List A → Bool
is_index n xs = nat_lt n (length xs)

-- a minimum that is no more than the maximum (3.2.1)
abbrev pub are_ordered : Limits → Bool
are_ordered l = elim l.max [ None ↦ true | Some most ↦ nat_le l.min most ]

-- the most pages of 65,536 bytes that a memory may be declared with (3.2.5)
abbrev pub most_pages : ℕ
most_pages = 65536

-- at most so many pages, at first and at most
abbrev pub are_pages : Limits → Bool
are_pages l = nat_le l.min most_pages && (elim l.max [ None ↦ true | Some most ↦ nat_le most most_pages ])

-- a table behind so many others (3.2.4, 3.4.10)
abbrev pub table_rule : ℕ → Limits → Option WRule
table_rule before l = first_of (breaks_unless (nat_lt before 1) ManyTables ∷ breaks_unless (are_ordered l) LimitsOrder ∷ [])

-- a memory behind so many others (3.2.5, 3.4.10)
abbrev pub memory_rule : ℕ → Limits → Option WRule
memory_rule before l = first_of (breaks_unless (nat_lt before 1) ManyMemories ∷ breaks_unless (are_ordered l && are_pages l) LimitsOrder ∷ [])

-- an import (3.4.9)
abbrev pub import_kind_rule : List FuncType → List Import → ImportKind → Option WRule
import_kind_rule types before (import_kind.Func n) = breaks_unless (is_index n types) TypeIndex
import_kind_rule types before (import_kind.Table l) = table_rule (imported_tables before) l
import_kind_rule types before (import_kind.Memory l) = memory_rule (imported_memories before) l
import_kind_rule types before (import_kind.Global t mutable) = None

abbrev pub import_rule : List FuncType → List Import → Import → Option WRule
import_rule types before i = import_kind_rule types before i.what

-- the global that a constant expression reads is there (3.3.7.2)
abbrev pub constant_index : List GlobalType → WInstr-F WInstr → Option WRule
constant_index globals (WInstr-F.GlobalGet n) = breaks_unless (is_index n globals) GlobalIndex
constant_index globals w = None

-- a constant, or the reading of a global that is never set
abbrev pub constant_form : List GlobalType → WInstr-F WInstr → Option WRule
constant_form globals (WInstr-F.I32Const n) = None
constant_form globals (WInstr-F.I64Const n) = None
constant_form globals (WInstr-F.GlobalGet n) = elim (slice_get globals n) [ None ↦ None | Some g ↦ if g.mutable then Some ConstExpr else None ]
constant_form globals w = Some ConstExpr

-- the type of its value
abbrev pub constant_type : List GlobalType → ValTy → WInstr-F WInstr → Option WRule
constant_type globals t (WInstr-F.I32Const n) = breaks_unless (is_same_value_type I32 t) EndOperands
constant_type globals t (WInstr-F.I64Const n) = breaks_unless (is_same_value_type I64 t) EndOperands
constant_type globals t (WInstr-F.GlobalGet n) = elim (slice_get globals n) [ None ↦ None | Some g ↦ breaks_unless (is_same_value_type g.ty t) EndOperands ]
constant_type globals t w = None

-- a global, whose initial value may read these globals (3.4.4)
abbrev pub global_rule : List GlobalType → WGlobal → Option WRule
global_rule globals g =
    let w = out-WInstr g.init in
    first_of (constant_index globals w ∷ constant_form globals w ∷ constant_type globals g.ty w ∷ [])

module _ (C : Context) where
  -- a function has a type (3.4.1)
  abbrev pub function_rule : ℕ → Option WRule
  function_rule n = breaks_unless (is_index n C.types) TypeIndex

  -- what an export names is there (3.4.8)
  abbrev pub export_index : ExportKind → ℕ → Option WRule
  export_index export_kind.Func n = breaks_unless (is_index n C.functions) FuncIndex
  export_index export_kind.Table n = breaks_unless (nat_lt n C.tables) TableIndex
  export_index export_kind.Memory n = breaks_unless (nat_lt n C.memories) MemoryIndex
  export_index export_kind.Global n = breaks_unless (is_index n C.globals) GlobalIndex

  -- a name is exported before
  abbrev pub is_exported : List ℕ → List Export → Bool
  is_exported name [] = false
  is_exported name (e ∷ es) = bytes_eq name e.name || is_exported name es

  abbrev pub no_duplicate : List Export → Export → Option WRule
  no_duplicate before e = if is_exported e.name before then Some DuplicateExport else None

  abbrev pub export_rule : List Export → Export → Option WRule
  export_rule before e = first_of (export_index e.kind e.index ∷ no_duplicate before e ∷ [])

  -- the start function takes and gives nothing (3.4.7)
  abbrev pub starts : FuncType → Bool
  starts f = elim f.result [ None ↦ nat_lt (length f.params) 1 | Some t ↦ false ]

  abbrev pub start_rule : ℕ → Option WRule
  start_rule n = elim (slice_get C.functions n) [ None ↦ Some FuncIndex | Some f ↦ breaks_unless (starts f) StartType ]

  -- each function of an element segment is there
  abbrev pub functions_rule : List ℕ → Option WRule
  functions_rule [] = None
  functions_rule (n ∷ ns) = if is_index n C.functions then functions_rule ns else Some FuncIndex

  -- an element segment (3.4.5)
  abbrev pub element_rule : ElemSeg → Option WRule
  element_rule s =
      let w = out-WInstr s.offset in
      first_of (breaks_unless (nat_lt s.table C.tables) TableIndex ∷ constant_index C.globals w ∷ functions_rule s.funcs ∷ constant_form C.globals w ∷ constant_type C.globals I32 w ∷ [])

  -- a data segment (3.4.6)
  abbrev pub segment_rule : DataSeg → Option WRule
  segment_rule s =
      let w = out-WInstr s.offset in
      first_of (breaks_unless (nat_lt s.memory C.memories) MemoryIndex ∷ constant_index C.globals w ∷ constant_form C.globals w ∷ constant_type C.globals I32 w ∷ [])
