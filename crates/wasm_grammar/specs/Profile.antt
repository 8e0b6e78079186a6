-- The module trees of this project's profile: those that have bytes, within the limits that a reader keeps
-- (WebAssembly Core Specification 1.0, sections 5.2 to 5.5; the limits are this project's own).
use Rattle.std.specs.Prelude.{◌≡◌, ℕ, ◌^◌, ◌<◌, ◌≤◌, List, length, sum_by, Option, Some, None, IsUtf8}
use Rattle.wasm_ast.specs.declared.types.FuncType.{FuncType}
use Rattle.wasm_ast.specs.declared.types.Limits.{Limits}
use Rattle.wasm_ast.specs.declared.modules.Import.{Import}
use Rattle.wasm_ast.specs.declared.modules.ImportKind.{ImportKind}
use Rattle.wasm_ast.specs.declared.modules.ImportKind.TheVariants.{Func, Table, Memory, Global}
use Rattle.wasm_ast.specs.declared.modules.Export.{Export}
use Rattle.wasm_ast.specs.declared.modules.WGlobal.{WGlobal}
use Rattle.wasm_ast.specs.declared.modules.ElemSeg.{ElemSeg}
use Rattle.wasm_ast.specs.declared.modules.DataSeg.{DataSeg}
use Rattle.wasm_ast.specs.declared.modules.Code.{Code}
use Rattle.wasm_ast.specs.declared.modules.LocalRun.{LocalRun}
use Rattle.wasm_ast.specs.declared.modules.WModule.{WModule}
use Rattle.wasm_grammar.specs.Nesting.{nesting_limit, ModuleNestsAtMost}
use Rattle.wasm_grammar.specs.ProfileInstructions.{FitsU32, IsShortListOf, InstructionsFit, ConstantFits}

-- the most pages that a memory has at first
abbrev pub page_limit : ℕ
page_limit = 1024

-- the most entries that a table has at first
abbrev pub entry_limit : ℕ
entry_limit = 100000

-- the most locals that a function declares
abbrev pub local_limit : ℕ
local_limit = 50000

-- a name: UTF-8, of fewer than 2 ^ 32 bytes
abbrev pub NameFits : List ℕ → Type 0
NameFits name = IsUtf8 name × (length name < 2 ^ 32)

-- no number, or one that fits its field
abbrev pub OptionFits : Option ℕ → Type 0
OptionFits None = Unit {0}
OptionFits (Some n) = FitsU32 n

-- a function type whose parameters a vector can hold
abbrev pub FuncTypeFits : FuncType → Type 0
FuncTypeFits f = length f.params < 2 ^ 32

-- limits whose minimum is at most `most`
abbrev pub LimitsFit : ℕ → Limits → Type 0
LimitsFit most l = (l.min ≤ most) × OptionFits l.max

-- what is imported, within its limits
abbrev pub ImportKindFits : ImportKind → Type 0
ImportKindFits (Func n) = FitsU32 n
ImportKindFits (Table l) = LimitsFit entry_limit l
ImportKindFits (Memory l) = LimitsFit page_limit l
ImportKindFits (Global t mutable) = Unit {0}

-- an import, with its names
abbrev pub ImportFits : Import → Type 0
ImportFits i = NameFits i.module × NameFits i.name × ImportKindFits i.what

-- a global with a constant initial value
abbrev pub GlobalFits : WGlobal → Type 0
GlobalFits g = ConstantFits g.init

-- an export, with its name
abbrev pub ExportFits : Export → Type 0
ExportFits e = NameFits e.name × FitsU32 e.index

-- an element segment with a constant offset
abbrev pub ElementFits : ElemSeg → Type 0
ElementFits s = FitsU32 s.table × ConstantFits s.offset × IsShortListOf FitsU32 s.funcs

-- how many locals some runs declare
abbrev pub local_total : List LocalRun → ℕ
local_total runs = sum_by (λ (r : LocalRun). r.count) runs

-- the locals and the body of a function
pub record CodeFits (c : Code) : Type 0 where
  pub locals : IsShortListOf (λ (r : LocalRun). FitsU32 r.count) c.locals
  pub local_count : local_total c.locals ≤ local_limit
  pub body_length : length c.body < 2 ^ 32
  pub body : InstructionsFit c.body

-- a data segment with a constant offset, and bytes
abbrev pub SegmentFits : DataSeg → Type 0
SegmentFits s = FitsU32 s.memory × ConstantFits s.offset × IsShortListOf (λ b. b < 256) s.bytes

-- a module of the profile: each number fits its field, each list is short enough for a vector, each name is
-- UTF-8, each initial value and offset is constant, there are as many codes as functions, and the minima, the
-- local counts and the nesting keep their limits
pub record IsInProfile (m : WModule) : Type 0 where
  pub types : IsShortListOf FuncTypeFits m.types
  pub imports : IsShortListOf ImportFits m.imports
  pub funcs : IsShortListOf FitsU32 m.funcs
  pub tables : IsShortListOf (LimitsFit entry_limit) m.tables
  pub memories : IsShortListOf (LimitsFit page_limit) m.memories
  pub globals : IsShortListOf GlobalFits m.globals
  pub exports : IsShortListOf ExportFits m.exports
  pub start : OptionFits m.start
  pub elements : IsShortListOf ElementFits m.elements
  pub codes : IsShortListOf CodeFits m.codes
  pub segments : IsShortListOf SegmentFits m.segments
  pub counts : length m.funcs ≡ length m.codes
  pub nesting : ModuleNestsAtMost nesting_limit m
