-- The productions of sections and modules (WebAssembly Core Specification 1.0, section 5.5).
use Rattle.std.specs.Prelude.{◌≡◌, ℕ, List, [], length, Option, Some, None, ◌⊎◌}
use Rattle.wasm_ast.specs.declared.modules.Import.{Import}
use Rattle.wasm_ast.specs.declared.modules.ImportKind.{ImportKind}
use Rattle.wasm_ast.specs.declared.modules.ImportKind.TheVariants.{Func, Table, Memory, Global}
use Rattle.wasm_ast.specs.declared.modules.Export.{Export}
use Rattle.wasm_ast.specs.declared.modules.WGlobal.{WGlobal}
use Rattle.wasm_ast.specs.declared.modules.ElemSeg.{ElemSeg}
use Rattle.wasm_ast.specs.declared.modules.DataSeg.{DataSeg}
use Rattle.wasm_ast.specs.declared.modules.Code.{Code}
use Rattle.wasm_ast.specs.declared.modules.LocalRun.{LocalRun}
use Rattle.wasm_ast.specs.declared.modules.WModule.{WModule}
use Rattle.wasm_grammar.specs.Tags.{export_kind}
use Rattle.wasm_grammar.specs.CanonicalModules.{preamble}
use Rattle.wasm_grammar.specs.GrammarValues.{◌followed_by◌, IsExactly, IsByte, IsRaw, IsUnsigned, IsEach, IsVector, IsByteVector, IsName, IsSized}
use Rattle.wasm_grammar.specs.GrammarTypes.{IsValueType, IsFuncType, IsLimits, IsTableType, IsGlobalType}
use Rattle.wasm_grammar.specs.GrammarInstructions.{IsExpression, IsConstantExpression}
use Rattle.wasm_grammar.specs.Profile.{IsInProfile}

-- what is imported (5.5.5)
abbrev pub IsImportKind : ImportKind → List ℕ → Type 0
IsImportKind (Func n) = IsByte 0x00 followed_by IsUnsigned n
IsImportKind (Table l) = IsByte 0x01 followed_by IsTableType l
IsImportKind (Memory l) = IsByte 0x02 followed_by IsLimits l
IsImportKind (Global t mutable) = IsByte 0x03 followed_by IsGlobalType t mutable

-- an import: the names of its module and its own, and what it is (5.5.5)
abbrev pub IsImport : Import → List ℕ → Type 0
IsImport i = IsName i.module followed_by IsName i.name followed_by IsImportKind i.what

-- a global: its type and its initial value (5.5.9)
abbrev pub IsGlobal : WGlobal → List ℕ → Type 0
IsGlobal g = IsGlobalType g.ty g.mutable followed_by IsConstantExpression g.init

-- an export: its name, its kind and its index (5.5.10)
abbrev pub IsExport : Export → List ℕ → Type 0
IsExport e = IsName e.name followed_by IsByte (export_kind e.kind) followed_by IsUnsigned e.index

-- an element segment: its table, its offset and its functions (5.5.12)
abbrev pub IsElement : ElemSeg → List ℕ → Type 0
IsElement s = IsUnsigned s.table followed_by IsConstantExpression s.offset followed_by IsVector IsUnsigned s.funcs

-- so many locals of one type (5.5.13)
abbrev pub IsLocalRun : LocalRun → List ℕ → Type 0
IsLocalRun r = IsUnsigned r.count followed_by IsValueType r.ty

-- a function: its locals and its body (5.5.13)
abbrev pub IsFunction : Code → List ℕ → Type 0
IsFunction c = IsVector IsLocalRun c.locals followed_by IsExpression c.body

-- an entry of the code section: the size of a function, and the function (5.5.13)
abbrev pub IsCode : Code → List ℕ → Type 0
IsCode c = IsSized (IsFunction c)

-- a data segment: its memory, its offset and its bytes (5.5.14)
abbrev pub IsSegment : DataSeg → List ℕ → Type 0
IsSegment s = IsUnsigned s.memory followed_by IsConstantExpression s.offset followed_by IsByteVector s.bytes

-- a section: its id, the size of its content, and its content (5.5.2)
abbrev pub IsSection : ℕ → (List ℕ → Type 0) → List ℕ → Type 0
IsSection id Content = IsByte id followed_by IsSized Content

-- a section that may be left out where there is nothing that it would hold (5.5.2)
abbrev pub IsOptionalSection : ℕ → (List ℕ → Type 0) → Type 0 → List ℕ → Type 0
IsOptionalSection id Content Nothing bytes = IsSection id Content bytes ⊎ (Nothing × (bytes ≡ []))

-- a section of a vector of entries, which may be left out where there is none (5.5.2)
abbrev pub IsVectorSection : {X : Type 0} → ℕ → (X → List ℕ → Type 0) → List X → List ℕ → Type 0
IsVectorSection id Entry xs = IsOptionalSection id (IsVector Entry xs) (xs ≡ [])

-- the index of the start function (5.5.11)
abbrev pub IsStart : Option ℕ → List ℕ → Type 0
IsStart None = λ bytes. ⊥
IsStart (Some n) = IsUnsigned n

-- the start section, which is left out where there is no start function (5.5.11)
abbrev pub IsStartSection : Option ℕ → List ℕ → Type 0
IsStartSection start = IsOptionalSection 8 (IsStart start) (start ≡ None)

-- a custom section; in this project's profile its content is bytes of any kind, and its name is not read (5.5.3)
abbrev pub IsCustomSection : List ℕ → List ℕ → Type 0
IsCustomSection content = IsSection 0 (IsRaw content)

-- any custom sections, one after another, which stand for nothing (5.5.15)
abbrev pub AreCustomSections : List ℕ → Type 0
AreCustomSections bytes = (contents : List (List ℕ)) × IsEach IsCustomSection contents bytes

-- the sections of a module, in the order of their ids, each at most once, with custom sections anywhere between (5.5.15)
abbrev pub AreSections : WModule → List ℕ → Type 0
AreSections m =
    AreCustomSections
    followed_by IsVectorSection 1 IsFuncType m.types
    followed_by AreCustomSections
    followed_by IsVectorSection 2 IsImport m.imports
    followed_by AreCustomSections
    followed_by IsVectorSection 3 IsUnsigned m.funcs
    followed_by AreCustomSections
    followed_by IsVectorSection 4 IsTableType m.tables
    followed_by AreCustomSections
    followed_by IsVectorSection 5 IsLimits m.memories
    followed_by AreCustomSections
    followed_by IsVectorSection 6 IsGlobal m.globals
    followed_by AreCustomSections
    followed_by IsVectorSection 7 IsExport m.exports
    followed_by AreCustomSections
    followed_by IsStartSection m.start
    followed_by AreCustomSections
    followed_by IsVectorSection 9 IsElement m.elements
    followed_by AreCustomSections
    followed_by IsVectorSection 10 IsCode m.codes
    followed_by AreCustomSections
    followed_by IsVectorSection 11 IsSegment m.segments
    followed_by AreCustomSections

-- a module: the magic number and the version, and its sections (5.5.15)
abbrev pub IsModule : WModule → List ℕ → Type 0
IsModule m = IsExactly preamble followed_by AreSections m

-- the bytes spell the module: all of them, by the productions, and the module is in the profile. That there are
-- as many codes as functions is the standard's own condition (5.5.15)
pub record SpellsModule (bytes : List ℕ) (m : WModule) : Type 0 where
  pub profile : IsInProfile m
  pub productions : IsModule m bytes
  pub counts : length m.funcs ≡ length m.codes
