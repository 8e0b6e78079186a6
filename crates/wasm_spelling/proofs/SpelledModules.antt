-- Canonical bytes follow the productions of entries, sections and modules.
use Rattle.std.proofs.Common.{◌≡◌, ℕ, zero, suc, ◌^◌, ◌<◌, List, [], ◌∷◌, ◌++◌, length, refl, sym, subst, arith, inl, inr, lit<, length-append, append-nil, slice_index_or}
use Rattle.std.proofs.lemmas.Bool.{cond-false, ne_eqb}
use Rattle.std.specs.Prelude.{Option, Some, None, ◌==◌}
use Rattle.std.specs.List.{flat_map}
use Rattle.wasm_leb.specs.Leb.{unsigned_least}
use Rattle.wasm_leb.proofs.Spelled.{u32}
use Rattle.wasm_ast.specs.declared.modules.Import.{Import}
use Rattle.wasm_ast.specs.declared.modules.ImportKind.{ImportKind}
use Rattle.wasm_ast.specs.declared.modules.ImportKind.TheVariants.{Func, Table, Memory, Global}
use Rattle.wasm_ast.specs.declared.modules.Export.{Export}
use Rattle.wasm_ast.specs.declared.modules.WGlobal.{WGlobal}
use Rattle.wasm_ast.specs.declared.modules.ElemSeg.{ElemSeg}
use Rattle.wasm_ast.specs.declared.modules.DataSeg.{DataSeg}
use Rattle.wasm_ast.specs.declared.modules.Code.{Code}
use Rattle.wasm_ast.specs.declared.modules.LocalRun.{LocalRun}
use Rattle.wasm_ast.specs.declared.modules.WModule.{WModule}
use Rattle.wasm_grammar.specs.Tags.{value_type, mutability, export_kind}
use Rattle.wasm_grammar.specs.CanonicalTypes.{vector_bytes, byte_vector_bytes, func_type_bytes, limits_bytes, table_type_bytes}
use Rattle.wasm_grammar.specs.CanonicalInstructions.{expression_bytes, constant_bytes}
use Rattle.wasm_grammar.specs.CanonicalModules.{HasShortContents, import_kind_bytes, import_bytes, global_bytes, export_bytes, element_bytes, local_run_bytes, function_bytes, code_bytes, segment_bytes, type_content, import_content, function_content, table_content, memory_content, global_content, export_content, element_content, code_content, data_content, section_bytes, section_of, start_bytes, start_section, preamble, module_bytes}
use Rattle.wasm_grammar.specs.ProfileInstructions.{FitsU32, IsShortListOf}
use Rattle.wasm_grammar.specs.Profile.{entry_limit, page_limit, OptionFits, FuncTypeFits, LimitsFit, ImportKindFits, ImportFits, GlobalFits, ExportFits, ElementFits, CodeFits, SegmentFits, IsInProfile}
use Rattle.wasm_grammar.specs.GrammarValues.{Joined, IsUnsigned, IsVector}
use Rattle.wasm_grammar.specs.GrammarTypes.{IsFuncType, IsLimits, IsTableType}
use Rattle.wasm_grammar.specs.GrammarModules.{IsImportKind, IsImport, IsGlobal, IsExport, IsElement, IsLocalRun, IsFunction, IsCode, IsSegment, IsSection, IsVectorSection, IsStartSection, AreCustomSections, IsModule}
use Rattle.wasm_spelling.specs.SpellingLaws.{CanonicalBytesSpell}
use Rattle.wasm_spelling.proofs.SpelledValues.{joined, vector, unsigneds, byte_vector, name, sized, func_type, limits, table_type}
use Rattle.wasm_spelling.proofs.SpelledInstructions.{expression, constant}

import_kind : (k : ImportKind) → ImportKindFits k → IsImportKind k (import_kind_bytes k)
import_kind (Func n) h = joined (0x00 ∷ []) (unsigned_least 5 n) refl (u32 n h)
import_kind (Table l) h = joined (0x01 ∷ []) (table_type_bytes l) refl (table_type entry_limit (lit< tt) l h)
import_kind (Memory l) h = joined (0x02 ∷ []) (limits_bytes l) refl (limits page_limit (lit< tt) l h)
import_kind (Global t mutable) h =
    joined (0x03 ∷ []) (value_type t ∷ mutability mutable ∷ []) refl (joined (value_type t ∷ []) (mutability mutable ∷ []) refl refl)

import_entry : (i : Import) → ImportFits i → IsImport i (import_bytes i)
import_entry i h =
    joined (byte_vector_bytes i.module) (byte_vector_bytes i.name ++ import_kind_bytes i.what) (name i.module h.0)
    (joined (byte_vector_bytes i.name) (import_kind_bytes i.what) (name i.name h.1) (import_kind i.what h.2))

global : (g : WGlobal) → GlobalFits g → IsGlobal g (global_bytes g)
global g h =
    joined (value_type g.ty ∷ mutability g.mutable ∷ []) (constant_bytes g.init)
    (joined (value_type g.ty ∷ []) (mutability g.mutable ∷ []) refl refl) (constant g.init h)

export : (e : Export) → ExportFits e → IsExport e (export_bytes e)
export e h =
    joined (byte_vector_bytes e.name) (export_kind e.kind ∷ unsigned_least 5 e.index) (name e.name h.0)
    (joined (export_kind e.kind ∷ []) (unsigned_least 5 e.index) refl (u32 e.index h.1))

element : (s : ElemSeg) → ElementFits s → IsElement s (element_bytes s)
element s h =
    joined (unsigned_least 5 s.table) (constant_bytes s.offset ++ vector_bytes (unsigned_least 5) s.funcs) (u32 s.table h.0)
    (joined (constant_bytes s.offset) (vector_bytes (unsigned_least 5) s.funcs) (constant s.offset h.1) (unsigneds s.funcs h.2))

local_run : (r : LocalRun) → FitsU32 r.count → IsLocalRun r (local_run_bytes r)
local_run r h = joined (unsigned_least 5 r.count) (value_type r.ty ∷ []) (u32 r.count h) refl

function : (c : Code) → CodeFits c → IsFunction c (function_bytes c)
function c h =
    joined (vector_bytes local_run_bytes c.locals) (expression_bytes c.body)
    (vector IsLocalRun local_run_bytes (λ (r : LocalRun). FitsU32 r.count) local_run c.locals h.locals)
    (expression c.body h.body)

-- a function, and its size
abbrev ShortCodeFits : Code → Type 0
ShortCodeFits c = CodeFits c × (length (function_bytes c) < 2 ^ 32)

code : (c : Code) → ShortCodeFits c → IsCode c (code_bytes c)
code c h = sized (IsFunction c) (function_bytes c) h.1 (function c h.0)

-- a function is no longer than the entries that hold it
short_codes : (cs : List Code) (most : ℕ) → length (flat_map code_bytes cs) < most → (k : ℕ) (d : Code) → k < length cs → length (function_bytes (slice_index_or cs k d)) < most
short_codes [] most h k d l = absurd (omega arith)
short_codes (c ∷ cs) most h zero d l =
    let size = unsigned_least 5 (length (function_bytes c)) in
    omega (arith, length-append (code_bytes c) (flat_map code_bytes cs), length-append size (function_bytes c))
short_codes (c ∷ cs) most h (suc k) d l =
    let rest : length (flat_map code_bytes cs) < most = omega (arith, length-append (code_bytes c) (flat_map code_bytes cs)) in
    short_codes cs most rest k d (omega arith)

codes : (cs : List Code) → IsShortListOf CodeFits cs → length (vector_bytes code_bytes cs) < 2 ^ 32 → IsVector IsCode cs (vector_bytes code_bytes cs)
codes cs h short =
    let count = unsigned_least 5 (length cs) in
    let rest : length (flat_map code_bytes cs) < 2 ^ 32 = omega (arith, length-append count (flat_map code_bytes cs)) in
    vector IsCode code_bytes ShortCodeFits code cs
    (record { short = h.short; each = λ k d l. (h.each k d l, short_codes cs (2 ^ 32) rest k d l) })

segment : (s : DataSeg) → SegmentFits s → IsSegment s (segment_bytes s)
segment s h =
    joined (unsigned_least 5 s.memory) (constant_bytes s.offset ++ byte_vector_bytes s.bytes) (u32 s.memory h.0)
    (joined (constant_bytes s.offset) (byte_vector_bytes s.bytes) (constant s.offset h.1) (byte_vector s.bytes h.2))

section : (id : ℕ) (Content : List ℕ → Type 0) (content : List ℕ) → length content < 2 ^ 32 → Content content → IsSection id Content (section_bytes id content)
section id Content content short p =
    joined (id ∷ []) (unsigned_least 5 (length content) ++ content) refl (sized Content content short p)

vector_section : {X : Type 0} (id : ℕ) (Entry : X → List ℕ → Type 0) (xs : List X) (content : List ℕ) → length content < 2 ^ 32 → IsVector Entry xs content → IsVectorSection id Entry xs (section_of id xs content)
unfolding section_of
vector_section id Entry [] content short p = inr (refl, refl)
vector_section id Entry (x ∷ xs) content short p =
    let some : length (x ∷ xs) ≡ 0 → ⊥ = λ e. omega arith in
    let e = cond-false (length (x ∷ xs) == 0) [] (section_bytes id content) (ne_eqb (length (x ∷ xs)) 0 some) in
    inl (subst (λ (bytes : List ℕ). IsSection id (IsVector Entry (x ∷ xs)) bytes) (sym e) (section id (IsVector Entry (x ∷ xs)) content short p))

start : (s : Option ℕ) → OptionFits s → length (start_bytes s) < 2 ^ 32 → IsStartSection s (start_section s)
unfolding start_section
start None h short = inr (refl, refl)
start (Some n) h short = inl (section 8 (IsUnsigned n) (unsigned_least 5 n) short (u32 n h))

pub no_customs : AreCustomSections []
no_customs = ([], refl)

-- no custom sections, and then a section and the rest
pub next : {Section Rest : List ℕ → Type 0} (front back : List ℕ) → Section front → Rest back → Joined AreCustomSections (Joined Section Rest) (front ++ back)
next front back p q = joined [] (front ++ back) no_customs (joined front back p q)

-- the last section, which no custom section follows
last : {Section : List ℕ → Type 0} (bytes : List ℕ) → Section bytes → Joined AreCustomSections (Joined Section AreCustomSections) bytes
last {Section} bytes p =
    subst (λ (all : List ℕ). Joined AreCustomSections (Joined Section AreCustomSections) all) (append-nil bytes) (next bytes [] p no_customs)

productions : (m : WModule) → IsInProfile m → HasShortContents m → IsModule m (module_bytes m)
productions m h short =
    joined preamble _ refl
    (next (section_of 1 m.types (type_content m)) _
    (vector_section 1 IsFuncType m.types (type_content m) (short 1) (vector IsFuncType func_type_bytes FuncTypeFits func_type m.types h.types))
    (next (section_of 2 m.imports (import_content m)) _
    (vector_section 2 IsImport m.imports (import_content m) (short 2) (vector IsImport import_bytes ImportFits import_entry m.imports h.imports))
    (next (section_of 3 m.funcs (function_content m)) _
    (vector_section 3 IsUnsigned m.funcs (function_content m) (short 3) (unsigneds m.funcs h.funcs))
    (next (section_of 4 m.tables (table_content m)) _
    (vector_section 4 IsTableType m.tables (table_content m) (short 4) (vector IsTableType table_type_bytes (LimitsFit entry_limit) (table_type entry_limit (lit< tt)) m.tables h.tables))
    (next (section_of 5 m.memories (memory_content m)) _
    (vector_section 5 IsLimits m.memories (memory_content m) (short 5) (vector IsLimits limits_bytes (LimitsFit page_limit) (limits page_limit (lit< tt)) m.memories h.memories))
    (next (section_of 6 m.globals (global_content m)) _
    (vector_section 6 IsGlobal m.globals (global_content m) (short 6) (vector IsGlobal global_bytes GlobalFits global m.globals h.globals))
    (next (section_of 7 m.exports (export_content m)) _
    (vector_section 7 IsExport m.exports (export_content m) (short 7) (vector IsExport export_bytes ExportFits export m.exports h.exports))
    (next (start_section m.start) _ (start m.start h.start (short 8))
    (next (section_of 9 m.elements (element_content m)) _
    (vector_section 9 IsElement m.elements (element_content m) (short 9) (vector IsElement element_bytes ElementFits element m.elements h.elements))
    (next (section_of 10 m.codes (code_content m)) _
    (vector_section 10 IsCode m.codes (code_content m) (short 10) (codes m.codes h.codes (short 10)))
    (last (section_of 11 m.segments (data_content m))
    (vector_section 11 IsSegment m.segments (data_content m) (short 11) (vector IsSegment segment_bytes SegmentFits segment m.segments h.segments)))))))))))))

pub canonical_bytes_spell : CanonicalBytesSpell
canonical_bytes_spell m h short = record { profile = h; productions = productions m h short; counts = h.counts }
