-- The canonical bytes of entries, sections and modules are the shortest ones, and the contents of sections are short
-- where bytes spell them.
use Rattle.std.proofs.Common.{◌≡◌, ℕ, ◌^◌, ◌<◌, List, [], ◌∷◌, ◌++◌, length, inl, inr, sym, subst, arith, append-nil}
use Rattle.std.proofs.lemmas.Bool.{cond-false, ne_eqb}
use Rattle.std.specs.Prelude.{Bool, true, false, Option, Some, None, ◌==◌, if◌then◌else◌}
use Rattle.wasm_leb.specs.Leb.{unsigned_least, IsUnsignedEnd}
use Rattle.wasm_leb.proofs.Spelled.{below, unsigned_below}
use Rattle.wasm_ast.specs.declared.modules.Import.{Import}
use Rattle.wasm_ast.specs.declared.modules.ImportKind.{ImportKind}
use Rattle.wasm_ast.specs.declared.modules.ImportKind.TheVariants.{Func, Table, Memory, Global}
use Rattle.wasm_ast.specs.declared.modules.Export.{Export}
use Rattle.wasm_ast.specs.declared.modules.WGlobal.{WGlobal}
use Rattle.wasm_ast.specs.declared.modules.ElemSeg.{ElemSeg}
use Rattle.wasm_ast.specs.declared.modules.DataSeg.{DataSeg}
use Rattle.wasm_ast.specs.declared.modules.Code.{Code}
use Rattle.wasm_ast.specs.declared.modules.LocalRun.{LocalRun}
use Rattle.wasm_ast.specs.declared.modules.WModule.{WModule}
use Rattle.wasm_grammar.specs.Tags.{value_type, mutability, export_kind}
use Rattle.wasm_grammar.specs.CanonicalTypes.{vector_bytes, byte_vector_bytes, func_type_bytes, limits_bytes, table_type_bytes}
use Rattle.wasm_grammar.specs.CanonicalInstructions.{expression_bytes, constant_bytes}
use Rattle.wasm_grammar.specs.CanonicalModules.{import_kind_bytes, import_bytes, global_bytes, export_bytes, element_bytes, local_run_bytes, function_bytes, code_bytes, segment_bytes, content_of, section_bytes, section_of, start_bytes, start_section, preamble, module_bytes}
use Rattle.wasm_grammar.specs.GrammarValues.{Joined, IsUnsigned}
use Rattle.wasm_grammar.specs.GrammarTypes.{IsFuncType, IsLimits, IsTableType}
use Rattle.wasm_grammar.specs.GrammarModules.{IsImportKind, IsImport, IsGlobal, IsExport, IsElement, IsLocalRun, IsFunction, IsCode, IsSegment, IsSection, IsOptionalSection, IsVectorSection, IsStartSection, AreCustomSections, AreSections, IsModule}
use Rattle.wasm_spelling.specs.SpellingLaws.{CanonicalBytesAreShortest, SpelledContentsAreShort, CanonicalBytesSpellAgain}
use Rattle.wasm_spelling.proofs.LeastOrLonger.{not_shorter}
use Rattle.wasm_spelling.proofs.Shortest.{IsShortest, joined, exactly, byte, nothing, unsigned, vector, unsigneds, byte_vector, name, sized, value_type-shortest, func_type-shortest, limits-shortest, table_type-shortest, global_type-shortest}
use Rattle.wasm_spelling.proofs.ShortestInstructions.{expression-shortest, constant-shortest}
use Rattle.wasm_spelling.proofs.SpelledModules.{canonical_bytes_spell}

import_kind-shortest : (k : ImportKind) → IsShortest (IsImportKind k) (import_kind_bytes k)
import_kind-shortest (Func n) = joined (0x00 ∷ []) (unsigned_least 5 n) (byte 0x00) (unsigned n)
import_kind-shortest (Table l) = joined (0x01 ∷ []) (table_type_bytes l) (byte 0x01) (table_type-shortest l)
import_kind-shortest (Memory l) = joined (0x02 ∷ []) (limits_bytes l) (byte 0x02) (limits-shortest l)
import_kind-shortest (Global t mutable) =
    joined (0x03 ∷ []) (value_type t ∷ mutability mutable ∷ []) (byte 0x03) (global_type-shortest t mutable)

import-shortest : (i : Import) → IsShortest (IsImport i) (import_bytes i)
import-shortest i =
    joined (byte_vector_bytes i.module) (byte_vector_bytes i.name ++ import_kind_bytes i.what) (name i.module)
    (joined (byte_vector_bytes i.name) (import_kind_bytes i.what) (name i.name) (import_kind-shortest i.what))

global-shortest : (g : WGlobal) → IsShortest (IsGlobal g) (global_bytes g)
global-shortest g =
    joined (value_type g.ty ∷ mutability g.mutable ∷ []) (constant_bytes g.init) (global_type-shortest g.ty g.mutable) (constant-shortest g.init)

export-shortest : (e : Export) → IsShortest (IsExport e) (export_bytes e)
export-shortest e =
    joined (byte_vector_bytes e.name) (export_kind e.kind ∷ unsigned_least 5 e.index) (name e.name)
    (joined (export_kind e.kind ∷ []) (unsigned_least 5 e.index) (byte (export_kind e.kind)) (unsigned e.index))

element-shortest : (s : ElemSeg) → IsShortest (IsElement s) (element_bytes s)
element-shortest s =
    joined (unsigned_least 5 s.table) (constant_bytes s.offset ++ vector_bytes (unsigned_least 5) s.funcs) (unsigned s.table)
    (joined (constant_bytes s.offset) (vector_bytes (unsigned_least 5) s.funcs) (constant-shortest s.offset) (unsigneds s.funcs))

local_run-shortest : (r : LocalRun) → IsShortest (IsLocalRun r) (local_run_bytes r)
local_run-shortest r = joined (unsigned_least 5 r.count) (value_type r.ty ∷ []) (unsigned r.count) (value_type-shortest r.ty)

function-shortest : (c : Code) → IsShortest (IsFunction c) (function_bytes c)
function-shortest c =
    joined (vector_bytes local_run_bytes c.locals) (expression_bytes c.body)
    (vector IsLocalRun local_run_bytes local_run-shortest c.locals) (expression-shortest c.body)

code-shortest : (c : Code) → IsShortest (IsCode c) (code_bytes c)
code-shortest c = sized (function_bytes c) (function-shortest c)

segment-shortest : (s : DataSeg) → IsShortest (IsSegment s) (segment_bytes s)
segment-shortest s =
    joined (unsigned_least 5 s.memory) (constant_bytes s.offset ++ byte_vector_bytes s.bytes) (unsigned s.memory)
    (joined (constant_bytes s.offset) (byte_vector_bytes s.bytes) (constant-shortest s.offset) (byte_vector s.bytes))

-- the shortest bytes of a section or of sections, and a content in them that is short where bytes spell them
record IsShortestWith (Sections : List ℕ → Type 0) (least content : List ℕ) : Type 0 where
  pub shortest : IsShortest Sections least
  pub short : (bytes : List ℕ) → Sections bytes → length content < 2 ^ 32

section-shortest : {Content : List ℕ → Type 0} (id : ℕ) (least : List ℕ) → IsShortest Content least → IsShortest (IsSection id Content) (section_bytes id least)
section-shortest id least k = joined (id ∷ []) (unsigned_least 5 (length least) ++ least) (byte id) (sized least k)

-- the size of a content that is spelled is a u32, and the shortest content is no longer
section-short : {Content : List ℕ → Type 0} (id : ℕ) (least bytes : List ℕ) → IsShortest Content least → IsSection id Content bytes → length least < 2 ^ 32
section-short id least bytes k p =
    let s = p.second in
    let size = below IsUnsignedEnd unsigned_below (2 ^ 32) s.size (length s.content) s.measured in
    let h = not_shorter least s.content (k.at s.content s.spelled) in
    omega (arith, size, h)

-- a section that has entries stands there
present : {Content : List ℕ → Type 0} {Nothing : Type 0} (id : ℕ) (least : List ℕ) → (Nothing → ⊥) → IsShortest Content least → IsShortestWith (IsOptionalSection id Content Nothing) (section_bytes id least) least
present id least some k = record {
  shortest = record { at = λ bytes p. elim p [ inl q ↦ (section-shortest id least k).at bytes q | inr q ↦ absurd (some q.0) ] };
  short = λ bytes p. elim p [ inl q ↦ section-short id least bytes k q | inr q ↦ absurd (some q.0) ];
}

vector_section : {X : Type 0} (id : ℕ) (Entry : X → List ℕ → Type 0) (entry : X → List ℕ) → ((x : X) → IsShortest (Entry x) (entry x)) → (xs : List X) → IsShortestWith (IsVectorSection id Entry xs) (section_of id xs (vector_bytes entry xs)) (vector_bytes entry xs)
unfolding section_of
vector_section id Entry entry k [] = record { shortest = nothing (IsVectorSection id Entry []); short = λ bytes p. omega arith }
vector_section id Entry entry k (x ∷ xs) =
    let some : length (x ∷ xs) ≡ 0 → ⊥ = λ e. omega arith in
    let content = vector_bytes entry (x ∷ xs) in
    let e = cond-false (length (x ∷ xs) == 0) [] (section_bytes id content) (ne_eqb (length (x ∷ xs)) 0 some) in
    let h = present id content (λ (q : (x ∷ xs) ≡ []). cc) (vector Entry entry k (x ∷ xs)) in
    subst (λ (least : List ℕ). IsShortestWith (IsVectorSection id Entry (x ∷ xs)) least content) (sym e) h

start-shortest : (s : Option ℕ) → IsShortestWith (IsStartSection s) (start_section s) (start_bytes s)
unfolding start_section
start-shortest None = record { shortest = nothing (IsStartSection None); short = λ bytes p. omega arith }
start-shortest (Some n) = present 8 (unsigned_least 5 n) (λ (q : Some n ≡ None). cc) (unsigned n)

-- custom sections, a section, and the rest: the content is the section's, or one of the rest
next : {Section Rest : List ℕ → Type 0} {front back x y : List ℕ} (b : Bool) → IsShortestWith Section front x → IsShortestWith Rest back y → IsShortestWith (Joined AreCustomSections (Joined Section Rest)) (front ++ back) (if b then x else y)
next {Section} {Rest} {front} {back} true h k = record {
  shortest = joined [] (front ++ back) (nothing AreCustomSections) (joined front back h.shortest k.shortest);
  short = λ bytes p. h.short p.second.front p.second.first;
}
next {Section} {Rest} {front} {back} false h k = record {
  shortest = joined [] (front ++ back) (nothing AreCustomSections) (joined front back h.shortest k.shortest);
  short = λ bytes p. k.short p.second.back p.second.second;
}

-- behind the last section
no_sections : IsShortestWith AreCustomSections [] []
no_sections = record { shortest = nothing AreCustomSections; short = λ bytes p. omega arith }

last : {Section : List ℕ → Type 0} {least x : List ℕ} (b : Bool) → IsShortestWith Section least x → IsShortestWith (Joined AreCustomSections (Joined Section AreCustomSections)) least (if b then x else [])
last {Section} {least} {x} b h =
    subst (λ (all : List ℕ). IsShortestWith (Joined AreCustomSections (Joined Section AreCustomSections)) all (if b then x else []))
    (append-nil least) (next b h no_sections)

behind_preamble : (m : WModule) {least content : List ℕ} → IsShortestWith (AreSections m) least content → IsShortestWith (IsModule m) (preamble ++ least) content
behind_preamble m {least} {content} h = record {
  shortest = joined preamble least (exactly preamble) h.shortest;
  short = λ bytes p. h.short p.back p.second;
}

module-shortest : (m : WModule) (id : ℕ) → IsShortestWith (IsModule m) (module_bytes m) (content_of id m)
module-shortest m id =
    behind_preamble m
    (next (id == 1) (vector_section 1 IsFuncType func_type_bytes func_type-shortest m.types)
    (next (id == 2) (vector_section 2 IsImport import_bytes import-shortest m.imports)
    (next (id == 3) (vector_section 3 IsUnsigned (unsigned_least 5) unsigned m.funcs)
    (next (id == 4) (vector_section 4 IsTableType table_type_bytes table_type-shortest m.tables)
    (next (id == 5) (vector_section 5 IsLimits limits_bytes limits-shortest m.memories)
    (next (id == 6) (vector_section 6 IsGlobal global_bytes global-shortest m.globals)
    (next (id == 7) (vector_section 7 IsExport export_bytes export-shortest m.exports)
    (next (id == 8) (start-shortest m.start)
    (next (id == 9) (vector_section 9 IsElement element_bytes element-shortest m.elements)
    (next (id == 10) (vector_section 10 IsCode code_bytes code-shortest m.codes)
    (last (id == 11) (vector_section 11 IsSegment segment_bytes segment-shortest m.segments))))))))))))

pub canonical_bytes_are_shortest : CanonicalBytesAreShortest
canonical_bytes_are_shortest m bytes p = (module-shortest m 1).shortest.at bytes p.productions

pub spelled_contents_are_short : SpelledContentsAreShort
spelled_contents_are_short m bytes p = λ id. (module-shortest m id).short bytes p.productions

pub canonical_bytes_spell_again : CanonicalBytesSpellAgain
canonical_bytes_spell_again m bytes p = canonical_bytes_spell m p.profile (spelled_contents_are_short m bytes p)
