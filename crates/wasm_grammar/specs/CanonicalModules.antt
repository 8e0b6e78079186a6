-- The canonical bytes of a module: each number in its least spelling, no custom section, and no section
-- without entries (WebAssembly Core Specification 1.0, section 5.5).
use Rattle.std.specs.Prelude.{ℕ, ◌^◌, ◌<◌, ◌==◌, if◌then◌else◌, List, [], ◌∷◌, ◌++◌, length, Option, Some, None}
use Rattle.wasm_leb.specs.Leb.{unsigned_least}
use Rattle.wasm_ast.specs.declared.modules.Import.{Import}
use Rattle.wasm_ast.specs.declared.modules.ImportKind.{ImportKind}
use Rattle.wasm_ast.specs.declared.modules.ImportKind.TheVariants.{Func, Table, Memory, Global}
use Rattle.wasm_ast.specs.declared.modules.Export.{Export}
use Rattle.wasm_ast.specs.declared.modules.WGlobal.{WGlobal}
use Rattle.wasm_ast.specs.declared.modules.ElemSeg.{ElemSeg}
use Rattle.wasm_ast.specs.declared.modules.DataSeg.{DataSeg}
use Rattle.wasm_ast.specs.declared.modules.Code.{Code}
use Rattle.wasm_ast.specs.declared.modules.LocalRun.{LocalRun}
use Rattle.wasm_ast.specs.declared.modules.WModule.{WModule}
use Rattle.wasm_grammar.specs.Tags.{value_type, mutability, export_kind}
use Rattle.wasm_grammar.specs.CanonicalTypes.{vector_bytes, byte_vector_bytes, func_type_bytes, limits_bytes, table_type_bytes}
use Rattle.wasm_grammar.specs.CanonicalInstructions.{expression_bytes, constant_bytes}

-- what is imported
abbrev pub import_kind_bytes : ImportKind → List ℕ
import_kind_bytes (Func n) = 0x00 ∷ unsigned_least 5 n
import_kind_bytes (Table l) = 0x01 ∷ table_type_bytes l
import_kind_bytes (Memory l) = 0x02 ∷ limits_bytes l
import_kind_bytes (Global t mutable) = 0x03 ∷ value_type t ∷ mutability mutable ∷ []

-- an import: the names of its module and its own, and what it is
abbrev pub import_bytes : Import → List ℕ
import_bytes i = byte_vector_bytes i.module ++ (byte_vector_bytes i.name ++ import_kind_bytes i.what)

-- a global: its type, whether it may be written, and its initial value
abbrev pub global_bytes : WGlobal → List ℕ
global_bytes g = value_type g.ty ∷ mutability g.mutable ∷ constant_bytes g.init

-- an export: its name, its kind and its index
abbrev pub export_bytes : Export → List ℕ
export_bytes e = byte_vector_bytes e.name ++ (export_kind e.kind ∷ unsigned_least 5 e.index)

-- an element segment: its table, its offset and its functions
abbrev pub element_bytes : ElemSeg → List ℕ
element_bytes s = unsigned_least 5 s.table ++ (constant_bytes s.offset ++ vector_bytes (unsigned_least 5) s.funcs)

-- so many locals of one type
abbrev pub local_run_bytes : LocalRun → List ℕ
local_run_bytes r = unsigned_least 5 r.count ++ value_type r.ty ∷ []

-- a function: its locals and its body
abbrev pub function_bytes : Code → List ℕ
function_bytes c = vector_bytes local_run_bytes c.locals ++ expression_bytes c.body

-- an entry of the code section: the length of a function, and the function
abbrev pub code_bytes : Code → List ℕ
code_bytes c = unsigned_least 5 (length (function_bytes c)) ++ function_bytes c

-- a data segment: its memory, its offset and its bytes
abbrev pub segment_bytes : DataSeg → List ℕ
segment_bytes s = unsigned_least 5 s.memory ++ (constant_bytes s.offset ++ byte_vector_bytes s.bytes)

-- the content of the type section
abbrev pub type_content : WModule → List ℕ
type_content m = vector_bytes func_type_bytes m.types

-- the content of the import section
abbrev pub import_content : WModule → List ℕ
import_content m = vector_bytes import_bytes m.imports

-- the content of the function section
abbrev pub function_content : WModule → List ℕ
function_content m = vector_bytes (unsigned_least 5) m.funcs

-- the content of the table section
abbrev pub table_content : WModule → List ℕ
table_content m = vector_bytes table_type_bytes m.tables

-- the content of the memory section
abbrev pub memory_content : WModule → List ℕ
memory_content m = vector_bytes limits_bytes m.memories

-- the content of the global section
abbrev pub global_content : WModule → List ℕ
global_content m = vector_bytes global_bytes m.globals

-- the content of the export section
abbrev pub export_content : WModule → List ℕ
export_content m = vector_bytes export_bytes m.exports

-- the index of a start function
abbrev pub start_bytes : Option ℕ → List ℕ
start_bytes None = []
start_bytes (Some n) = unsigned_least 5 n

-- the content of the start section
abbrev pub start_content : WModule → List ℕ
start_content m = start_bytes m.start

-- the content of the element section
abbrev pub element_content : WModule → List ℕ
element_content m = vector_bytes element_bytes m.elements

-- the content of the code section
abbrev pub code_content : WModule → List ℕ
code_content m = vector_bytes code_bytes m.codes

-- the content of the data section
abbrev pub data_content : WModule → List ℕ
data_content m = vector_bytes segment_bytes m.segments

-- the content of the section with this id, of 1 to 11
abbrev pub content_of : ℕ → WModule → List ℕ
content_of id m =
    if id == 1 then type_content m
    else (if id == 2 then import_content m
    else (if id == 3 then function_content m
    else (if id == 4 then table_content m
    else (if id == 5 then memory_content m
    else (if id == 6 then global_content m
    else (if id == 7 then export_content m
    else (if id == 8 then start_content m
    else (if id == 9 then element_content m
    else (if id == 10 then code_content m
    else (if id == 11 then data_content m else []))))))))))

-- each section's content has fewer than 2 ^ 32 bytes
abbrev pub HasShortContents : WModule → Type 0
HasShortContents m = (id : ℕ) → length (content_of id m) < 2 ^ 32

-- a section: its id, the length of its content, and its content
abbrev pub section_bytes : ℕ → List ℕ → List ℕ
section_bytes id content = id ∷ (unsigned_least 5 (length content) ++ content)

-- a section that is left out where there are no entries
unfoldable pub section_of : ℕ → {X : Type 0} → List X → List ℕ → List ℕ
section_of id xs content = if length xs == 0 then [] else section_bytes id content

-- the start section, which is left out where there is no start function
unfoldable pub start_section : Option ℕ → List ℕ
start_section None = []
start_section (Some n) = section_bytes 8 (unsigned_least 5 n)

-- the magic number and the version
abbrev pub preamble : List ℕ
preamble = 0x00 ∷ 0x61 ∷ 0x73 ∷ 0x6D ∷ 0x01 ∷ 0x00 ∷ 0x00 ∷ 0x00 ∷ []

-- a module
abbrev pub module_bytes : WModule → List ℕ
module_bytes m =
    preamble
    ++ (section_of 1 m.types (type_content m)
    ++ (section_of 2 m.imports (import_content m)
    ++ (section_of 3 m.funcs (function_content m)
    ++ (section_of 4 m.tables (table_content m)
    ++ (section_of 5 m.memories (memory_content m)
    ++ (section_of 6 m.globals (global_content m)
    ++ (section_of 7 m.exports (export_content m)
    ++ (start_section m.start
    ++ (section_of 9 m.elements (element_content m)
    ++ (section_of 10 m.codes (code_content m)
    ++ section_of 11 m.segments (data_content m)))))))))))
