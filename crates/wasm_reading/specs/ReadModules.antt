-- Reading sections and modules (WebAssembly Core Specification 1.0, section 5.5), in the integer profile.
use Rattle.std.specs.Prelude.{ℕ, zero, suc, ◌+◌, ◌==◌, nat_lt, nat_le, Bool, if◌then◌else◌, List, [], ◌∷◌, length, None, Some, Result, Ok, Err}
use Rattle.wasm_ast.specs.declared.modules.Import.{Import}
use Rattle.wasm_ast.specs.declared.modules.ImportKind.{ImportKind}
use Rattle.wasm_ast.specs.declared.modules.ImportKind.TheVariants as imports
use Rattle.wasm_ast.specs.declared.modules.Export.{Export}
use Rattle.wasm_ast.specs.declared.modules.ExportKind.{ExportKind}
use Rattle.wasm_ast.specs.declared.modules.ExportKind.TheVariants as kinds
use Rattle.wasm_ast.specs.declared.modules.WGlobal.{WGlobal}
use Rattle.wasm_ast.specs.declared.modules.ElemSeg.{ElemSeg}
use Rattle.wasm_ast.specs.declared.modules.DataSeg.{DataSeg}
use Rattle.wasm_ast.specs.declared.modules.Code.{Code}
use Rattle.wasm_ast.specs.declared.modules.LocalRun.{LocalRun}
use Rattle.wasm_ast.specs.declared.modules.WModule.{WModule}
use Rattle.wasm_grammar.specs.CanonicalModules.{preamble}
use Rattle.wasm_grammar.specs.Profile.{local_limit}
use Rattle.wasm_grammar.specs.WorkedModules.{empty_module}
use Rattle.wasm_reading.specs.declared.fault.DecodeError.{DecodeError}
use Rattle.wasm_reading.specs.declared.fault.DecodeFault.{DecodeFault}
use Rattle.wasm_reading.specs.declared.fault.DecodeFault.TheVariants.{BadMagic, BadVersion, BadTag, BadOrder, CountMismatch, LimitOutside}
use Rattle.wasm_reading.specs.Readers.{Input, Reader, ◌>>=◌, give, fail, here, byte_at, each_at}
use Rattle.wasm_reading.specs.ReadValues.{tag_at, u32_at, vector_at, name_at, sized_at}
use Rattle.wasm_reading.specs.ReadTypes.{value_type_of, flag_of, func_type_at, memory_at, table_at}
use Rattle.wasm_reading.specs.ReadInstructions.{expression_at, constant_at}

-- what is imported, by the byte of its kind
abbrev pub import_kind_at : ExportKind → Reader ImportKind
import_kind_at kinds.Func = do n ← u32_at; give (imports.Func n)
import_kind_at kinds.Table = do l ← table_at; give (imports.Table l)
import_kind_at kinds.Memory = do l ← memory_at; give (imports.Memory l)
import_kind_at kinds.Global = do t ← tag_at value_type_of; mutable ← tag_at flag_of; give (imports.Global t mutable)

-- the kind of an import or an export, of a byte
abbrev pub external_kind_of : ℕ → Result ExportKind DecodeFault
external_kind_of b =
    if b == 0x00 then Ok kinds.Func
    else (if b == 0x01 then Ok kinds.Table
    else (if b == 0x02 then Ok kinds.Memory
    else (if b == 0x03 then Ok kinds.Global
    else Err BadTag)))

-- an import: the names of its module and its own, and what it is
abbrev pub import_at : Reader Import
import_at = do
  «module» ← name_at
  name ← name_at
  kind ← tag_at external_kind_of
  what ← import_kind_at kind
  give (record { «module» = «module»; name = name; what = what })

-- a global: its type and its initial value
abbrev pub global_at : Reader WGlobal
global_at = do
  t ← tag_at value_type_of
  mutable ← tag_at flag_of
  init ← constant_at
  give (record { ty = t; mutable = mutable; init = init })

-- an export: its name, its kind and its index
abbrev pub export_at : Reader Export
export_at = do
  name ← name_at
  kind ← tag_at external_kind_of
  index ← u32_at
  give (record { name = name; kind = kind; index = index })

-- an element segment: its table, its offset and its functions
abbrev pub element_at : Reader ElemSeg
element_at = do
  table ← u32_at
  offset ← constant_at
  funcs ← vector_at u32_at
  give (record { table = table; offset = offset; funcs = funcs })

-- a data segment: its memory, its offset and its bytes
abbrev pub segment_at : Reader DataSeg
segment_at = do
  memory ← u32_at
  offset ← constant_at
  bytes ← vector_at byte_at
  give (record { memory = memory; offset = offset; bytes = bytes })

-- so many runs of locals, where `before` locals are declared already
abbrev pub local_runs_at : ℕ → ℕ → Reader (List LocalRun)
local_runs_at before zero = give []
local_runs_at before (suc n) = do
  place ← here
  count ← u32_at
  t ← (if nat_lt local_limit (before + count) then fail LimitOutside place else tag_at value_type_of)
  runs ← local_runs_at (before + count) n
  give (record { count = count; ty = t } ∷ runs)

-- a function: its locals and its body
abbrev pub function_at : Reader Code
function_at = do
  n ← u32_at
  locals ← local_runs_at 0 n
  body ← expression_at
  give (record { locals = locals; body = body })

-- an entry of the code section: the size of a function, and the function
abbrev pub code_at : Reader Code
code_at = sized_at function_at

-- the codes, of which there are as many as functions
abbrev pub codes_at : ℕ → Reader (List Code)
codes_at functions = do
  place ← here
  n ← u32_at
  if n == functions then each_at code_at n else fail CountMismatch place

-- the content of a section other than a custom one, by its id, put into a module
abbrev pub content_at : ℕ → WModule → Reader WModule
content_at id m =
    if id == 1 then (do xs ← vector_at func_type_at; give (record m { types = xs }))
    else (if id == 2 then (do xs ← vector_at import_at; give (record m { imports = xs }))
    else (if id == 3 then (do xs ← vector_at u32_at; give (record m { funcs = xs }))
    else (if id == 4 then (do xs ← vector_at table_at; give (record m { tables = xs }))
    else (if id == 5 then (do xs ← vector_at memory_at; give (record m { memories = xs }))
    else (if id == 6 then (do xs ← vector_at global_at; give (record m { globals = xs }))
    else (if id == 7 then (do xs ← vector_at export_at; give (record m { exports = xs }))
    else (if id == 8 then (do n ← u32_at; give (record m { start = Some n }))
    else (if id == 9 then (do xs ← vector_at element_at; give (record m { elements = xs }))
    else (if id == 10 then (do xs ← codes_at (length m.funcs); give (record m { codes = xs }))
    else (do xs ← vector_at segment_at; give (record m { segments = xs })))))))))))

-- what stands where the input ends behind a section: there are as many codes as functions
abbrev pub module_at_end : WModule → Reader WModule
module_at_end m = do
  place ← here
  if length m.codes == length m.funcs then give m else fail CountMismatch place

-- the bytes of a custom section, which stand for nothing
abbrev pub custom_at : Reader (List ℕ)
custom_at = do
  size ← u32_at
  each_at byte_at size

-- the input has no further byte
abbrev pub is_empty : Input → Bool
is_empty input = length input.rest == 0

-- a section and what stands behind it, which `more` reads, where the last section had the id `last`
abbrev pub section_from : (ℕ → WModule → Reader WModule) → ℕ → WModule → Reader WModule
section_from more last m = do
  place ← here
  id ← byte_at
  if id == 0 then (do _ ← custom_at; more last m)
      else (if nat_lt 11 id then fail BadTag place
      else (if nat_le id last then fail BadOrder place
      else (do m' ← sized_at (content_at id m); more id m')))

-- sections up to the end of the input, of which the last one had this id. No input has more sections than `fuel`,
-- which is how many bytes follow.
abbrev pub sections_at : ℕ → ℕ → WModule → Reader WModule
sections_at zero last m = module_at_end m
sections_at (suc fuel) last m = λ input.
    if is_empty input then module_at_end m input else (section_from (sections_at fuel) last m) input

-- the bytes of the magic number and of the version
abbrev pub preamble_at : ℕ → List ℕ → Reader (Unit {0})
preamble_at k [] = give tt
preamble_at k (wanted ∷ bytes) = do
  place ← here
  b ← byte_at
  if b == wanted then preamble_at (k + 1) bytes
      else (if nat_lt k 4 then fail BadMagic place else fail BadVersion place)

-- a module: the magic number and the version, and its sections
abbrev pub module_at : Reader WModule
module_at = do
  _ ← preamble_at 0 preamble
  λ input. sections_at (length input.rest) 0 empty_module input

-- what was read, without the input behind it
abbrev pub without_rest : {A : Type 0} → Result (A × Input) DecodeError → Result A DecodeError
without_rest (Ok done) = Ok done.0
without_rest (Err e) = Err e

-- what the bytes of a binary are: the module that they spell, or the first fault and its place
abbrev pub reading_of : List ℕ → Result WModule DecodeError
reading_of bytes = without_rest (module_at (record { at = 0; end = None; rest = bytes }))
