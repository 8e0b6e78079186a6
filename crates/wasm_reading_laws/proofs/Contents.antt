-- What a section other than a custom one holds, and that it is read exactly: a field of the module, by the section's id.
use Rattle.std.proofs.Common.{◌≡◌, ℕ, Bool, true, false, List, [], length, Option, None, Some}
use Rattle.std.specs.Prelude.{◌==◌, if◌then◌else◌}
use Rattle.wasm_ast.specs.declared.types.FuncType.{FuncType}
use Rattle.wasm_ast.specs.declared.types.Limits.{Limits}
use Rattle.wasm_ast.specs.declared.modules.Import.{Import}
use Rattle.wasm_ast.specs.declared.modules.Export.{Export}
use Rattle.wasm_ast.specs.declared.modules.WGlobal.{WGlobal}
use Rattle.wasm_ast.specs.declared.modules.ElemSeg.{ElemSeg}
use Rattle.wasm_ast.specs.declared.modules.DataSeg.{DataSeg}
use Rattle.wasm_ast.specs.declared.modules.Code.{Code}
use Rattle.wasm_ast.specs.declared.modules.WModule.{WModule}
use Rattle.wasm_grammar.specs.Nesting.{nesting_limit, NestsAtMost}
use Rattle.wasm_grammar.specs.ProfileInstructions.{FitsU32, IsShortListOf}
use Rattle.wasm_grammar.specs.Profile.{page_limit, entry_limit, OptionFits, FuncTypeFits, LimitsFit, ImportFits, GlobalFits, ExportFits, ElementFits, CodeFits, SegmentFits}
use Rattle.wasm_grammar.specs.GrammarValues.{IsUnsigned, IsVector}
use Rattle.wasm_grammar.specs.GrammarTypes.{IsFuncType, IsLimits, IsTableType}
use Rattle.wasm_grammar.specs.GrammarModules.{IsImport, IsGlobal, IsExport, IsElement, IsCode, IsSegment, IsStart}
use Rattle.wasm_reading.specs.Readers.{Reader}
use Rattle.wasm_reading.specs.ReadModules.{content_at}
use Rattle.wasm_reading_values.specs.Exactness.{Exact}
use Rattle.wasm_reading_values.proofs.Compose.{made}
use Rattle.wasm_reading_values.proofs.ExactLists.{fitting_vector, fitting_u32, indices}
use Rattle.wasm_reading_values.proofs.ExactTypes.{func_type, memory_type, table_type}
use Rattle.wasm_reading_values.proofs.ExactEntries.{import_entry, export_entry}
use Rattle.wasm_reading_bodies.proofs.Bodies.{globals, elements, segments, code_vectors}

-- a field of a module: its value, a module with another value, none of it, the profile and the production
pub record Field (T : Type 0) : Type 1 where
  pub get : WModule → T
  pub put : T → WModule → WModule
  pub none : T
  pub Fits : T → Type 0
  pub Content : T → List ℕ → Type 0

-- a field that is a list
abbrev list_field : {X : Type 0} → (WModule → List X) → (List X → WModule → WModule) → (X → Type 0) → (X → List ℕ → Type 0) → Field (List X)
list_field get put Fits Entry = record { get = get; put = put; none = []; Fits = IsShortListOf Fits; Content = IsVector Entry }

abbrev pub types_field : Field (List FuncType)
types_field = list_field (λ m. m.types) (λ xs m. record m { types = xs }) FuncTypeFits IsFuncType

abbrev pub imports_field : Field (List Import)
imports_field = list_field (λ m. m.imports) (λ xs m. record m { imports = xs }) ImportFits IsImport

abbrev pub funcs_field : Field (List ℕ)
funcs_field = list_field (λ m. m.funcs) (λ xs m. record m { funcs = xs }) FitsU32 IsUnsigned

abbrev pub tables_field : Field (List Limits)
tables_field = list_field (λ m. m.tables) (λ xs m. record m { tables = xs }) (LimitsFit entry_limit) IsTableType

abbrev pub memories_field : Field (List Limits)
memories_field = list_field (λ m. m.memories) (λ xs m. record m { memories = xs }) (LimitsFit page_limit) IsLimits

abbrev pub globals_field : Field (List WGlobal)
globals_field = list_field (λ m. m.globals) (λ xs m. record m { globals = xs }) GlobalFits IsGlobal

abbrev pub exports_field : Field (List Export)
exports_field = list_field (λ m. m.exports) (λ xs m. record m { exports = xs }) ExportFits IsExport

abbrev pub start_field : Field (Option ℕ)
start_field = record { get = λ m. m.start; put = λ n m. record m { start = n }; none = None; Fits = OptionFits; Content = IsStart }

abbrev pub elements_field : Field (List ElemSeg)
elements_field = list_field (λ m. m.elements) (λ xs m. record m { elements = xs }) ElementFits IsElement

abbrev pub codes_field : Field (List Code)
codes_field = list_field (λ m. m.codes) (λ xs m. record m { codes = xs }) (λ c. CodeFits c × NestsAtMost nesting_limit c.body) IsCode

abbrev pub segments_field : Field (List DataSeg)
segments_field = list_field (λ m. m.segments) (λ xs m. record m { segments = xs }) SegmentFits IsSegment

-- the module with the field that the bytes spell
abbrev pub Put : {T : Type 0} → Field T → WModule → WModule → List ℕ → Type 0
Put {T} f m with_it bytes = (x : T) × (with_it ≡ f.put x m) × (f.Fits x × f.Content x bytes)

-- the module with the start function that the bytes spell
abbrev pub PutStart : WModule → WModule → List ℕ → Type 0
PutStart m with_it bytes = (n : ℕ) × (with_it ≡ record m { start = Some n }) × (FitsU32 n × IsUnsigned n bytes)

-- the module with the codes that the bytes spell, of which there are as many as functions
abbrev pub PutCodes : WModule → WModule → List ℕ → Type 0
PutCodes m with_it bytes =
    (cs : List Code) × (with_it ≡ record m { codes = cs }) × (((length cs ≡ length m.funcs) × IsShortListOf (λ c. CodeFits c × NestsAtMost nesting_limit c.body) cs) × IsVector IsCode cs bytes)

-- one of two conditions, by a test
abbrev pub Chosen : Bool → Type 0 → Type 0 → Type 0
Chosen true A B = A
Chosen false A B = B

-- the module with what the section of this id spells
abbrev pub Adds : ℕ → WModule → WModule → List ℕ → Type 0
Adds id m with_it bytes =
    Chosen (id == 1) (Put types_field m with_it bytes)
    (Chosen (id == 2) (Put imports_field m with_it bytes)
    (Chosen (id == 3) (Put funcs_field m with_it bytes)
    (Chosen (id == 4) (Put tables_field m with_it bytes)
    (Chosen (id == 5) (Put memories_field m with_it bytes)
    (Chosen (id == 6) (Put globals_field m with_it bytes)
    (Chosen (id == 7) (Put exports_field m with_it bytes)
    (Chosen (id == 8) (PutStart m with_it bytes)
    (Chosen (id == 9) (Put elements_field m with_it bytes)
    (Chosen (id == 10) (PutCodes m with_it bytes)
    (Put segments_field m with_it bytes))))))))))

-- two exact readers, by a test
chosen : {A : Type 0} (test : Bool) {x y : Reader A} {P Q : A → List ℕ → Type 0} → Exact x P → Exact y Q → Exact (if test then x else y) (λ a bytes. Chosen test (P a bytes) (Q a bytes))
chosen true k l = k
chosen false k l = l

pub content : (id : ℕ) (m : WModule) → Exact (content_at id m) (Adds id m)
content id m =
    chosen (id == 1) (made (λ xs. record m { types = xs }) (fitting_vector func_type))
    (chosen (id == 2) (made (λ xs. record m { imports = xs }) (fitting_vector import_entry))
    (chosen (id == 3) (made (λ xs. record m { funcs = xs }) indices)
    (chosen (id == 4) (made (λ xs. record m { tables = xs }) (fitting_vector table_type))
    (chosen (id == 5) (made (λ xs. record m { memories = xs }) (fitting_vector memory_type))
    (chosen (id == 6) (made (λ xs. record m { globals = xs }) (fitting_vector globals))
    (chosen (id == 7) (made (λ xs. record m { exports = xs }) (fitting_vector export_entry))
    (chosen (id == 8) (made (λ n. record m { start = Some n }) fitting_u32)
    (chosen (id == 9) (made (λ xs. record m { elements = xs }) (fitting_vector elements))
    (chosen (id == 10) (made (λ xs. record m { codes = xs }) (code_vectors (length m.funcs)))
    (made (λ xs. record m { segments = xs }) (fitting_vector segments)))))))))))
