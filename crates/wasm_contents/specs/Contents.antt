-- The content of a section in the middle (WebAssembly Core Specification 1.0, section 5.5); the states are this project's own.
use Rattle.std.specs.Prelude.{◌≡◌, ℕ, ◌==◌, ◌++◌, [], ◌∷◌, if◌then◌else◌, List, Option, None, Some, Result, Ok, Err}
use Rattle.wasm_ast.specs.declared.modules.WModule.{WModule}
use Rattle.wasm_ast.specs.declared.modules.Import.{Import}
use Rattle.wasm_ast.specs.declared.modules.WGlobal.{WGlobal}
use Rattle.wasm_ast.specs.declared.modules.Export.{Export}
use Rattle.wasm_ast.specs.declared.modules.ElemSeg.{ElemSeg}
use Rattle.wasm_ast.specs.declared.modules.DataSeg.{DataSeg}
use Rattle.wasm_ast.specs.declared.modules.Code.{Code}
use Rattle.wasm_ast.specs.declared.types.FuncType.{FuncType}
use Rattle.wasm_ast.specs.declared.types.Limits.{Limits}
use Rattle.wasm_reading.specs.declared.fault.DecodeError.{DecodeError}
use Rattle.wasm_reading.specs.declared.fault.DecodeFault.TheVariants.{CountMismatch}
use Rattle.wasm_reading.specs.Readers.{Reader, ◌>>=◌, give, fail, each_at}
use Rattle.wasm_reading.specs.ReadValues.{u32_at}
use Rattle.wasm_reading.specs.ReadTypes.{func_type_at, memory_at, table_at}
use Rattle.wasm_reading.specs.ReadModules.{import_at, global_at, export_at, element_at, segment_at, code_at}
use Rattle.wasm_items.specs.declared.vector.VectorState.{VectorState}
use Rattle.wasm_items.specs.declared.limits.TableState.{TableState}
use Rattle.wasm_items.specs.declared.limits.MemoryState.{MemoryState}
use Rattle.wasm_items.specs.LebStates.{LebState, rest_of_leb}
use Rattle.wasm_items.specs.LimitsStates.{rest_of_table, rest_of_limits}
use Rattle.wasm_items.specs.Residuals.{Takes, Stops}
use Rattle.wasm_items.specs.Vectors.{rest_of_vector, more_at}
use Rattle.wasm_entries.specs.declared.func_type.FuncTypeState.{FuncTypeState}
use Rattle.wasm_entries.specs.FuncTypeStates.{rest_of_func_type}
use Rattle.wasm_entries.specs.declared.import.ImportState.{ImportState}
use Rattle.wasm_entries.specs.ImportStates.{rest_of_import}
use Rattle.wasm_entries.specs.declared.global.GlobalState.{GlobalState}
use Rattle.wasm_entries.specs.GlobalStates.{rest_of_global}
use Rattle.wasm_entries.specs.declared.export.ExportState.{ExportState}
use Rattle.wasm_entries.specs.ExportStates.{rest_of_export}
use Rattle.wasm_entries.specs.declared.element.ElementState.{ElementState}
use Rattle.wasm_entries.specs.ElementStates.{rest_of_element}
use Rattle.wasm_entries.specs.declared.segment.SegmentState.{SegmentState}
use Rattle.wasm_entries.specs.SegmentStates.{rest_of_segment}
use Rattle.wasm_codes.specs.declared.code.CodeState.{CodeState}
use Rattle.wasm_codes.specs.CodeStates.{rest_of_code}
use Rattle.wasm_codes.specs.Places.{TakesBefore, StopsBefore}
use Rattle.wasm_contents.specs.declared.content.Content.{Content}
use Rattle.wasm_contents.specs.declared.content.Content.TheVariants as contents
use Rattle.wasm_contents.specs.declared.entries.Entries.{Entries}
use Rattle.wasm_contents.specs.declared.entries.Entries.TheVariants.{Types, Imports, Funcs, Tables, Memories, Globals, Exports, Elements, Segments}

-- function types in the middle, and the module with them
abbrev pub rest_of_types : WModule → VectorState FuncTypeState FuncType → Reader WModule
rest_of_types m state = do xs ← rest_of_vector func_type_at rest_of_func_type state; give (record m { types = xs })

-- imports
abbrev pub rest_of_imports : WModule → VectorState ImportState Import → Reader WModule
rest_of_imports m state = do xs ← rest_of_vector import_at rest_of_import state; give (record m { imports = xs })

-- functions
abbrev pub rest_of_funcs : WModule → VectorState LebState ℕ → Reader WModule
rest_of_funcs m state = do xs ← rest_of_vector u32_at rest_of_leb state; give (record m { funcs = xs })

-- tables
abbrev pub rest_of_tables : WModule → VectorState TableState Limits → Reader WModule
rest_of_tables m state = do xs ← rest_of_vector table_at rest_of_table state; give (record m { tables = xs })

-- memories
abbrev pub rest_of_memories : WModule → VectorState MemoryState Limits → Reader WModule
rest_of_memories m state = do xs ← rest_of_vector memory_at (λ memory. rest_of_limits memory.limits) state; give (record m { memories = xs })

-- globals
abbrev pub rest_of_globals : WModule → VectorState GlobalState WGlobal → Reader WModule
rest_of_globals m state = do xs ← rest_of_vector global_at rest_of_global state; give (record m { globals = xs })

-- exports
abbrev pub rest_of_exports : WModule → VectorState ExportState Export → Reader WModule
rest_of_exports m state = do xs ← rest_of_vector export_at rest_of_export state; give (record m { exports = xs })

-- element segments
abbrev pub rest_of_elements : WModule → VectorState ElementState ElemSeg → Reader WModule
rest_of_elements m state = do xs ← rest_of_vector element_at rest_of_element state; give (record m { elements = xs })

-- data segments
abbrev pub rest_of_segments : WModule → VectorState SegmentState DataSeg → Reader WModule
rest_of_segments m state = do xs ← rest_of_vector segment_at rest_of_segment state; give (record m { segments = xs })

-- the entries of a section in the middle, and the module with them
abbrev pub rest_of_entries : WModule → Entries → Reader WModule
rest_of_entries m (Types state) = rest_of_types m state
rest_of_entries m (Imports state) = rest_of_imports m state
rest_of_entries m (Funcs state) = rest_of_funcs m state
rest_of_entries m (Tables state) = rest_of_tables m state
rest_of_entries m (Memories state) = rest_of_memories m state
rest_of_entries m (Globals state) = rest_of_globals m state
rest_of_entries m (Exports state) = rest_of_exports m state
rest_of_entries m (Elements state) = rest_of_elements m state
rest_of_entries m (Segments state) = rest_of_segments m state

-- the start function
abbrev pub rest_of_start : WModule → LebState → Reader WModule
rest_of_start m state = do n ← rest_of_leb state; give (record m { start = Some n })

-- so many codes behind those that were read
abbrev pub more_codes : WModule → List Code → ℕ → Reader WModule
more_codes m before n = do xs ← more_at code_at before n; give (record m { codes = xs })

-- codes, of which there have to be as many as functions; the count stands at `place`
abbrev pub counted_codes : WModule → ℕ → ℕ → ℕ → Reader WModule
counted_codes m functions place n = do xs ← (if n == functions then each_at code_at n else fail CountMismatch place); give (record m { codes = xs })

-- the count of the codes
abbrev pub rest_of_count : WModule → ℕ → ℕ → LebState → Reader WModule
rest_of_count m functions place state = rest_of_leb state >>= counted_codes m functions place

-- a code, where so many stand behind it
abbrev pub rest_of_codes : WModule → List Code → CodeState → ℕ → Reader WModule
rest_of_codes m before state behind = do x ← rest_of_code state; more_codes m (before ++ x ∷ []) behind

-- the content of a section in the middle, and the module with it
abbrev pub rest_of_content : WModule → Content → Reader WModule
rest_of_content m (contents.Entries state) = rest_of_entries m state
rest_of_content m (contents.Start state) = rest_of_start m state
rest_of_content m (contents.Count alloc functions place state) = rest_of_count m functions place state
rest_of_content m (contents.Codes alloc before state behind) = rest_of_codes m before state behind

-- what is read behind a content that is whole, or in the middle
abbrev pub rest_behind_codes : WModule → Option Content → Reader WModule
rest_behind_codes m (Some state) = rest_of_content m state
rest_behind_codes m None = give m

-- the answer to a byte of the entries of a field: a further state, with the field as it was; or the entries, which stand
-- in it now; or a fault, or want of memory
abbrev pub PutsInto : {S A : Type 0} → (S → Reader A) → S → ℕ → ℕ → A → A → Result (Option S) DecodeError → Type 0
PutsInto rest_of old b at before after (Ok (Some state)) = (after ≡ before) × Takes (rest_of old) b at (rest_of state)
PutsInto rest_of old b at before after (Ok None) = Takes (rest_of old) b at (give after)
PutsInto rest_of old b at before after (Err e) = Stops (rest_of old) b at e

-- the answer to a byte is what the residual `old` makes of it, where the module is `m` now and a further state reads as
-- `rest_of` says, or want of memory
abbrev pub PushesInto : {S : Type 0} → (WModule → S → Reader WModule) → Reader WModule → ℕ → ℕ → WModule → Result (Option S) DecodeError → Type 0
PushesInto rest_of old b at m (Ok (Some state)) = Takes old b at (rest_of m state)
PushesInto rest_of old b at m (Ok None) = Takes old b at (give m)
PushesInto rest_of old b at m (Err e) = Stops old b at e

-- the same of a content, and of a byte before the declared end
abbrev pub PushesBefore : Reader WModule → ℕ → ℕ → WModule → Result (Option Content) DecodeError → Type 0
PushesBefore old b at m (Ok (Some state)) = TakesBefore old b at (rest_of_content m state)
PushesBefore old b at m (Ok None) = TakesBefore old b at (give m)
PushesBefore old b at m (Err e) = StopsBefore old b at e
