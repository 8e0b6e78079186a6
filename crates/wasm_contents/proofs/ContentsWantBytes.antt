-- Each content of a section that is in the middle wants a byte.
use Rattle.std.specs.Prelude.{Some, ◌++◌, [], ◌∷◌}
use Rattle.wasm_ast.specs.declared.modules.WModule.{WModule}
use Rattle.wasm_reading.specs.Readers.{give}
use Rattle.wasm_reading.specs.ReadValues.{u32_at}
use Rattle.wasm_reading.specs.ReadTypes.{func_type_at, memory_at, table_at}
use Rattle.wasm_reading.specs.ReadModules.{import_at, global_at, export_at, element_at, segment_at}
use Rattle.wasm_items.specs.Residuals.{WantsAByte}
use Rattle.wasm_items.specs.WantsBytes.{wants_then, wants_leb}
use Rattle.wasm_items.specs.LebStates.{rest_of_leb}
use Rattle.wasm_items.specs.LimitsStates.{rest_of_table, rest_of_limits, wants_table, wants_limits}
use Rattle.wasm_items.specs.Vectors.{wants_vector}
use Rattle.wasm_entries.specs.FuncTypeStates.{rest_of_func_type, wants_func_type}
use Rattle.wasm_entries.specs.ImportStates.{rest_of_import, wants_import}
use Rattle.wasm_entries.specs.GlobalStates.{rest_of_global, wants_global}
use Rattle.wasm_entries.specs.ExportStates.{rest_of_export, wants_export}
use Rattle.wasm_entries.specs.ElementStates.{rest_of_element, wants_element}
use Rattle.wasm_entries.specs.SegmentStates.{rest_of_segment, wants_segment}
use Rattle.wasm_codes.proofs.WantsBytes.{wants_code}
use Rattle.wasm_contents.specs.declared.content.Content.{Content}
use Rattle.wasm_contents.specs.declared.content.Content.TheVariants as contents
use Rattle.wasm_contents.specs.declared.entries.Entries.{Entries}
use Rattle.wasm_contents.specs.declared.entries.Entries.TheVariants.{Types, Imports, Funcs, Tables, Memories, Globals, Exports, Elements, Segments}
use Rattle.wasm_contents.specs.Contents.{rest_of_content, rest_of_entries, counted_codes, more_codes}

wants_entries : (m : WModule) (state : Entries) → WantsAByte (rest_of_entries m state)
wants_entries m (Types state) = wants_then (λ xs. give (record m { types = xs })) (wants_vector func_type_at rest_of_func_type wants_func_type state)
wants_entries m (Imports state) = wants_then (λ xs. give (record m { imports = xs })) (wants_vector import_at rest_of_import wants_import state)
wants_entries m (Funcs state) = wants_then (λ xs. give (record m { funcs = xs })) (wants_vector u32_at rest_of_leb wants_leb state)
wants_entries m (Tables state) = wants_then (λ xs. give (record m { tables = xs })) (wants_vector table_at rest_of_table wants_table state)
wants_entries m (Memories state) = wants_then (λ xs. give (record m { memories = xs })) (wants_vector memory_at (λ memory. rest_of_limits memory.limits) (λ memory. wants_limits memory.limits) state)
wants_entries m (Globals state) = wants_then (λ xs. give (record m { globals = xs })) (wants_vector global_at rest_of_global wants_global state)
wants_entries m (Exports state) = wants_then (λ xs. give (record m { exports = xs })) (wants_vector export_at rest_of_export wants_export state)
wants_entries m (Elements state) = wants_then (λ xs. give (record m { elements = xs })) (wants_vector element_at rest_of_element wants_element state)
wants_entries m (Segments state) = wants_then (λ xs. give (record m { segments = xs })) (wants_vector segment_at rest_of_segment wants_segment state)

pub wants_content : (m : WModule) (state : Content) → WantsAByte (rest_of_content m state)
wants_content m (contents.Entries state) = wants_entries m state
wants_content m (contents.Start state) = wants_then (λ n. give (record m { start = Some n })) (wants_leb state)
wants_content m (contents.Count alloc functions place state) = wants_then (counted_codes m functions place) (wants_leb state)
wants_content m (contents.Codes alloc before state behind) = wants_then (λ x. more_codes m (before ++ x ∷ []) behind) (wants_code state)
