-- Exports in the middle (WebAssembly Core Specification 1.0, section 5.5.10); the states are this project's own.
use Rattle.std.specs.Prelude.{ℕ, List}
use Rattle.wasm_ast.specs.declared.modules.Export.{Export}
use Rattle.wasm_ast.specs.declared.modules.ExportKind.{ExportKind}
use Rattle.wasm_reading.specs.Readers.{Reader, ◌>>=◌, give}
use Rattle.wasm_reading.specs.ReadValues.{tag_at, u32_at}
use Rattle.wasm_reading.specs.ReadModules.{external_kind_of}
use Rattle.wasm_items.specs.Residuals.{WantsAByte}
use Rattle.wasm_items.specs.WantsBytes.{wants_then, wants_leb, wants_tag}
use Rattle.wasm_items.specs.LebStates.{rest_of_leb}
use Rattle.wasm_items.specs.NameStates.{rest_of_name, wants_name}
use Rattle.wasm_entries.specs.declared.export.ExportState.{ExportState}
use Rattle.wasm_entries.specs.declared.export.ExportState.TheVariants.{Name, Kind, Index}

-- the export of an index
abbrev pub indexed : List ℕ → ExportKind → ℕ → Reader Export
indexed name kind index = give (record { name = name; kind = kind; index = index })

-- what is read behind the name and the kind
abbrev pub behind_kind : List ℕ → ExportKind → Reader Export
behind_kind name kind = u32_at >>= indexed name kind

-- what is read behind the name
abbrev pub behind_name : List ℕ → Reader Export
behind_name name = tag_at external_kind_of >>= behind_kind name

-- an export in the middle
abbrev pub rest_of_export : ExportState → Reader Export
rest_of_export (Name name) = rest_of_name name >>= behind_name
rest_of_export (Kind name) = behind_name name
rest_of_export (Index name kind number) = rest_of_leb number >>= indexed name kind

-- an export wants a byte
pub wants_export : (state : ExportState) → WantsAByte (rest_of_export state)
wants_export (Name name) = wants_then behind_name (wants_name name)
wants_export (Kind name) = wants_then (behind_kind name) (wants_tag external_kind_of)
wants_export (Index name kind number) = wants_then (indexed name kind) (wants_leb number)
