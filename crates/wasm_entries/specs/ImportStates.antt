-- Imports in the middle (WebAssembly Core Specification 1.0, section 5.5.5); the states are this project's own.
use Rattle.std.specs.Prelude.{ℕ, Bool, List}
use Rattle.wasm_ast.specs.declared.types.ValTy.{ValTy}
use Rattle.wasm_ast.specs.declared.types.Limits as ast
use Rattle.wasm_ast.specs.declared.modules.Import.{Import}
use Rattle.wasm_ast.specs.declared.modules.ImportKind.{ImportKind}
use Rattle.wasm_ast.specs.declared.modules.ImportKind.TheVariants as imports
use Rattle.wasm_ast.specs.declared.modules.ExportKind.{ExportKind}
use Rattle.wasm_reading.specs.Readers.{Reader, ◌>>=◌, give}
use Rattle.wasm_reading.specs.ReadValues.{tag_at, name_at}
use Rattle.wasm_reading.specs.ReadTypes.{value_type_of, flag_of}
use Rattle.wasm_reading.specs.ReadModules.{external_kind_of, import_kind_at}
use Rattle.wasm_items.specs.Residuals.{WantsAByte}
use Rattle.wasm_items.specs.WantsBytes.{wants_then, wants_leb, wants_tag}
use Rattle.wasm_items.specs.LebStates.{rest_of_leb}
use Rattle.wasm_items.specs.LimitsStates.{rest_of_limits, rest_of_table, wants_limits, wants_table}
use Rattle.wasm_items.specs.NameStates.{rest_of_name, wants_name}
use Rattle.wasm_entries.specs.declared.import.ImportKindState.{ImportKindState}
use Rattle.wasm_entries.specs.declared.import.ImportKindState.TheVariants.{Func, Table, Memory, ValueType, Mutability}
use Rattle.wasm_entries.specs.declared.import.ImportState.{ImportState}
use Rattle.wasm_entries.specs.declared.import.ImportState.TheVariants.{Module, Name, Kind, What}

-- an imported function
abbrev pub give_func : ℕ → Reader ImportKind
give_func n = give (imports.Func n)

-- an imported table
abbrev pub give_table : ast.Limits → Reader ImportKind
give_table limits = give (imports.Table limits)

-- an imported memory
abbrev pub give_memory : ast.Limits → Reader ImportKind
give_memory limits = give (imports.Memory limits)

-- an imported global
abbrev pub give_global : ValTy → Bool → Reader ImportKind
give_global t mutable = give (imports.Global t mutable)

-- what is read behind the value type of a global
abbrev pub behind_type : ValTy → Reader ImportKind
behind_type t = tag_at flag_of >>= give_global t

-- what is imported, in the middle
abbrev pub rest_of_import_kind : ImportKindState → Reader ImportKind
rest_of_import_kind (Func number) = rest_of_leb number >>= give_func
rest_of_import_kind (Table table) = rest_of_table table >>= give_table
rest_of_import_kind (Memory memory) = rest_of_limits memory.limits >>= give_memory
rest_of_import_kind ValueType = tag_at value_type_of >>= behind_type
rest_of_import_kind (Mutability t) = behind_type t

-- it wants a byte
pub wants_import_kind : (state : ImportKindState) → WantsAByte (rest_of_import_kind state)
wants_import_kind (Func number) = wants_then give_func (wants_leb number)
wants_import_kind (Table table) = wants_then give_table (wants_table table)
wants_import_kind (Memory memory) = wants_then give_memory (wants_limits memory.limits)
wants_import_kind ValueType = wants_then behind_type (wants_tag value_type_of)
wants_import_kind (Mutability t) = wants_then (give_global t) (wants_tag flag_of)

-- the import of these names
abbrev pub named : List ℕ → List ℕ → ImportKind → Reader Import
named «module» name what = give (record { «module» = «module»; name = name; what = what })

-- what is read behind the kind
abbrev pub behind_kind : List ℕ → List ℕ → ExportKind → Reader Import
behind_kind «module» name kind = import_kind_at kind >>= named «module» name

-- what is read behind both names
abbrev pub behind_names : List ℕ → List ℕ → Reader Import
behind_names «module» name = tag_at external_kind_of >>= behind_kind «module» name

-- what is read behind the name of the module
abbrev pub behind_module : List ℕ → Reader Import
behind_module «module» = name_at >>= behind_names «module»

-- an import in the middle
abbrev pub rest_of_import : ImportState → Reader Import
rest_of_import (Module alloc «module») = rest_of_name «module» >>= behind_module
rest_of_import (Name alloc «module» name) = rest_of_name name >>= behind_names «module»
rest_of_import (Kind alloc «module» name) = behind_names «module» name
rest_of_import (What «module» name what) = rest_of_import_kind what >>= named «module» name

-- an import wants a byte
pub wants_import : (state : ImportState) → WantsAByte (rest_of_import state)
wants_import (Module alloc «module») = wants_then behind_module (wants_name «module»)
wants_import (Name alloc «module» name) = wants_then (behind_names «module») (wants_name name)
wants_import (Kind alloc «module» name) = wants_then (behind_kind «module» name) (wants_tag external_kind_of)
wants_import (What «module» name what) = wants_then (named «module» name) (wants_import_kind what)
