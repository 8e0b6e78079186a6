-- Two byte lists that are written out, and the modules that are read from them; this project's own rows.
use Rattle.std.specs.Prelude.{◌≡◌, Ok}
use Rattle.wasm_grammar.specs.WorkedModules.{six_module}
use Rattle.wasm_spelling.specs.PaddedModule.{padded_module_bytes}
use Rattle.wasm_spelling.specs.FullModule.{full_module, full_module_bytes}
use Rattle.wasm_reading.specs.ReadModules.{reading_of}

-- a module with numbers that are longer than they need to be and with two custom sections
abbrev pub PaddedModuleIsRead : Type 0
PaddedModuleIsRead = reading_of padded_module_bytes ≡ Ok six_module

-- a module with a section of each kind
abbrev pub FullModuleIsRead : Type 0
FullModuleIsRead = reading_of full_module_bytes ≡ Ok full_module
