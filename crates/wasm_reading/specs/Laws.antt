-- What holds of reading; this project's own.
use Rattle.std.specs.Prelude.{◌≡◌, ℕ, ◌≤◌, Bool, length}
use Rattle.wasm_ast.specs.declared.modules.WModule.{WModule}
use Rattle.wasm_reading.specs.Readers.{Input}
use Rattle.wasm_reading.specs.ReadInstructions.{instructions_at}
use Rattle.wasm_reading.specs.ReadModules.{sections_at}

-- how many bytes follow is enough for the number that bounds a list of instructions
abbrev pub InstructionsNeedNoMore : Type 0
InstructionsNeedNoMore =
    (fuel : ℕ) (with_else : Bool) (depth : ℕ) (input : Input) → length input.rest ≤ fuel →
    instructions_at fuel with_else depth input ≡ instructions_at (length input.rest) with_else depth input

-- how many bytes follow is enough for the number that bounds the sections
abbrev pub SectionsNeedNoMore : Type 0
SectionsNeedNoMore =
    (fuel last : ℕ) (m : WModule) (input : Input) → length input.rest ≤ fuel → sections_at fuel last m input ≡ sections_at (length input.rest) last m input
