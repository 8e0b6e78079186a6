-- Lowered modules are valid, and start. This project's own.
use Rattle.std.specs.Prelude.{◌≡◌}
use Rattle.rw_program.specs.LonePrograms.{IsLoneProgram}
use Rattle.rw_program.specs.Programs.{Program}
use Rattle.lowering_table.specs.declared.Pages.{Pages}
use Rattle.lowering_table.specs.Modules.{ArePages, low_module}
use Rattle.wasm_typing.specs.Modules.{IsValid}
use Rattle.wasm_execution.specs.Configurations.{Config}
use Rattle.wasm_execution.specs.Starts.{Begins, start_of}

-- the lowered module of each program that is lowered so far is valid
abbrev pub LowIsValid : Type 0
LowIsValid = (p : Program) (pages : Pages) → IsLoneProgram p → ArePages pages → IsValid (low_module p pages)

-- and has a first configuration
abbrev pub LowStarts : Type 0
LowStarts = (p : Program) (pages : Pages) → IsLoneProgram p → ArePages pages → (c : Config) × (start_of (low_module p pages) ≡ Begins c)
