-- Laws of the lowered modules. This project's own.
use Rattle.rw_program.specs.LonePrograms.{IsLoneProgram}
use Rattle.rw_program.specs.Programs.{Program}
use Rattle.wasm_grammar.specs.Profile.{IsInProfile}
use Rattle.wasm_grammar.specs.CanonicalModules.{HasShortContents}
use Rattle.lowering_table.specs.declared.Pages.{Pages}
use Rattle.lowering_table.specs.Modules.{ArePages, low_module}

-- the lowered module of each program that is lowered so far is in the profile
abbrev pub LowIsInProfile : Type 0
LowIsInProfile = (p : Program) (pages : Pages) → IsLoneProgram p → ArePages pages → IsInProfile (low_module p pages)

-- each section of it has a content of fewer than 2 ^ 32 bytes
abbrev pub LowHasShortContents : Type 0
LowHasShortContents = (p : Program) (pages : Pages) → IsLoneProgram p → ArePages pages → HasShortContents (low_module p pages)
