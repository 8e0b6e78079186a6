-- What the lowering keeps, over the definitions alone. This project's own.
use Rattle.rw_program.specs.LonePrograms.{IsLoneProgram}
use Rattle.rw_program.specs.Programs.{Program}
use Rattle.lowering_table.specs.declared.Pages.{Pages}
use Rattle.lowering_table.specs.Modules.{ArePages, low_module}
use Rattle.machine_steps.specs.Agreement.{Alike}
use Rattle.machine_steps.specs.Ending.{BothEnd}
use Rattle.rich_reduction.specs.Starts.{rich}
use Rattle.wasm_execution.specs.Behaviour.{wasm}

-- the lowered module of each program that is lowered so far, with any memory of these counts of pages, prints and ends as the
-- program does, both ways, unless it is exhausted
abbrev pub LoweredBehaves : Type 0
LoweredBehaves = (p : Program) (pages : Pages) → IsLoneProgram p → ArePages pages → Alike (λ n. rich p n) (λ m. wasm (low_module p pages) m)

-- neither such a program nor its lowered module is ever stuck or exhausted, and both end, with the same numbers printed and
-- the same value
abbrev pub LoweredEnds : Type 0
LoweredEnds = (p : Program) (pages : Pages) → IsLoneProgram p → ArePages pages → BothEnd (λ n. rich p n) (λ m. wasm (low_module p pages) m)
