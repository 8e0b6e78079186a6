-- A program with two globals and its lowered module, and the module of a function that is ended at once, run (this project's own
-- rows).
use Rattle.std.specs.Prelude.{◌≡◌, ℕ, ◌-◌, [], ◌∷◌}
use Rattle.std.specs.Int.{cast_signed, w64}
use Rattle.rw_types.specs.declared.instrs.Instr.{Unreachable}
use Rattle.rw_program.specs.LonePrograms.{lone_program}
use Rattle.lowering_table.specs.declared.Pages.{Pages}
use Rattle.lowering_table.specs.Modules.{low_module}
use Rattle.lowering_table.specs.Worked.{notes_at, two_globals}
use Rattle.machine_steps.specs.declared.End.{End}
use Rattle.machine_steps.specs.declared.End.TheVariants as end
use Rattle.machine_steps.specs.declared.Trap.TheVariants as trap
use Rattle.machine_steps.specs.Agreement.{Seen}
use Rattle.machine_steps.specs.Steps.{Going, Over}
use Rattle.rich_reduction.specs.Starts.{rich}
use Rattle.wasm_execution.specs.Behaviour.{wasm}

-- a run that takes so many steps, and no fewer, prints nothing, and ends so
pub record Takes (run : ℕ → Seen) (n : ℕ) (how : End) : Type 0 where
  pub before : run (n - 1) ≡ record { printed = []; stand = Going }
  pub after : run n ≡ record { printed = []; stand = Over how }

abbrev pub row_pages : Pages
row_pages = record { lin = 16; unr = 16 }

-- 5, the sum of 1 and 2, and a function that gives 9
abbrev pub GlobalsTake : Type 0
GlobalsTake = Takes (λ n. rich two_globals n) 14 (end.Value (cast_signed w64 9))

abbrev pub LoweredGlobalsTake : Type 0
LoweredGlobalsTake = Takes (λ m. wasm (low_module two_globals row_pages) m) 26 (end.Value (cast_signed w64 9))

-- the trap code, and the trap
abbrev pub EndedFunctionTraps : Type 0
EndedFunctionTraps = Takes (λ m. wasm (low_module (lone_program (Unreachable ∷ []) (notes_at (Unreachable ∷ []) (0 ∷ []))) row_pages) m) 4 (end.Trap trap.Unreachable)
