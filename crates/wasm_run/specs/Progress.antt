-- How far a machine that runs a module has come, and its step (WebAssembly Core Specification 1.0, section 4.2; the counts are
-- this project's own).
use Rattle.std.specs.Prelude.{◌≡◌, ◌⊎◌, ℕ, ◌+◌, List, [], ◌∷◌, Option, Some, None}
use Rattle.std.specs.List.{flat_map}
use Rattle.machine_steps.specs.declared.End.{End}
use Rattle.machine_steps.specs.Steps.{Turn, Went, Ended, NoStep}
use Rattle.wasm_ast.specs.declared.instructions.WInstr.{WInstr}
use Rattle.wasm_ast.specs.declared.modules.WModule.{WModule}
use Rattle.wasm_ast.specs.Operations.{operation_of}
use Rattle.wasm_execution.specs.Configurations.{ThenCall, Config, Event, prints}
use Rattle.wasm_execution.specs.Environments.{environment_of}
use Rattle.wasm_execution.specs.Starts.{Begins, start_of}
use Rattle.wasm_execution.specs.Steps.{step}
use Rattle.wasm_run_dispatch.specs.Finding.{Allocates}
use Rattle.wasm_machine.specs.Leaving.{LeavesNext}

-- the module, the configuration, how many steps were made, and how the run has ended, where it has
pub record Progress : Type 0 where
  pub source : WModule
  pub config : Config
  pub steps : ℕ
  pub ended : Option End

abbrev pub ended_of : Progress → Option End
ended_of p = p.ended

abbrev pub steps_of : Progress → ℕ
steps_of p = p.steps

-- a turn of a machine of this module that has made so many steps
abbrev pub counted_turn : WModule → ℕ → Turn Event Config → Turn ℕ Progress
counted_turn m made (Went es c) = Went (flat_map prints es) (record { source = m; config = c; steps = made + 1; ended = None })
counted_turn m made (Ended es e c) = Ended (flat_map prints es) e (record { source = m; config = c; steps = made + 1; ended = Some e })
counted_turn m made NoStep = NoStep

-- a step of a machine that has not ended
abbrev pub next_of : Progress → Turn ℕ Progress
next_of p = counted_turn p.source p.steps (step (environment_of p.source) p.config)

-- before the first step
abbrev pub begun : WModule → Config → Progress
begun m c = record { source = m; config = c; steps = 0; ended = None }

-- a machine of a module that begins
pub record IsBegun (m : WModule) (p : Progress) : Type 0 where
  pub first : Config
  pub starts : start_of m ≡ Begins first
  pub is : p ≡ begun m first

-- a start function runs, behind which `main` is called
abbrev pub IsInStart : Config → Type 0
IsInStart c = (n : ℕ) × (c.bottom ≡ ThenCall n)

-- memory may be wanting for a step: for a call, for a list that is opened, for a growth of the memory, and where the start
-- function itself may be left
abbrev pub MayAllocate : Config → Type 0
MayAllocate c = (IsInStart c × (c.callers ≡ []) × LeavesNext c.here.rest) ⊎ ((i : WInstr) × (rest : List WInstr) × (c.here.rest ≡ i ∷ rest) × Allocates (operation_of i))
