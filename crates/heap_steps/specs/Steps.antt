-- What a step of any module says of what it does to memory, of the calls of allocators that run, and of an end for want of room.
-- This project's own.
use Rattle.std.specs.Prelude.{◌≡◌, ℕ, ◌+◌, ◌*◌, ◌≤◌, ◌⊎◌, false, List, [], ◌∷◌, ◌++◌, length, slice_get}
use Rattle.memory_words.specs.Memories.{zeros, write}
use Rattle.machine_steps.specs.declared.End.TheVariants.{Trap}
use Rattle.machine_steps.specs.declared.Trap.TheVariants.{Exhausted}
use Rattle.machine_steps.specs.Steps.{Turn, Went, Ended, NoStep, Over, reached}
use Rattle.wasm_execution.specs.Configurations.{Config, Event, Touch, Stopped}
use Rattle.wasm_execution.specs.Environments.{Environment, is_allocator}
use Rattle.wasm_execution.specs.Memories.{touches}
use Rattle.wasm_execution.specs.Steps.{step}
use Rattle.heap_events.specs.Events.{HeapEvent}
use Rattle.heap_events.specs.Safety.{IsInside}
use Rattle.heap_histories.specs.Histories.{IsHeapAfter}

-- a number was stored within memory, and outside the allocators that is told
abbrev pub IsStored : Environment → Config → List Event → List ℕ → Type 0
IsStored e c said memory =
    (address : ℕ) × (count : ℕ) × (v : ℕ) × (address + count ≤ length c.store.memory) × (said ≡ touches e c.here.function address count) × (memory ≡ write count c.store.memory address v)

-- memory grew by pages of zeros
abbrev pub IsGrown : Config → List ℕ → Type 0
IsGrown c memory = (pages : ℕ) × (memory ≡ c.store.memory ++ zeros (65536 * pages))

-- memory is what it was, or a number was stored, or it grew
abbrev pub LeavesMemory : Environment → Config → Turn Event Config → Type 0
LeavesMemory e c (Went said d) = (d.store.memory ≡ c.store.memory) ⊎ (IsStored e c said d.store.memory ⊎ IsGrown c d.store.memory)
LeavesMemory e c (Ended said end d) = d ≡ c
LeavesMemory e c NoStep = Unit {0}

abbrev pub StepsTellStores : Type 0
StepsTellStores = (e : Environment) (c : Config) → LeavesMemory e c (step e c)

-- a step outside the allocators whose loads and stores lie inside what was given, and that leaves the length of memory and the
-- first two globals, leaves a store that has its heap after the same events
abbrev pub StepsKeepHeaps : Type 0
StepsKeepHeaps =
    (e : Environment) (c d : Config) (said : List Event) (linear unrestricted : ℕ) (es : List HeapEvent) → step e c ≡ Went said d → is_allocator e c.here.function ≡ false
    → ((address count : ℕ) → said ≡ Touch address count ∷ [] → IsInside es address count) → length d.store.memory ≡ length c.store.memory
    → slice_get d.store.globals 0 ≡ slice_get c.store.globals 0 → slice_get d.store.globals 1 ≡ slice_get c.store.globals 1
    → IsHeapAfter linear unrestricted es c.store → IsHeapAfter linear unrestricted es d.store

-- where a run ends for want of room, the step says so and nothing else
abbrev pub SaysWhy : Turn Event Config → Type 0
SaysWhy (Ended said (Trap Exhausted) d) = said ≡ Stopped Exhausted ∷ []
SaysWhy _ = Unit {0}

abbrev pub StepsSayWhy : Type 0
StepsSayWhy = (e : Environment) (c : Config) → SaysWhy (step e c)

-- so a run that is over for want of room has said so last
abbrev pub RunsSayWhy : Type 0
RunsSayWhy =
    (e : Environment) (c : Config) (n : ℕ) → (reached (step e) n c).stand ≡ Over (Trap Exhausted)
    → (before : List Event) × ((reached (step e) n c).said ≡ before ++ (Stopped Exhausted ∷ []))
