-- A lowered module of any program starts with a heap, and has allocators. This project's own.
use Rattle.std.specs.Prelude.{◌≡◌, ◌*◌, ℕ, []}
use Rattle.machine_steps.specs.Steps.{reached}
use Rattle.wasm_execution.specs.Configurations.{Config}
use Rattle.wasm_execution.specs.Environments.{environment_of}
use Rattle.wasm_execution.specs.Starts.{Begins, first_store, start_of}
use Rattle.wasm_execution.specs.Steps.{step}
use Rattle.memory_bytes.specs.Bytes.{HasBytes}
use Rattle.heap_blocks.specs.Blocks.{first_blocks}
use Rattle.allocator_contract.specs.Heaps.{linear_words, IsHeap}
use Rattle.allocator_contract.specs.Laws.{IsAtStart}
use Rattle.allocator_contract.specs.Contract.{HasAllocator, alloc_type, free_type}
use Rattle.rw_program.specs.Programs.{Program}
use Rattle.lowering_table.specs.declared.Pages.{Pages}
use Rattle.lowering_table.specs.Allocators.{Allocators}
use Rattle.lowering_table.specs.Modules.{ArePages}
use Rattle.lowering_modules.specs.Modules.{lowered_module}

-- the memory and the globals of the first store
abbrev pub FirstStoreIsAtStart : Type 0
FirstStoreIsAtStart = (codes_of : Allocators) (p : Program) (pages : Pages) → ArePages pages → IsAtStart pages.lin pages.unr (first_store (lowered_module codes_of p pages))

-- where the module starts, one free block tiles the linear part, and the region's next address is its start
abbrev pub ModulesStartWithHeaps : Type 0
ModulesStartWithHeaps =
    (codes_of : Allocators) (p : Program) (pages : Pages) (c : Config) → ArePages pages → start_of (lowered_module codes_of p pages) ≡ Begins c
    → IsHeap pages.lin pages.unr (65536 * pages.lin) c.store [] (first_blocks (linear_words pages.lin))

-- the memory is made of bytes after each number of steps
abbrev pub ModulesHaveBytes : Type 0
ModulesHaveBytes =
    (codes_of : Allocators) (p : Program) (pages : Pages) (c : Config) → start_of (lowered_module codes_of p pages) ≡ Begins c
    → (n : ℕ) → HasBytes (reached (step (environment_of (lowered_module codes_of p pages))) n c).at

-- function 1 gives blocks of the linear part
abbrev pub FirstIsAllocator : Type 0
FirstIsAllocator = (codes_of : Allocators) (p : Program) (pages : Pages) → HasAllocator (environment_of (lowered_module codes_of p pages)) 1 alloc_type codes_of.alloc_lin

-- function 2 takes them back
abbrev pub SecondIsAllocator : Type 0
SecondIsAllocator = (codes_of : Allocators) (p : Program) (pages : Pages) → HasAllocator (environment_of (lowered_module codes_of p pages)) 2 free_type codes_of.free_lin

-- function 3 gives what is left of the region
abbrev pub ThirdIsAllocator : Type 0
ThirdIsAllocator = (codes_of : Allocators) (p : Program) (pages : Pages) → HasAllocator (environment_of (lowered_module codes_of p pages)) 3 alloc_type codes_of.alloc_unr
