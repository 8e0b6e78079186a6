-- What is read of the linear part of a memory. It begins at byte 16.
use Rattle.std.specs.Prelude.{◌≡◌, ℕ, ◌*◌, ◌≤◌, List, map, Option, Some, None, Result, Ok, Err}
use Rattle.memory_words.specs.Memories.{word}
use Rattle.wasm_execution.specs.Configurations.{Store, Config}
use Rattle.heap_blocks.specs.Blocks.{Block, IsReadable, address_of, words_of}
use Rattle.heap_blocks.specs.FreeLists.{free_list}
use Rattle.allocator_contract.specs.Heaps.{linear_words, IsHeap}
use Rattle.allocator_contract.specs.Walks.{CanBeRead}
use Rattle.free_view.specs.Views.{Hole, BrokenList, free_view}

-- a block as a hole
abbrev pub hole_of : Block → Hole
hole_of b = record { at = address_of b; words = words_of b }

-- the blocks of a free list as holes; or there is no free list, and a broken next word
abbrev pub AreHolesOf : Option (List Block) → Result (List Hole) BrokenList → Type 0
AreHolesOf (Some blocks) (Ok holes) = holes ≡ map hole_of blocks
AreHolesOf (Some blocks) (Err broken) = ⊥
AreHolesOf None (Ok holes) = ⊥
AreHolesOf None (Err broken) = Unit {0}

-- what is read of a linear part is its free list
abbrev pub ViewsAreFreeLists : Type 0
ViewsAreFreeLists = (words : ℕ) (memory : List ℕ) → AreHolesOf (free_list words (word memory)) (free_view 16 (8 * words) memory)

-- where the free list can be read, its blocks are read
abbrev pub ReadableIsViewed : Type 0
ReadableIsViewed = (words : ℕ) (memory : List ℕ) → 3 ≤ words → (h : IsReadable words (word memory)) → free_view 16 (8 * words) memory ≡ Ok (map hole_of h.free)

-- the free blocks of a heap are read
abbrev pub HeapIsViewed : Type 0
HeapIsViewed =
    (linear unrestricted next : ℕ) (s : Store) (live free : List Block) → IsHeap linear unrestricted next s live free → free_view 16 (65536 * linear) s.memory ≡ Ok (map hole_of free)

-- so is the free list at each step within an allocator
abbrev pub AllocatorsKeepViews : Type 0
AllocatorsKeepViews =
    (linear : ℕ) (c : Config) → 1 ≤ linear → CanBeRead (linear_words linear) c → (holes : List Hole) × (free_view 16 (65536 * linear) c.store.memory ≡ Ok holes)
