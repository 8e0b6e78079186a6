-- What a run says of its allocators is honest: a block is the front of the first free one that fits, a grant the front of what is
-- left of the region, and where the run ends for want of room there is none. This project's own.
use Rattle.std.specs.Prelude.{◌≡◌, ℕ, zero, suc, ◌+◌, ◌*◌, ◌⊎◌, List, [], ◌∷◌, Some, slice_get}
use Rattle.memory_words.specs.Memories.{word}
use Rattle.machine_steps.specs.declared.Trap.TheVariants.{Exhausted}
use Rattle.wasm_execution.specs.Configurations.{Store, Event, Returned, Stopped}
use Rattle.heap_blocks.specs.Blocks.{Block, address_of, HaveHeaders}
use Rattle.heap_blocks.specs.FreeLists.{free_list}
use Rattle.heap_blocks.specs.Allocation.{Taken, asked_of, AreSmaller, IsFirstFit, HasNoRoom, next_behind}
use Rattle.allocator_contract.specs.Heaps.{linear_words}
use Rattle.heap_events.specs.Events.{AllocatorCall, open_calls}
use Rattle.heap_events.specs.Places.{AtEach}

-- the words that a call asks for
abbrev pub asked_by : AllocatorCall → ℕ
asked_by call = asked_of call.argument

-- reading the free list of a linear part of so many pages gives these blocks
abbrev pub HasFreeList : ℕ → Store → List Block → Type 0
HasFreeList linear s free = free_list (linear_words linear) (word s.memory) ≡ Some free

-- the region's next address
abbrev pub HasNext : Store → ℕ → Type 0
HasNext s next = slice_get s.globals 1 ≡ Some next

-- a block is given: the front of the first one of the free list at the call's entry that holds the asked words, and its header
-- tells its words at the return
pub record GivesFirstFit (linear : ℕ) (call : AllocatorCall) (address : ℕ) (then : Store) : Type 0 where
  pub free : List Block
  pub read : HasFreeList linear call.entry free
  pub taken : Taken
  pub fit : IsFirstFit (asked_by call) free taken
  pub front : address ≡ address_of taken.block
  pub header : HaveHeaders (word then.memory) (taken.block ∷ [])

-- a grant begins at the region's next address at the call's entry, which has risen by the asked words at the return
pub record GivesNext (call : AllocatorCall) (address : ℕ) (then : Store) : Type 0 where
  pub next : HasNext call.entry address
  pub risen : HasNext then (next_behind address (asked_by call))

-- each block of the free list at the call's entry is too small
pub record FindsNoBlock (linear : ℕ) (call : AllocatorCall) : Type 0 where
  pub free : List Block
  pub read : HasFreeList linear call.entry free
  pub smaller : AreSmaller (asked_by call) free

-- what is left of the region at the call's entry, up to the end of all pages, is too little
pub record FindsNoRoom (linear unrestricted : ℕ) (call : AllocatorCall) : Type 0 where
  pub next : ℕ
  pub read : HasNext call.entry next
  pub none : HasNoRoom (65536 * (linear + unrestricted)) next (asked_by call)

-- what a return of this function gives to its call
abbrev pub GivesHonestly : ℕ → ℕ → ℕ → Store → AllocatorCall → Type 0
GivesHonestly linear (suc zero) v s call = GivesFirstFit linear call v s
GivesHonestly linear (suc (suc (suc zero))) v s call = GivesNext call v s
GivesHonestly linear _ v s call = Unit {0}

-- the innermost call is there, and this holds of it
abbrev pub OfInnermost : (AllocatorCall → Type 0) → List AllocatorCall → Type 0
OfInnermost P [] = ⊥
OfInnermost P (call ∷ calls) = P call

-- a call has no room: one of function 1 finds no block, or one of function 3 no room in the region
abbrev pub LacksRoom : ℕ → ℕ → AllocatorCall → Type 0
LacksRoom linear unrestricted call = ((call.function ≡ 1) × FindsNoBlock linear call) ⊎ ((call.function ≡ 3) × FindsNoRoom linear unrestricted call)

-- this is said honestly behind that
abbrev pub IsHonestAfter : ℕ → ℕ → List Event → Event → Type 0
IsHonestAfter linear unrestricted before (Returned f v s) = OfInnermost (GivesHonestly linear f v s) (open_calls before)
IsHonestAfter linear unrestricted before (Stopped Exhausted) = OfInnermost (LacksRoom linear unrestricted) (open_calls before)
IsHonestAfter linear unrestricted before _ = Unit {0}

-- all that a run said of a heap of so many pages of the linear part and of the region is honest
abbrev pub IsHonest : ℕ → ℕ → List Event → Type 0
IsHonest linear unrestricted said = AtEach (IsHonestAfter linear unrestricted) said
