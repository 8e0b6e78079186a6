-- What a call of function 1, 2 or 3 comes to, by the events of the heap. This project's own.
use Rattle.std.specs.Prelude.{◌≡◌, ℕ, List, [], ◌∷◌, ◌++◌, slice_set}
use Rattle.wasm_execution.specs.Configurations.{Store, Config, Event, Called, Returned}
use Rattle.wasm_execution.specs.Environments.{Environment}
use Rattle.heap_blocks.specs.Blocks.{Block, address_of}
use Rattle.heap_blocks.specs.Allocation.{asked_of, next_behind}
use Rattle.allocator_contract.specs.Contract.{Caller, Returns, IsSpent}
use Rattle.heap_events.specs.Events.{HeapEvent, Alloc, Free, Grant, AllocatorCall}
use Rattle.heap_events.specs.Heaps.{Extent, IsLive, AreApart}
use Rattle.heap_events.specs.Safety.{IsGrantedApart}
use Rattle.heap_events.specs.Honesty.{HasFreeList, GivesFirstFit, GivesNext, FindsNoBlock, FindsNoRoom}
use Rattle.heap_histories.specs.Histories.{IsHeapAfter, KeepsGiven}

-- a call of this function with this argument in this store
abbrev pub call_of : ℕ → ℕ → Store → AllocatorCall
call_of f x s = record { function = f; argument = x; entry = s }

-- what a whole call of an allocator says
abbrev pub call_events : ℕ → ℕ → ℕ → Store → Store → List Event
call_events f x v s s' = Called f x s ∷ Returned f v s' ∷ []

-- pages of the linear part and of the region, the events so far, and what stands there before a call
module _ (e : Environment) (linear unrestricted : ℕ) (es : List HeapEvent) (caller : Caller) (s : Store) where
  -- the next step returns the address of a block: the front of the first free one that fits, apart from all that are live
  pub record GivesBlock (x : ℕ) (c : Config) : Type 0 where
    pub address : ℕ
    pub returns : Returns e 1 (address ∷ []) caller c
    pub heap : IsHeapAfter linear unrestricted (es ++ (Alloc address (asked_of x) ∷ [])) c.store
    pub first : GivesFirstFit linear (call_of 1 x s) address c.store
    pub apart : (y : Extent) → IsLive es y → AreApart y (record { address = address; words = asked_of x })
    pub keeps : KeepsGiven linear es s c.store
    pub table : c.store.table ≡ s.table
    pub globals : c.store.globals ≡ s.globals

  -- the next step ends the run, since each free block is too small
  pub record EndsWithoutBlock (x : ℕ) (c : Config) : Type 0 where
    pub spent : IsSpent e s c
    pub none : FindsNoBlock linear (call_of 1 x s)
    pub heap : IsHeapAfter linear unrestricted es c.store

  -- the next step returns, and the block at this address is the first of the free list
  pub record FreesBlock (a : ℕ) (c : Config) : Type 0 where
    pub returns : Returns e 2 [] caller c
    pub heap : IsHeapAfter linear unrestricted (es ++ (Free a ∷ [])) c.store
    pub block : Block
    pub address : address_of block ≡ a
    pub joins : (free : List Block) → HasFreeList linear s free → HasFreeList linear c.store (block ∷ free)
    pub keeps : KeepsGiven linear (es ++ (Free a ∷ [])) s c.store
    pub table : c.store.table ≡ s.table
    pub globals : c.store.globals ≡ s.globals

  -- the next step returns the region's next address, from which on the asked words lie in the region, apart from all grants
  pub record GivesGrant (x : ℕ) (c : Config) : Type 0 where
    pub address : ℕ
    pub returns : Returns e 3 (address ∷ []) caller c
    pub heap : IsHeapAfter linear unrestricted (es ++ (Grant address (asked_of x) ∷ [])) c.store
    pub next : GivesNext (call_of 3 x s) address c.store
    pub apart : IsGrantedApart linear unrestricted es (record { address = address; words = asked_of x })
    pub store : c.store ≡ record s { globals = slice_set s.globals 1 (next_behind address (asked_of x)) }

  -- the next step ends the run, since too little is left of the region
  pub record EndsWithoutRoom (x : ℕ) (c : Config) : Type 0 where
    pub spent : IsSpent e s c
    pub none : FindsNoRoom linear unrestricted (call_of 3 x s)
    pub heap : IsHeapAfter linear unrestricted es c.store
