-- What any codes of functions 1, 2 and 3 have to meet, in any module and store that have a heap, and whatever calls them. This
-- project's own.
use Rattle.std.specs.Prelude.{◌≡◌, ℕ, suc, ◌*◌, ◌⊎◌, true, List, [], ◌∷◌, ◌++◌, length, Some, None, slice_set}
use Rattle.wasm_ast.specs.declared.types.FuncType.{FuncType}
use Rattle.wasm_ast.specs.declared.types.ValTy.TheVariants.{I64}
use Rattle.wasm_ast.specs.declared.modules.Code.{Code}
use Rattle.machine_steps.specs.declared.End.TheVariants.{Trap}
use Rattle.machine_steps.specs.declared.Trap.TheVariants.{Exhausted}
use Rattle.machine_steps.specs.Steps.{Went, Ended}
use Rattle.wasm_execution.specs.Types.{takes_and_gives}
use Rattle.wasm_execution.specs.Turns.{first_or_zero}
use Rattle.wasm_execution.specs.Configurations.{Here, Bottom, Store, Config, Returned, Stopped}
use Rattle.wasm_execution.specs.Environments.{Environment, function_at}
use Rattle.wasm_execution.specs.Calls.{entered}
use Rattle.wasm_execution.specs.Steps.{step}
use Rattle.heap_blocks.specs.Blocks.{Block, address_of}
use Rattle.heap_blocks.specs.Allocation.{Taken, first_fit, asked_of, HasRoom, HasNoRoom, next_behind}
use Rattle.allocator_contract.specs.Heaps.{linear_words, IsHeap, Stays}
use Rattle.allocator_contract.specs.Walks.{Within}

-- functions 1 and 3 take a size and give an address, function 2 takes an address
abbrev pub alloc_type : FuncType
alloc_type = takes_and_gives (I64 ∷ []) (Some I64)

abbrev pub free_type : FuncType
free_type = takes_and_gives (I64 ∷ []) None

-- a module has allocators, of which the function of this number has this type and code, and its global 0 tells why `unreachable`
-- was reached
pub record HasAllocator (e : Environment) (n : ℕ) (ty : FuncType) (code : Code) : Type 0 where
  pub told : e.has_allocators ≡ true
  pub trap_code : e.trap_code ≡ Some 0
  pub function : function_at e n ≡ Some (record { ty = ty; code = Some code })

-- who called an allocator: the call that waits, those that wait for it, and what follows them
pub record Caller : Type 0 where
  pub waiting : Here
  pub callers : List Here
  pub bottom : Bottom

-- the call of an allocator with this argument
abbrev pub called : ℕ → Code → ℕ → Caller → Store → Config
called n code x caller s = entered n code (x ∷ []) (caller.waiting ∷ caller.callers) caller.bottom s

-- the next step returns these numbers to the caller, and says so
abbrev pub Returns : Environment → ℕ → List ℕ → Caller → Config → Type 0
Returns e n vs caller c = step e c ≡ Went (Returned n (first_or_zero vs) c.store ∷ []) (record {
  here = record caller.waiting { operands = vs ++ caller.waiting.operands };
  callers = caller.callers;
  bottom = caller.bottom;
  store = c.store;
})

-- the next step ends the run, since memory is spent; nothing has changed but global 0
pub record IsSpent (e : Environment) (s : Store) (c : Config) : Type 0 where
  pub ends : step e c ≡ Ended (Stopped Exhausted ∷ []) (Trap Exhausted) c
  pub store : c.store ≡ record s { globals = slice_set s.globals 0 1 }

-- a linear part and a region of so many pages, with the region's next address, and what stands there before a call
module _ (e : Environment) (linear unrestricted next : ℕ) (caller : Caller) (s : Store) where
  -- the first block that fits is given
  pub record Gives (asked : ℕ) (live free : List Block) (c : Config) : Type 0 where
    pub taken : Taken
    pub fits : first_fit asked free ≡ Some taken
    pub returns : Returns e 1 (address_of taken.block ∷ []) caller c
    pub heap : IsHeap linear unrestricted next c.store (taken.block ∷ live) taken.free
    pub stays : Stays linear live s c.store

  -- no block fits
  pub record FindsNone (asked : ℕ) (free : List Block) (c : Config) : Type 0 where
    pub none : first_fit asked free ≡ None
    pub spent : IsSpent e s c

  -- the block is the first of the free list
  pub record TakesBack (b : Block) (live free : List Block) (c : Config) : Type 0 where
    pub returns : Returns e 2 [] caller c
    pub heap : IsHeap linear unrestricted next c.store live (b ∷ free)
    pub stays : Stays linear live s c.store

  -- the region's front is given, and its next address rises
  pub record Grants (asked : ℕ) (live free : List Block) (c : Config) : Type 0 where
    pub room : HasRoom (length s.memory) next asked
    pub returns : Returns e 3 (next ∷ []) caller c
    pub heap : IsHeap linear unrestricted (next_behind next asked) c.store live free
    pub store : c.store ≡ record s { globals = slice_set s.globals 1 (next_behind next asked) }

  -- the region has no room
  pub record HasNone (asked : ℕ) (c : Config) : Type 0 where
    pub none : HasNoRoom (length s.memory) next asked
    pub spent : IsSpent e s c

-- function 1: the first block that fits is given, or none does, within a number of steps that rises with the free list
abbrev pub AllocatesLinear : Code → Type 0
AllocatesLinear code = (e : Environment) (linear unrestricted next x : ℕ) (caller : Caller) (s : Store) (live free : List Block)
    → HasAllocator e 1 alloc_type code → IsHeap linear unrestricted next s live free
    → Within e (linear_words linear) (λ c. Gives e linear unrestricted next caller s (asked_of x) live free c ⊎ FindsNone e linear unrestricted next caller s (asked_of x) free c)
    (256 * suc (length free)) (called 1 code x caller s)

-- function 2, which is called with the address of a live block: that block is the first of the free list then
abbrev pub FreesLinear : Code → Type 0
FreesLinear code = (e : Environment) (linear unrestricted next : ℕ) (caller : Caller) (s : Store) (before : List Block) (b : Block) (behind free : List Block)
    → HasAllocator e 2 free_type code → IsHeap linear unrestricted next s (before ++ (b ∷ behind)) free
    → Within e (linear_words linear) (TakesBack e linear unrestricted next caller s b (before ++ behind) free) (256 * suc (length free)) (called 2 code (address_of b) caller s)

-- function 3: the front of what is left of the region is given, or it has no room
abbrev pub AllocatesUnrestricted : Code → Type 0
AllocatesUnrestricted code = (e : Environment) (linear unrestricted next x : ℕ) (caller : Caller) (s : Store) (live free : List Block)
    → HasAllocator e 3 alloc_type code → IsHeap linear unrestricted next s live free
    → Within e (linear_words linear) (λ c. Grants e linear unrestricted next caller s (asked_of x) live free c ⊎ HasNone e linear unrestricted next caller s (asked_of x) c) 256 (called 3 code x caller s)

-- the three codes
pub record AllocatorsMeet (alloc_lin free_lin alloc_unr : Code) : Type 0 where
  pub allocates : AllocatesLinear alloc_lin
  pub frees : FreesLinear free_lin
  pub grants : AllocatesUnrestricted alloc_unr
