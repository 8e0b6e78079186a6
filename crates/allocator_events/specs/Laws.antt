-- What codes that meet the contract of the allocators do to the heap, in any module that has them and whatever calls them.
use Rattle.std.specs.Prelude.{◌≡◌, ℕ, suc, ◌*◌, ◌⊎◌, List, [], ◌∷◌, ◌++◌, length}
use Rattle.wasm_ast.specs.declared.modules.Code.{Code}
use Rattle.machine_steps.specs.declared.Trap.TheVariants.{Exhausted}
use Rattle.wasm_execution.specs.Configurations.{Store, Event, Called, Stopped}
use Rattle.wasm_execution.specs.Environments.{Environment}
use Rattle.allocator_contract.specs.Heaps.{linear_words}
use Rattle.allocator_contract.specs.Walks.{Within}
use Rattle.allocator_contract.specs.Contract.{HasAllocator, Caller, called, alloc_type, free_type, AllocatesLinear, FreesLinear, AllocatesUnrestricted}
use Rattle.heap_events.specs.Events.{HeapEvent, at_entry, at_return, open_calls, heap_events}
use Rattle.heap_events.specs.Safety.{IsBlock}
use Rattle.heap_events.specs.Honesty.{GivesHonestly, LacksRoom, IsHonest}
use Rattle.heap_histories.specs.Histories.{IsHeapAfter}
use Rattle.allocator_events.specs.Calls.{call_of, call_events, GivesBlock, EndsWithoutBlock, FreesBlock, GivesGrant, EndsWithoutRoom}

-- a call of function 1 gives a block, or the run ends since none fits
abbrev pub AllocationsAreTold : Type 0
AllocationsAreTold =
    (code : Code) → AllocatesLinear code
    → (e : Environment) (linear unrestricted x : ℕ) (es : List HeapEvent) (caller : Caller) (s : Store) → HasAllocator e 1 alloc_type code → (h : IsHeapAfter linear unrestricted es s)
    → Within e (linear_words linear) (λ c. GivesBlock e linear unrestricted es caller s x c ⊎ EndsWithoutBlock e linear unrestricted es caller s x c)
    (256 * suc (length h.free)) (called 1 code x caller s)

-- a call of function 2 with the address of a live block takes it back
abbrev pub FreesAreTold : Type 0
FreesAreTold =
    (code : Code) → FreesLinear code
    → (e : Environment) (linear unrestricted a : ℕ) (es : List HeapEvent) (caller : Caller) (s : Store) → HasAllocator e 2 free_type code → (h : IsHeapAfter linear unrestricted es s) → IsBlock es a
    → Within e (linear_words linear) (FreesBlock e linear unrestricted es caller s a) (256 * suc (length h.free)) (called 2 code a caller s)

-- a call of function 3 gives words of the region, or the run ends since too few are left
abbrev pub GrantsAreTold : Type 0
GrantsAreTold =
    (code : Code) → AllocatesUnrestricted code
    → (e : Environment) (linear unrestricted x : ℕ) (es : List HeapEvent) (caller : Caller) (s : Store) → HasAllocator e 3 alloc_type code → IsHeapAfter linear unrestricted es s
    → Within e (linear_words linear) (λ c. GivesGrant e linear unrestricted es caller s x c ⊎ EndsWithoutRoom e linear unrestricted es caller s x c) 256 (called 3 code x caller s)

-- a whole call leaves the calls that run as they were
abbrev pub CallsAreWhole : Type 0
CallsAreWhole =
    (said : List Event) (f x v : ℕ) (s s' : Store)
    → (open_calls (said ++ call_events f x v s s') ≡ open_calls said)
    × (heap_events (said ++ call_events f x v s s') ≡ heap_events said ++ (at_entry f x ++ at_return f v x))

-- a history stays honest by a whole call that gives honestly, and by an end in a call that lacks room
abbrev pub CallsStayHonest : Type 0
CallsStayHonest =
    (linear unrestricted : ℕ) (said : List Event) (f x v : ℕ) (s s' : Store) → IsHonest linear unrestricted said → GivesHonestly linear f v s' (call_of f x s)
    → IsHonest linear unrestricted (said ++ call_events f x v s s')

abbrev pub StopsStayHonest : Type 0
StopsStayHonest =
    (linear unrestricted : ℕ) (said : List Event) (f x : ℕ) (s : Store) → IsHonest linear unrestricted said → LacksRoom linear unrestricted (call_of f x s)
    → IsHonest linear unrestricted (said ++ (Called f x s ∷ Stopped Exhausted ∷ []))
