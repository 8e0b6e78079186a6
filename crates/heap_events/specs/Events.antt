-- What happens to the heap of a lowered program, read off what its run says. Functions 1 and 3 are its allocators, of the linear
-- part and of the region, and function 2 takes blocks of the linear part back. This project's own.
use Rattle.std.specs.Prelude.{ℕ, ◌==◌, if◌then◌else◌, List, [], ◌∷◌, ◌++◌}
use Rattle.wasm_execution.specs.Configurations.{Store, Event, Print, Called, Returned, Stopped}
use Rattle.wasm_execution.specs.Configurations as wasm
use Rattle.heap_blocks.specs.Allocation.{asked_of}

-- a block was given, with its address and the asked words; one was taken back; words of the region were given, from an address
-- on; so many bytes at an address were loaded or stored outside functions 1 to 3
pub data HeapEvent : Type 0 where
  Alloc : (address words : ℕ) → HeapEvent
  Free : (address : ℕ) → HeapEvent
  Grant : (address words : ℕ) → HeapEvent
  Touch : (address count : ℕ) → HeapEvent

-- a call of function 1, 2 or 3 that runs: its function, its argument, and the store at its entry
pub record AllocatorCall : Type 0 where
  pub function : ℕ
  pub argument : ℕ
  pub entry : Store

-- the calls that run when this was said, the innermost first, where these ran before
abbrev pub calls_after : Event → List AllocatorCall → List AllocatorCall
calls_after (Called f x s) calls = record { function = f; argument = x; entry = s } ∷ calls
calls_after (Returned f v s) (call ∷ calls) = calls
calls_after _ calls = calls

abbrev pub calls_from : List AllocatorCall → List Event → List AllocatorCall
calls_from calls [] = calls
calls_from calls (e ∷ es) = calls_from (calls_after e calls) es

-- the calls of functions 1 to 3 that run when all this was said
abbrev pub open_calls : List Event → List AllocatorCall
open_calls said = calls_from [] said

-- what the entry of this function, with this argument, does to the heap
abbrev pub at_entry : ℕ → ℕ → List HeapEvent
at_entry f x = if f == 2 then Free x ∷ [] else []

-- what the return of this function, with this number and called with this argument, does to the heap
abbrev pub at_return : ℕ → ℕ → ℕ → List HeapEvent
at_return f v x = if f == 1 then Alloc v (asked_of x) ∷ [] else (if f == 3 then Grant v (asked_of x) ∷ [] else [])

-- what happens to the heap where this is said, while these calls run
abbrev pub events_of : List AllocatorCall → Event → List HeapEvent
events_of calls (Called f x s) = at_entry f x
events_of (call ∷ calls) (Returned f v s) = at_return f v call.argument
events_of calls (wasm.Touch address count) = Touch address count ∷ []
events_of calls _ = []

abbrev pub events_from : List AllocatorCall → List Event → List HeapEvent
events_from calls [] = []
events_from calls (e ∷ es) = events_of calls e ++ events_from (calls_after e calls) es

-- what happened to the heap in a run that said this, in the order of its steps
abbrev pub heap_events : List Event → List HeapEvent
heap_events said = events_from [] said
