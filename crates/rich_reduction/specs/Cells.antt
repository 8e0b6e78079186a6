-- Both stores, and what a step does to a cell, with what it says of it. This project's own.
use Rattle.std.specs.Prelude.{ℕ, List, [], ◌∷◌, ◌++◌, Option, Some, None, length, slice_get, slice_set}
use Rattle.rw_types.specs.declared.types.Mem.{Mem}
use Rattle.rw_types.specs.declared.types.Mem.TheVariants.{L, U}
use Rattle.rw_types.specs.declared.types.Priv.TheVariants.{Rw}
use Rattle.machine_steps.specs.Steps.{Turn, Went, NoStep}
use Rattle.rich_reduction.specs.Configurations.{Val, Ref, Pack, Location, Slot, Content, Slots, Case, Elements, Hidden, Cell, Stores, Here, Config, Event, Made, Touched, Freed}

-- the cell in a place of the linear store, where one is there
abbrev pub still_there : Option (Option Cell) → Option Cell
still_there None = None
still_there (Some o) = o

-- the cell of a memory with this number
abbrev pub cell_in : Mem → ℕ → Stores → Option Cell
cell_in L n s = still_there (slice_get s.linear n)
cell_in U n s = slice_get s.unrestricted n

-- the cell at a location
abbrev pub cell_at : Location → Stores → Option Cell
cell_at l s = cell_in l.mem l.number s

-- the stores with another cell in such a place
abbrev pub put_in : Mem → ℕ → Cell → Stores → Stores
put_in L n cell s = record s { linear = slice_set s.linear n (Some cell) }
put_in U n cell s = record s { unrestricted = slice_set s.unrestricted n cell }

abbrev pub put_at : Location → Cell → Stores → Stores
put_at l cell s = put_in l.mem l.number cell s

-- a new location has the least number that was never used in its store
abbrev pub new_location : Mem → Stores → Location
new_location L s = record { mem = L; number = length s.linear }
new_location U s = record { mem = U; number = length s.unrestricted }

-- the stores with a new cell
abbrev pub with_new : Mem → Cell → Stores → Stores
with_new L cell s = record s { linear = s.linear ++ Some cell ∷ [] }
with_new U cell s = record s { unrestricted = s.unrestricted ++ cell ∷ [] }

-- the stores when the content of a cell was taken: a linear cell is taken out, one of the other memory stays
abbrev pub opened_in : Mem → ℕ → Stores → Stores
opened_in L n s = record s { linear = slice_set s.linear n None }
opened_in U n s = s

-- what that says
abbrev pub opening : Mem → Location → List Event
opening L l = Touched l ∷ Freed l ∷ []
opening U l = Touched l ∷ []

-- what follows where a cell is a struct
abbrev pub with_slots : Content → (List Slot → Turn Event Config) → Turn Event Config
with_slots (Slots slots) then = then slots
with_slots _ then = NoStep

-- where it is a variant
abbrev pub with_case : Content → (ℕ → Val → Turn Event Config) → Turn Event Config
with_case (Case n v) then = then n v
with_case _ then = NoStep

-- where it is an array
abbrev pub with_elements : Content → (List Val → Turn Event Config) → Turn Event Config
with_elements (Elements vs) then = then vs
with_elements _ then = NoStep

-- where it is a package
abbrev pub with_hidden : Content → (ℕ → Val → Turn Event Config) → Turn Event Config
with_hidden (Hidden size v) then = then size v
with_hidden _ then = NoStep

-- where a memory is the linear one
abbrev pub with_linear : Mem → Turn Event Config → Turn Event Config
with_linear L then = then
with_linear U then = NoStep

-- a cell is made, and a packed reference to it stands on these operands
abbrev pub makes : Mem → Cell → List Val → Here → Config → Turn Event Config
makes m cell beneath here c =
    let l = new_location m c.stores in
    Went (Made l cell.words ∷ Touched l ∷ []) (record c { here = record here { operands = Pack (Ref l Rw) ∷ beneath }; stores = with_new m cell c.stores })

-- a cell is read, and these operands are left
abbrev pub reads : Location → List Val → Here → Config → Turn Event Config
reads l operands here c = Went (Touched l ∷ []) (record c { here = record here { operands = operands } })

-- a cell is written, and these operands are left
abbrev pub writes : Location → Cell → List Val → Here → Config → Turn Event Config
writes l cell operands here c = Went (Touched l ∷ []) (record c { here = record here { operands = operands }; stores = put_at l cell c.stores })

-- the content of a cell is taken, and the call that runs goes on so
abbrev pub opens : Location → Here → Config → Turn Event Config
opens l here c = Went (opening l.mem l) (record c { here = here; stores = opened_in l.mem l.number c.stores })

-- a linear cell is freed, and these operands are left
abbrev pub frees : Location → List Val → Here → Config → Turn Event Config
frees l operands here c = with_linear l.mem (opens l (record here { operands = operands }) c)
