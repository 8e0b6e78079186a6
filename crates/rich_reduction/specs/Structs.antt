-- What instructions on structs do. This project's own.
use Rattle.std.specs.Prelude.{ℕ, List, [], ◌∷◌, length, reverse, slice_get, slice_set, sum}
use Rattle.rw_types.specs.declared.types.Mem.{Mem}
use Rattle.rw_types.specs.declared.types.Priv.{Priv}
use Rattle.machine_steps.specs.Steps.{Turn, with_top}
use Rattle.rich_reduction.specs.Configurations.{Val, Ref, Location, Slot, Slots, Cell, Stores, Here, Config, Event}
use Rattle.rich_reduction.specs.Turns.{with_ref}
use Rattle.machine_steps.specs.Steps.{with_found, with_one}
use Rattle.rich_reduction.specs.Cells.{cell_at, with_slots, makes, reads, writes, frees}

-- slots of these sizes with these values
abbrev pub slots_of : List ℕ → List Val → List Slot
slots_of (size ∷ sizes) (v ∷ vs) = record { size = size; value = v } ∷ slots_of sizes vs
slots_of _ _ = []

-- what follows where the top operand is a reference to a struct
abbrev pub with_struct : List Val → Stores → (Location → Priv → Cell → List Slot → List Val → Turn Event Config) → Turn Event Config
with_struct operands s then = with_ref operands (λ l p beneath. with_found (cell_at l s) (λ cell. with_slots cell.content
    (λ slots. then l p cell slots beneath)))

-- another value in a slot, which keeps its size
abbrev pub with_slot : Cell → List Slot → ℕ → Slot → Val → Cell
with_slot cell slots n slot v = record cell { content = Slots (slice_set slots n (record slot { value = v })) }

-- struct.malloc: the top operand is in the last slot
abbrev pub make_struct : Mem → List ℕ → Here → Config → Turn Event Config
make_struct m sizes here c = with_top (length sizes) here.operands
    (λ vs beneath. makes m (record { words = sum sizes; content = Slots (slots_of sizes (reverse vs)) }) beneath here c)

-- struct.free
abbrev pub free_struct : Here → Config → Turn Event Config
free_struct here c = with_struct here.operands c.stores (λ l p cell slots beneath. frees l beneath here c)

-- struct.get
abbrev pub get_slot : ℕ → Here → Config → Turn Event Config
get_slot n here c = with_struct here.operands c.stores
    (λ l p cell slots beneath. with_found (slice_get slots n) (λ slot. reads l (slot.value ∷ Ref l p ∷ beneath) here c))

-- struct.set
abbrev pub set_slot : ℕ → Here → Config → Turn Event Config
set_slot n here c = with_one here.operands (λ v under. with_struct under c.stores
    (λ l p cell slots beneath. with_found (slice_get slots n) (λ slot. writes l (with_slot cell slots n slot v) (Ref l p ∷ beneath) here c)))

-- struct.swap: the old value stands on top
abbrev pub swap_slot : ℕ → Here → Config → Turn Event Config
swap_slot n here c = with_one here.operands (λ v under. with_struct under c.stores
    (λ l p cell slots beneath. with_found (slice_get slots n) (λ slot. writes l (with_slot cell slots n slot v) (slot.value ∷ Ref l p ∷ beneath) here c)))
