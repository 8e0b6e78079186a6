-- What instructions on arrays do. This project's own.
use Rattle.std.specs.Prelude.{ℕ, ◌+◌, ◌*◌, List, [], ◌∷◌, Some, None, length, replicate, slice_get, slice_set}
use Rattle.rw_types.specs.declared.types.Mem.{Mem}
use Rattle.rw_types.specs.declared.types.Priv.{Priv}
use Rattle.machine_steps.specs.declared.End.TheVariants.{Trap}
use Rattle.machine_steps.specs.declared.Trap.TheVariants.{Index}
use Rattle.machine_steps.specs.Steps.{Turn, Ended}
use Rattle.rich_reduction.specs.Configurations.{Val, Number, Ref, Location, Elements, Cell, Stores, Here, Config, Event, Touched}
use Rattle.rich_reduction.specs.Values.{words}
use Rattle.rich_reduction.specs.Turns.{with_number, with_ref}
use Rattle.machine_steps.specs.Steps.{with_found, with_one}
use Rattle.rich_reduction.specs.Cells.{cell_at, with_elements, makes, reads, writes, frees}

-- what follows where the top operand is a reference to an array
abbrev pub with_array : List Val → Stores → (Location → Priv → Cell → List Val → List Val → Turn Event Config) → Turn Event Config
with_array operands s then = with_ref operands (λ l p beneath. with_found (cell_at l s) (λ cell. with_elements cell.content
    (λ vs. then l p cell vs beneath)))

-- what follows from the element of this number; where the index is not less than the length, the step touches the cell and traps
abbrev pub with_element : Location → List Val → ℕ → Config → (Val → Turn Event Config) → Turn Event Config
with_element l vs n c then = elim (slice_get vs n) [
  | Some v ↦ then v
  | None ↦ Ended (Touched l ∷ []) (Trap Index) c
]

-- array.malloc: the length stands on top of the value that each element has at first
abbrev pub make_array : Mem → Here → Config → Turn Event Config
make_array m here c = with_number here.operands (λ n under. with_one under
    (λ v beneath. makes m (record { words = 1 + n * words v; content = Elements (replicate n v) }) beneath here c))

-- array.get: the index stands on top
abbrev pub get_element : Here → Config → Turn Event Config
get_element here c = with_number here.operands (λ n under. with_array under c.stores
    (λ l p cell vs beneath. with_element l vs n c (λ v. reads l (v ∷ Ref l p ∷ beneath) here c)))

-- array.set: the value stands on top of the index
abbrev pub set_element : Here → Config → Turn Event Config
set_element here c = with_one here.operands (λ v above. with_number above (λ n under. with_array under c.stores
    (λ l p cell vs beneath. with_element l vs n c (λ old. writes l (record cell { content = Elements (slice_set vs n v) }) (Ref l p ∷ beneath) here c))))

-- array.len
abbrev pub get_length : Here → Config → Turn Event Config
get_length here c = with_array here.operands c.stores (λ l p cell vs beneath. reads l (Number (length vs) ∷ Ref l p ∷ beneath) here c)

-- array.free
abbrev pub free_array : Here → Config → Turn Event Config
free_array here c = with_array here.operands c.stores (λ l p cell vs beneath. frees l beneath here c)
