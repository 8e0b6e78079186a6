-- What a look at the fields of a new struct says of a row of the table. Want of memory says nothing. This project's own.
use Rattle.std.specs.Prelude.{◌≡◌, ℕ, List, None, Result, Ok, Err}
use Rattle.rw_types.specs.declared.types.Heap.TheVariants.{Struct}
use Rattle.rw_types.specs.declared.types.Mem.{Mem}
use Rattle.rw_types.specs.declared.types.Slot.{Slot}
use Rattle.rw_types.specs.declared.types.Ty.{Ty}
use Rattle.rich_types.specs.Scopes.{Scope}
use Rattle.rich_typing.specs.declared.rules.Rule.TheVariants as rule
use Rattle.rich_rules.specs.Points.{Outcome}
use Rattle.rich_rules.specs.Raised.{one_location, raise_all}
use Rattle.rich_rules.specs.Structs.{new_cell, first_larger, slots_of}
use Rattle.rich_rules.specs.Takers.{without, gives_formed}
use Rattle.rw_row_answers.specs.declared.answers.CapError.{CapError}
use Rattle.rw_row_answers.specs.Answers.{Breaking}

-- what is made of operands of these types, the deepest one first, as a struct with slots of these sizes
abbrev pub struct_of : Scope → Mem → List ℕ → List Ty → List Ty → Outcome
struct_of c m sizes ts beneath = without (first_larger c ts sizes) rule.SlotSize (gives_formed c (new_cell m (Struct (slots_of (raise_all one_location ts) sizes))) beneath)

-- each type fits its slot, and these are the slots; or the first one that does not is told
abbrev pub HasSlots : Result (List Slot) CapError → Scope → List ℕ → List Ty → Type 0
HasSlots (Ok slots) c sizes ts = (first_larger c ts sizes ≡ None) × (slots ≡ slots_of (raise_all one_location ts) sizes)
HasSlots (Err e) c sizes ts = (rest : Outcome) → Breaking e (without (first_larger c ts sizes) rule.SlotSize rest)
