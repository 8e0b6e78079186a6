-- The form of a reference to a struct, as code takes it apart.
use Rattle.std.proofs.Common.{◌≡◌, List, ap}
use Rattle.rw_types.specs.declared.types.Heap.{items_hidden-the_row-Slot-0}
use Rattle.rw_types.specs.declared.types.Heap.TheVariants.{Struct}
use Rattle.rw_types.specs.declared.types.Slot.{Slot}
use Rattle.rw_types.specs.declared.types.Ty.{Ty}
use Rattle.rich_rules.specs.Points.{Outcome}
use Rattle.rich_rules.specs.Takers.{struct_at}

pub struct_seen : (t : Ty) (ss : List Slot) (rest : List Slot → Outcome) → struct_at t (Struct ss) rest ≡ rest ss
struct_seen t ss rest = ap rest (items_hidden-the_row-Slot-0 ss)
