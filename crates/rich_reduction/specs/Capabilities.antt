-- What instructions do that take a reference apart and put it together again. This project's own.
use Rattle.std.specs.Prelude.{Bool, true, false, ◌&&◌, ◌==◌, if◌then◌else◌, ◌∷◌}
use Rattle.rw_types.specs.declared.types.Mem.{Mem}
use Rattle.rw_types.specs.declared.types.Mem.TheVariants.{L, U}
use Rattle.rw_types.specs.declared.types.Priv.{Priv}
use Rattle.rw_types.specs.declared.types.Priv.TheVariants.{Rw, R}
use Rattle.machine_steps.specs.Steps.{Turn, NoStep}
use Rattle.rich_reduction.specs.Configurations.{Ref, Ptr, Cap, Own, Location, Here, Config, Event}
use Rattle.rich_reduction.specs.Turns.{with_ref, with_ptr, with_cap, with_own, leaves}

abbrev pub is_same_memory : Mem → Mem → Bool
is_same_memory L L = true
is_same_memory U U = true
is_same_memory _ _ = false

abbrev pub is_same_location : Location → Location → Bool
is_same_location l k = is_same_memory l.mem k.mem && (l.number == k.number)

abbrev pub is_rw : Priv → Bool
is_rw Rw = true
is_rw R = false

-- ref.split: the address stands on top
abbrev pub split_ref : Here → Config → Turn Event Config
split_ref here c = with_ref here.operands (λ l p beneath. leaves (Ptr l ∷ Cap l p ∷ beneath) here c)

-- ref.join: both name one location
abbrev pub join_ref : Here → Config → Turn Event Config
join_ref here c = with_ptr here.operands (λ k under. with_cap under
    (λ l p beneath. if is_same_location l k then leaves (Ref l p ∷ beneath) here c else NoStep))

-- cap.split: the capability reads and writes; the right to write again stands on top
abbrev pub split_cap : Here → Config → Turn Event Config
split_cap here c = with_cap here.operands (λ l p beneath. if is_rw p then leaves (Own l ∷ Cap l R ∷ beneath) here c else NoStep)

-- cap.join: the capability reads alone, and both name one location
abbrev pub join_cap : Here → Config → Turn Event Config
join_cap here c = with_own here.operands (λ k under. with_cap under
    (λ l p beneath. if is_rw p then NoStep else (if is_same_location l k then leaves (Cap l Rw ∷ beneath) here c else NoStep)))
