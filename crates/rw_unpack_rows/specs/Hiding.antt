-- What code sees of a type: one with a hidden location, a reference to a package whose location has a binder, or another. This
-- project's own.
use Rattle.std.specs.Prelude.{◌≡◌, ℕ, Option, Some, None}
use Rattle.rw_types.specs.declared.types.Heap.TheVariants.{Exist}
use Rattle.rw_types.specs.declared.types.Mem.{Mem}
use Rattle.rw_types.specs.declared.types.Pre.{Ref}
use Rattle.rw_types.specs.declared.types.Pre.TheVariants.{Hidden}
use Rattle.rw_types.specs.declared.types.Qual.{Qual}
use Rattle.rw_types.specs.declared.types.Ty.{Ty, Of}
use Rattle.rich_types.specs.Scopes.{Scope, memory_of}
use Rattle.rich_rules.specs.Points.{Outcome}
use Rattle.rich_rules.specs.Takers.{Reference, other_form, hidden_form, package_form}
use Rattle.rw_unpack_rows.specs.declared.forms.HiddenRef.{HiddenRef}
use Rattle.rw_unpack_rows.specs.declared.forms.PackageRef.{PackageRef}

-- the type has this hidden location; or it has none
abbrev pub SeesHidden : Ty → Option HiddenRef → Type 0
SeesHidden t (Some h) = t ≡ Of h.qual (Hidden h.memory h.body.now)
SeesHidden t None = (rest : Mem → Ty → Outcome) → hidden_form t rest ≡ other_form t

-- the type is this reference, whose location is in this memory; or it is none that has a binder
abbrev pub SeesPackage : Scope → Ty → Option PackageRef → Type 0
SeesPackage c t (Some a) = (t ≡ Of a.reference (Ref a.privilege a.location (Exist a.qual a.size a.body.now))) × (Some a.memory ≡ memory_of c a.location)
SeesPackage c t None = (rest : Reference → Qual → ℕ → Ty → Outcome) → package_form c t rest ≡ other_form t
