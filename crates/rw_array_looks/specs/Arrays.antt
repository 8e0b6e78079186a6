-- What code sees of a type: a reference to an array whose location has a binder, or another type. This project's own.
use Rattle.std.specs.Prelude.{◌≡◌, Option, Some, None}
use Rattle.rw_types.specs.declared.types.Heap.TheVariants.{Array}
use Rattle.rw_types.specs.declared.types.Pre.{Ref}
use Rattle.rw_types.specs.declared.types.Ty.{Ty, Of}
use Rattle.rich_types.specs.Scopes.{Scope, memory_of}
use Rattle.rich_rules.specs.Points.{Outcome}
use Rattle.rich_rules.specs.Takers.{Reference, other_form, array_form}
use Rattle.rw_array_looks.specs.declared.forms.ArrayRef.{ArrayRef}

-- the type is this reference, whose location is in this memory; or it is none that has a binder
abbrev pub SeesArray : Scope → Ty → Option ArrayRef → Type 0
SeesArray c t (Some a) = (t ≡ Of a.qual (Ref a.privilege a.location (Array a.element.now))) × (Some a.memory ≡ memory_of c a.location)
SeesArray c t None = (rest : Reference → Ty → Outcome) → array_form c t rest ≡ other_form t
