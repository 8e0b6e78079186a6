-- What stands for binders within others. This project's own.
use Rattle.std.specs.Prelude.{◌≡◌, ◌++◌, length, map}
use Rattle.rw_types.specs.declared.types.Ty.{Ty}
use Rattle.rich_types.specs.declared.depth.Depth.{Depth}
use Rattle.rich_types.specs.Scopes.{Scope}
use Rattle.rich_types.specs.Sizes.{size_under}
use Rattle.rich_types.specs.Walks.{outside, walk}
use Rattle.rich_types.specs.Instances.{Substitution, substituting, raising}
use Rattle.rich_soundness_values.specs.Heaps.{Answer, at, size_of}

-- what stands for binders within those around them
abbrev pub onto : Substitution → Substitution → Substitution
onto s g = record { locations = s.locations ++ g.locations; variables = s.variables ++ g.variables }

-- as many binders
abbrev pub depth_of : Substitution → Depth
depth_of s = record { locations = length s.locations; variables = length s.variables }

-- what stands for binders, where something stands for those around them
abbrev pub under : Substitution → Substitution → Substitution
under g s = record { locations = map (λ l. (substituting g).location outside l) s.locations; variables = map (λ t. at g t) s.variables }

-- a type that was raised past binders is what it was, where something stands for these, at any depth
abbrev pub RaisedStays : Type 0
RaisedStays = (s g : Substitution) (d : Depth) (t : Ty) → walk (substituting (onto s g)) d (walk (raising (depth_of s)) d t) ≡ walk (substituting g) d t

-- a body beneath binders, where something stands for the binders around these, and then for these
abbrev pub BodiesStand : Type 0
BodiesStand = (s g : Substitution) (t : Ty) → at s (walk (substituting g) (depth_of s) t) ≡ at (onto s g) t

-- an instance of a body, where something stands for the binders around it
abbrev pub InstancesStand : Type 0
InstancesStand = (s g : Substitution) (t : Ty) → at g (at s t) ≡ at (onto (under g s) g) t

-- a type has its size where closed types of the right sizes stand for variables
abbrev pub SizesStay : Type 0
SizesStay = (g : Substitution) (c : Scope) (t : Ty) → Answer g c → size_of (at g t) ≡ size_under c t
