-- What stands at the locations of both stores, by its type, and closed types: types without variables, in which a free number of a
-- location is the name of a location of a store. This project's own.
use Rattle.std.specs.Prelude.{◌≡◌, ℕ, suc, ◌+◌, List, [], ◌∷◌, Some, slice_get, ⊤}
use Rattle.rw_types.specs.declared.types.Arg.TheVariants.{Loc, Given}
use Rattle.rw_types.specs.declared.types.FunType.{FunType}
use Rattle.rw_types.specs.declared.types.Heap.{Heap}
use Rattle.rw_types.specs.declared.types.Mem.{Mem}
use Rattle.rw_types.specs.declared.types.Mem.TheVariants.{L, U}
use Rattle.rw_types.specs.declared.types.Qual.TheVariants.{Unr}
use Rattle.rw_types.specs.declared.types.Ty.{Ty}
use Rattle.rich_types.specs.declared.variables.VariableKind.{VariableKind}
use Rattle.rich_types.specs.Scopes.{Scope, no_scope}
use Rattle.rich_types.specs.Sizes.{qual_under, size_under}
use Rattle.rich_types.specs.Walks.{outside, walk, walk_list, walk_function}
use Rattle.rich_types.specs.Instances.{Substitution, substituting, instance}
use Rattle.rich_reduction.specs.Configurations.{Location}

-- what stands at each linear location, which a step may turn into something else; what stands in the other store, which only
-- grows; and the types of the functions
pub record Heaps : Type 0 where
  pub linear : ℕ → Heap
  pub unrestricted : List Heap
  pub functions : List FunType

-- the name of a location: even numbers are those of the linear store
abbrev pub name_in : Mem → ℕ → ℕ
name_in L n = n + n
name_in U n = suc (n + n)

abbrev pub name_of : Location → ℕ
name_of l = name_in l.mem l.number

abbrev pub StandsIn : Heaps → Mem → ℕ → Heap → Type 0
StandsIn hs L n h = hs.linear n ≡ h
StandsIn hs U n h = slice_get hs.unrestricted n ≡ Some h

-- this stands at a location
abbrev pub Stands : Heaps → Location → Heap → Type 0
Stands hs l h = StandsIn hs l.mem l.number h

-- a closed type whose values may be dropped and copied
abbrev pub IsUnr : Ty → Type 0
IsUnr t = qual_under no_scope t ≡ Unr

abbrev pub AreUnr : List Ty → Type 0
AreUnr [] = ⊤
AreUnr (t ∷ ts) = IsUnr t × AreUnr ts

-- the words of a closed type
abbrev pub size_of : Ty → ℕ
size_of t = size_under no_scope t

-- the body of a type that binds a type, with this type in its place
abbrev pub with_type : Ty → Ty → Ty
with_type u t = instance t (Given u ∷ [])

-- the body of a type that binds a location, with this location in its place
abbrev pub with_place : Location → Ty → Ty
with_place l t = instance t (Loc (name_of l) ∷ [])

-- a type, types and a function type where these names and closed types stand for the binders around them
abbrev pub at : Substitution → Ty → Ty
at g t = walk (substituting g) outside t

abbrev pub all_at : Substitution → List Ty → List Ty
all_at g ts = walk_list (substituting g) outside ts

abbrev pub function_at : Substitution → FunType → FunType
function_at g f = walk_function (substituting g) outside f

-- a number that names a location of this memory
pub record Names (m : Mem) (n : ℕ) : Type 0 where
  pub place : Location
  pub named : n ≡ name_of place
  pub within : place.mem ≡ m

-- names answer locations, one for one
abbrev pub NamesAnswer : List ℕ → List Mem → Type 0
NamesAnswer [] [] = ⊤
NamesAnswer (n ∷ ns) (m ∷ ms) = Names m n × NamesAnswer ns ms
NamesAnswer _ _ = ⊥

-- a closed type answers a type variable: its size is the variable's, and it is `unr` where the variable is
pub record TypeAnswers (t : Ty) (k : VariableKind) : Type 0 where
  pub sized : size_of t ≡ k.size
  pub unr : k.qual ≡ Unr → IsUnr t

abbrev pub TypesAnswer : List Ty → List VariableKind → Type 0
TypesAnswer [] [] = ⊤
TypesAnswer (t ∷ ts) (k ∷ ks) = TypeAnswers t k × TypesAnswer ts ks
TypesAnswer _ _ = ⊥

-- names and closed types answer all that is in scope
pub record Answer (g : Substitution) (c : Scope) : Type 0 where
  pub locations : NamesAnswer g.locations c.locations
  pub variables : TypesAnswer g.variables c.variables
