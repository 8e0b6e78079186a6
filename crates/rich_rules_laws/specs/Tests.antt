-- What the tests of types answer: equality, and well-formed types. This project's own.
use Rattle.std.specs.Prelude.{◌≡◌, ◌↔◌, List, IsTrue, None}
use Rattle.rw_types.specs.declared.types.FunType.{FunType}
use Rattle.rw_types.specs.declared.types.Qual.TheVariants.{Lin}
use Rattle.rw_types.specs.declared.types.Ty.{Ty}
use Rattle.rich_types.specs.Scopes.{Scope}
use Rattle.rich_types.specs.WellFormed.{IsWellFormed, AreParts}
use Rattle.rich_rules.specs.Equality.{same, same_function}
use Rattle.rich_rules.specs.Forms.{is_formed, first_ill_formed}

-- types are told to be the same exactly where they are one tree
abbrev pub TypesCompared : Type 0
TypesCompared = (t u : Ty) → IsTrue (same t u) ↔ (t ≡ u)

-- and so are function types
abbrev pub FunctionTypesCompared : Type 0
FunctionTypesCompared = (f g : FunType) → IsTrue (same_function f g) ↔ (f ≡ g)

-- types are told to be well formed exactly where they are
abbrev pub FormsTold : Type 0
FormsTold = (c : Scope) (t : Ty) → IsTrue (is_formed c t) ↔ IsWellFormed c t

-- no first type is told exactly where each is well formed
abbrev pub ListFormsTold : Type 0
ListFormsTold = (c : Scope) (ts : List Ty) → (first_ill_formed c ts ≡ None) ↔ AreParts c Lin ts
