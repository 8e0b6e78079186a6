-- What binders bring into scope: locations with their memories, and type variables with their
-- qualifiers and sizes, each numbered from the innermost binder outwards. This project's own.
use Rattle.std.specs.Prelude.{ℕ, List, [], ◌∷◌, Option, slice_get}
use Rattle.rw_types.specs.declared.types.Binder.{Binder}
use Rattle.rw_types.specs.declared.types.Binder.TheVariants.{Loc, Kind}
use Rattle.rw_types.specs.declared.types.Mem.{Mem}
use Rattle.rw_types.specs.declared.types.Qual.{Qual}
use Rattle.rich_types.specs.declared.variables.VariableKind.{VariableKind}

-- what is in scope: of each kind of number a list, the innermost first
pub record Scope : Type 0 where
  pub locations : List Mem
  pub variables : List VariableKind

-- the scope outside all binders
abbrev pub no_scope : Scope
no_scope = record { locations = []; variables = [] }

-- a scope within one binder more: that of a location
abbrev pub with_location : Mem → Scope → Scope
with_location m c = record { locations = m ∷ c.locations; variables = c.variables }

-- and that of a type variable
abbrev pub with_variable : Qual → ℕ → Scope → Scope
with_variable q s c = record { locations = c.locations; variables = record { qual = q; size = s } ∷ c.variables }

-- a scope within these binders, the last of which is the innermost
abbrev pub within : List Binder → Scope → Scope
within [] c = c
within (Loc m ∷ bs) c = within bs (with_location m c)
within (Kind q s ∷ bs) c = within bs (with_variable q s c)

-- the scope of these binders alone, the outermost first
abbrev pub scope_of : List Binder → Scope
scope_of bs = within bs no_scope

-- the memory of the location with this number
abbrev pub memory_of : Scope → ℕ → Option Mem
memory_of c n = slice_get c.locations n

-- what the type variable with this number stands for
abbrev pub variable_of : Scope → ℕ → Option VariableKind
variable_of c n = slice_get c.variables n
