-- The scope that the code's chain of binders stands for. This project's own.
use Rattle.std.specs.Prelude.{◌≡◌, Option, Some}
use Rattle.rw_types.specs.declared.types.Mem.{Mem}
use Rattle.rich_types.specs.declared.variables.VariableKind.{VariableKind}
use Rattle.rw_quals_sizes.specs.declared.binders.Chain.{Chain, Outermost, Inside'}
use Rattle.rw_quals_sizes.specs.declared.binders.Found.{Found}
use Rattle.rw_quals_sizes.specs.declared.binders.Found.TheVariants.{Here, Further}
use Rattle.rich_types.specs.Scopes.{Scope, no_scope, within, memory_of, variable_of}

-- the scope of a chain
abbrev pub scope_seen : Chain → Scope
scope_seen (Outermost bs) = within bs.now no_scope
scope_seen (Inside' a outer bs) = within bs.now (scope_seen outer)

-- what was found is this memory, or that of the number outside
abbrev pub IsMemoryIn : Scope → Found Mem → Option Mem → Type 0
IsMemoryIn c (Here m) o = o ≡ Some m
IsMemoryIn c (Further n) o = o ≡ memory_of c n

-- what was found is this variable, or that of the number outside
abbrev pub IsVariableIn : Scope → Found VariableKind → Option VariableKind → Type 0
IsVariableIn c (Here k) o = o ≡ Some k
IsVariableIn c (Further n) o = o ≡ variable_of c n
