-- What the types of a lowered module and their indices are. This project's own.
use Rattle.std.specs.Prelude.{◌≡◌, ℕ, ◌<◌, List, [], ◌∷◌, ◌++◌, Some, map, slice_get}
use Rattle.wasm_ast.specs.declared.types.FuncType.{FuncType}
use Rattle.rw_program.specs.Programs.{Program}
use Rattle.lowering_table.specs.declared.Pages.{Pages}
use Rattle.lowering_table.specs.TypeUses.{type_index}
use Rattle.lowering_table.specs.Types.{alloc_type, low_type, low_types, print_type, start_type, used_types}
use Rattle.lowering_table.specs.Modules.{low_module}

-- each type that is used stands in the list of types at its index
abbrev pub UsedTypesAreListed : Type 0
UsedTypesAreListed = (p : Program) (k : ℕ) (t : FuncType) → slice_get (used_types p) k ≡ Some t → slice_get (low_types p) (type_index t (low_types p)) ≡ Some t

-- a type stands there at its index alone, so that none is listed twice
abbrev pub TypesAreListedOnce : Type 0
TypesAreListedOnce = (p : Program) (i : ℕ) (t : FuncType) → slice_get (low_types p) i ≡ Some t → i ≡ type_index t (low_types p)

-- no type is listed that is not used
abbrev pub ListedTypesAreUsed : Type 0
ListedTypesAreUsed = (p : Program) (i : ℕ) (t : FuncType) → slice_get (low_types p) i ≡ Some t → (k : ℕ) × (slice_get (used_types p) k ≡ Some t)

-- the types stand in the order of their first uses
abbrev pub TypesAreInOrder : Type 0
TypesAreInOrder = (p : Program) (i j : ℕ) (t u : FuncType) → slice_get (low_types p) i ≡ Some t → slice_get (low_types p) j ≡ Some u → i < j →
    type_index t (used_types p) < type_index u (used_types p)

-- the types of the module's own functions: the allocators, the linked functions and the exported main
abbrev pub own_types : Program → List FuncType
own_types p = alloc_type ∷ print_type ∷ alloc_type ∷ (map low_type p.funcs ++ start_type ∷ [])

-- the type indices of the module's own functions lead to their types, one by one
abbrev pub FunctionsHaveTheirTypes : Type 0
FunctionsHaveTheirTypes = (p : Program) (pages : Pages) →
    map (λ n. slice_get (low_module p pages).types n) (low_module p pages).funcs ≡ map (λ t. Some t) (own_types p)
