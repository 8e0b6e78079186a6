-- What a number names among arguments. This project's own.
use Rattle.std.specs.Prelude.{◌≡◌, ◌+◌, ℕ, length, slice_get, Some, None}
use Rattle.std.specs.Borrow.{Bor}
use Rattle.rw_types.specs.declared.types.Ty.{Ty}
use Rattle.rich_types.specs.Instances.{Substitution}
use Rattle.rw_substitution.specs.declared.arguments.Sought.{Sought}
use Rattle.rw_substitution.specs.declared.arguments.Sought.TheVariants.{Here, Further}

-- the location with this number is put in, or there are fewer, and it is the one of that number outside
abbrev pub IsLocationAmong : Substitution → ℕ → Sought ℕ → Type 0
IsLocationAmong g n (Here l) = slice_get g.locations n ≡ Some l
IsLocationAmong g n (Further m) = (slice_get g.locations n ≡ None) × (m + length g.locations ≡ n)

-- the type with this number is put in, or there are fewer, and it is the one of that number outside
abbrev pub IsTypeAmong : Substitution → ℕ → Sought (Bor Ty) → Type 0
IsTypeAmong g n (Here t) = slice_get g.variables n ≡ Some t.now
IsTypeAmong g n (Further m) = (slice_get g.variables n ≡ None) × (m + length g.variables ≡ n)
