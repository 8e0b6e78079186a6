-- What is no exchange: to drop the right to write at a location, or to copy it. This project's own.
use Rattle.std.specs.Prelude.{[], ◌∷◌}
use Rattle.rw_types.specs.declared.types.Mem.TheVariants.{L}
use Rattle.rw_types.specs.declared.types.Pre.{Own}
use Rattle.rw_types.specs.declared.types.Qual.TheVariants.{Lin}
use Rattle.rw_types.specs.declared.types.Ty.{Of, Ty}
use Rattle.rich_types.specs.Scopes.{Scope, no_scope, with_location}
use Rattle.rich_rules.specs.Points.{Frame, OfFunction}
use Rattle.rich_linear_laws.specs.Exchanges.{Exchange}

-- a frame without functions, a location of the linear memory, and the right to write there
abbrev pub bare : Frame
bare = record { functions = []; globals = []; slots = []; owner = OfFunction }

abbrev pub one_linear : Scope
one_linear = with_location L no_scope

abbrev pub own : Ty
own = Of Lin (Own 0)

-- no way drops it, and none copies it
pub record NoExchanges : Type 0 where
  pub dropped : Exchange bare one_linear (own ∷ []) [] → ⊥
  pub copied : Exchange bare one_linear (own ∷ []) (own ∷ own ∷ []) → ⊥
