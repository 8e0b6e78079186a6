-- What is found, where there is such a thing.
use Rattle.std.specs.declared.option.Option.{Option}
use Rattle.std.specs.declared.option.Option.TheVariants.{None, Some}

-- what was found is so; where nothing was found, nothing is so
abbrev pub Finds : {T : Type 0} → (T → Type 0) → Option T → Type 0
Finds {T} P (Some x) = P x
Finds {T} P None = (x : T) → P x → ⊥
