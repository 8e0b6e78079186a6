-- What a step does to the calls of a configuration. This project's own.
use Rattle.std.specs.Prelude.{◌≡◌, List, [], ◌∷◌, length, ⊤}
use Rattle.machine_steps.specs.Steps.{Turn, Went}
use Rattle.rich_reduction.specs.Configurations.{Here, Config, Event}

-- a call keeps the number of its results, and of its locals
abbrev pub StaysCall : Here → Here → Type 0
StaysCall h k = (k.results ≡ h.results) × (length k.locals ≡ length h.locals)

-- the call that runs goes on; another call runs over it; or it is left, and the one that waits goes on
pub data TurnsCalls (c c' : Config) : Type 0 where
  stays : StaysCall c.here c'.here → c'.callers ≡ c.callers → TurnsCalls c c'
  calls : (waiting : Here) → StaysCall c.here waiting → c'.callers ≡ waiting ∷ c.callers → TurnsCalls c c'
  leaves : (waiting : Here) → StaysCall waiting c'.here → c.callers ≡ waiting ∷ c'.callers → TurnsCalls c c'

-- a step, where it does not end the run
abbrev pub TurnsCallsBy : Config → Turn Event Config → Type 0
TurnsCallsBy c (Went es c') = TurnsCalls c c'
TurnsCallsBy c _ = ⊤

-- beneath all calls lies the program's own list: it gives one number and has no locals
abbrev pub AreOnOwn : Here → List Here → Type 0
AreOnOwn h [] = (h.results ≡ 1) × (h.locals ≡ [])
AreOnOwn h (k ∷ ks) = AreOnOwn k ks

abbrev pub IsOnOwn : Config → Type 0
IsOnOwn c = AreOnOwn c.here c.callers

-- and so it does after a step, where that does not end the run
abbrev pub IsOnOwnAfter : Turn Event Config → Type 0
IsOnOwnAfter (Went es c) = IsOnOwn c
IsOnOwnAfter _ = ⊤
