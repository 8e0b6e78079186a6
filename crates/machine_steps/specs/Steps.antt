-- A machine that makes steps and says events, and what is reached after so many steps. This project's own.
use Rattle.std.specs.Prelude.{ℕ, zero, suc, ◌+◌, List, [], ◌∷◌, ◌++◌, Option, Some, None}
use Rattle.machine_steps.specs.declared.End.{End}

-- one step: to another state, or to an end and the state there, with what is said on the way; or there is none
pub data Turn (E A : Type 0) : Type 0 where
  Went : List E → A → Turn E A
  Ended : List E → End → A → Turn E A
  NoStep : Turn E A

-- how a run stands
pub data Stand : Type 0 where
  Going : Stand
  Over : End → Stand
  Stuck : Stand

-- what was said so far, how the run stands, its state, and how many steps were made
pub record Reached (E A : Type 0) : Type 0 where
  pub said : List E
  pub stand : Stand
  pub at : A
  pub steps : ℕ

-- with so many steps made and this said before
abbrev pub preceded : {E A : Type 0} → ℕ → List E → Reached E A → Reached E A
preceded n es r = record { said = es ++ r.said; stand = r.stand; at = r.at; steps = n + r.steps }

-- with a step made and this said before
abbrev pub onward : {E A : Type 0} → List E → Reached E A → Reached E A
onward es r = record { said = es ++ r.said; stand = r.stand; at = r.at; steps = suc r.steps }

-- on the way after so many steps, with this said, at a state
abbrev pub going : {E A : Type 0} → ℕ → List E → A → Reached E A
going n es a = record { said = es; stand = Going; at = a; steps = n }

-- over after so many steps, with this said, at a state
abbrev pub over : {E A : Type 0} → ℕ → List E → End → A → Reached E A
over n es e a = record { said = es; stand = Over e; at = a; steps = n }

-- what is reached by a step from a state, and then as `rest` says
abbrev pub reached_by : {E A : Type 0} → Turn E A → A → (A → Reached E A) → Reached E A
reached_by (Went es b) a rest = onward es (rest b)
reached_by (Ended es e b) a rest = over 1 es e b
reached_by NoStep a rest = record { said = []; stand = Stuck; at = a; steps = 0 }

-- what is reached after so many steps; what has ended stays, and no further step is counted
abbrev pub reached : {E A : Type 0} → (A → Turn E A) → ℕ → A → Reached E A
reached step zero a = going 0 [] a
reached step (suc n) a = reached_by (step a) a (reached step n)

-- so many from the top of a list, and what follows where they are there
abbrev pub with_top : {V E A : Type 0} → ℕ → List V → (List V → List V → Turn E A) → Turn E A
with_top zero vs then = then [] vs
with_top (suc n) [] then = NoStep
with_top (suc n) (v ∷ vs) then = with_top n vs (λ taken beneath. then (v ∷ taken) beneath)

-- what follows a look-up that found something
abbrev pub with_found : {X E A : Type 0} → Option X → (X → Turn E A) → Turn E A
with_found None then = NoStep
with_found (Some x) then = then x

-- what follows from the top operand and those beneath it
abbrev pub with_one : {V E A : Type 0} → List V → (V → List V → Turn E A) → Turn E A
with_one [] then = NoStep
with_one (v ∷ vs) then = then v vs

-- what follows where nothing is left over
abbrev pub with_none : {V E A : Type 0} → List V → Turn E A → Turn E A
with_none [] then = then
with_none (v ∷ vs) then = NoStep

-- what follows from exactly so many operands
abbrev pub with_all : {V E A : Type 0} → ℕ → List V → (List V → Turn E A) → Turn E A
with_all n vs then = with_top n vs (λ taken beneath. with_none beneath (then taken))
