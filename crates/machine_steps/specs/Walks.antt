-- Walks of a target from one state to another, with what holds on the way; and what a walk has to keep so that it answers a step
-- of the source. This project's own.
use Rattle.std.specs.Prelude.{◌≡◌, ℕ, zero, suc, ◌<◌, List, [], ◌∷◌, ◌++◌, ◌⊎◌}
use Rattle.machine_steps.specs.declared.End.{End}
use Rattle.machine_steps.specs.Steps.{Turn, Went, Ended, NoStep, reached}
use Rattle.machine_steps.specs.Simulations.{Comes}

-- `P` holds on the way, `K` at the last state; each speaks of the whole history and of the state
module _ {E B : Type 0} (g : B → Turn E B) (P K : List E → B → Type 0) where
  -- what holds after a step
  abbrev pub on_turn : Turn E B → List E → (List E → B → Type 0) → Type 0
  on_turn (Went [] c) es go = go es c
  on_turn (Went (x ∷ xs) c) es go = go (es ++ (x ∷ xs)) c
  on_turn (Ended xs x c) es go = ⊥
  on_turn NoStep es go = ⊥

  -- so many steps
  abbrev pub Goes : ℕ → List E → B → Type 0
  Goes zero es b = K es b
  Goes (suc n) es b = P es b × on_turn (g b) es (Goes n)

  -- some number of steps
  pub record Walk (es : List E) (b : B) : Type 0 where
    pub steps : ℕ
    pub goes : Goes steps es b

  -- the same, by what is reached
  pub record Arrives (n : ℕ) (es : List E) (b : B) : Type 0 where
    pub said : List E
    pub to : B
    pub comes : Comes g n b said to
    pub there : K (es ++ said) to
    pub way : (m : ℕ) → m < n → P (es ++ (reached g m b).said) (reached g m b).at

module _ {D E B : Type 0} (Fits : List D → List E → Type 0) (Holds : List E → B → Type 0) where
  -- within a step of the source that says ds'
  abbrev pub OnTheWay : List D → List D → List E → B → Type 0
  OnTheWay ds ds' es b = (Fits ds es ⊎ Fits (ds ++ ds') es) × Holds es b

  -- before a step of the source
  abbrev pub StillAt : List D → List E → B → Type 0
  StillAt ds es b = Fits ds es × Holds es b

  -- the target ends here, and fits `after`
  pub record AtEnd (g : B → Turn E B) (after : List D) (last : List E) (e : End) (es : List E) (b : B) : Type 0 where
    pub ends : g b ≡ Ended last e b
    pub fits : Fits after (es ++ last)
    pub holds : Holds (es ++ last) b
