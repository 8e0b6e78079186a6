-- A target that answers each step of its source, with the whole histories of both. This project's own.
use Rattle.std.specs.Prelude.{◌≡◌, ℕ, ◌<◌, ◌≤◌, List, [], ◌++◌, ◌⊎◌}
use Rattle.machine_steps.specs.declared.End.{End}
use Rattle.machine_steps.specs.declared.End.TheVariants.{Trap}
use Rattle.machine_steps.specs.declared.Trap.TheVariants.{Exhausted}
use Rattle.machine_steps.specs.Steps.{Turn, Went, Ended, NoStep, Reached, going, reached}
use Rattle.machine_steps.specs.Agreement.{IsExhausted, IsSettled}

-- the target comes to a state in so many steps, saying this
pub record Comes {E B : Type 0} (g : B → Turn E B) (n : ℕ) (b : B) (es : List E) (b' : B) : Type 0 where
  pub by : reached g n b ≡ going n es b'

-- `Fits`: histories of both that belong to each other; `Meets`: those at an end; `Holds`: what holds of the target;
-- `R`: the histories and states that a step of the source begins with; `size` falls where the target makes no step
module _ {D E A B : Type 0} (Fits Meets : List D → List E → Type 0) (Holds : List E → B → Type 0)
    (f : A → Turn D A) (g : B → Turn E B) (R : List D → A → List E → B → Type 0) (size : A → ℕ) where
  -- at a state of the target within a step of the source that says ds'
  pub record Within (ds ds' : List D) (es : List E) (t : Reached E B) : Type 0 where
    pub fits : Fits ds (es ++ t.said) ⊎ Fits (ds ++ ds') (es ++ t.said)
    pub holds : Holds (es ++ t.said) t.at

  -- a step of the source to `a'` is answered
  pub record Moves (ds ds' : List D) (es : List E) (before : ℕ) (a' : A) (b : B) : Type 0 where
    pub steps : ℕ
    pub said : List E
    pub to : B
    pub comes : Comes g steps b said to
    pub within : (m : ℕ) → m < steps → Within ds ds' es (reached g m b)
    pub related : R (ds ++ ds') a' (es ++ said) to
    pub falls : steps ≡ 0 → size a' < before

  -- the target ends within a step of the source that says ds', and fits the source's history `after`
  pub record Stops (ds ds' after : List D) (es : List E) (e : End) (b : B) : Type 0 where
    pub steps : ℕ
    pub said : List E
    pub to : B
    pub last : List E
    pub final : B
    pub comes : Comes g steps b said to
    pub within : (m : ℕ) → m ≤ steps → Within ds ds' es (reached g m b)
    pub ends : g to ≡ Ended last e final
    pub fits : Fits after (es ++ (said ++ last))
    pub holds : Holds (es ++ (said ++ last)) final

  -- the target ends as the source does
  pub record Ends (ds ds' : List D) (es : List E) (e : End) (b : B) : Type 0 where
    pub stops : Stops ds ds' (ds ++ ds') es e b
    pub meets : Meets (ds ++ ds') (es ++ (stops.said ++ stops.last))

  abbrev pub Answers : List D → List E → Turn D A → ℕ → B → Type 0
  Answers ds es (Went ds' a') before b = Moves ds ds' es before a' b
  Answers ds es (Ended ds' e a') before b = Ends ds ds' es e b
  Answers ds es NoStep before b = ⊥

  -- each step from related histories and states is answered, or the target is exhausted
  pub record Follows : Type 0 where
    pub fits : (ds : List D) (a : A) (es : List E) (b : B) → R ds a es b → Fits ds es × Holds es b
    pub answers : (ds : List D) (a : A) (es : List E) (b : B) → R ds a es b → Answers ds es (f a) (size a) b ⊎ Stops ds [] ds es (Trap Exhausted) b

  -- each step from related histories and states is answered, and the target is never exhausted instead
  pub record Answered : Type 0 where
    pub fits : (ds : List D) (a : A) (es : List E) (b : B) → R ds a es b → Fits ds es × Holds es b
    pub answers : (ds : List D) (a : A) (es : List E) (b : B) → R ds a es b → Answers ds es (f a) (size a) b

  -- the target's history and state fit the source's, which has ended as the target has
  pub record Matches (ds : List D) (es : List E) (s : Reached D A) (t : Reached E B) : Type 0 where
    pub fits : Fits (ds ++ s.said) (es ++ t.said)
    pub holds : Holds (es ++ t.said) t.at
    pub settled : IsSettled t.stand → (s.stand ≡ t.stand) × Meets (ds ++ s.said) (es ++ t.said)

  -- the histories fit, and both stand alike
  pub record Keeps (ds : List D) (es : List E) (s : Reached D A) (t : Reached E B) : Type 0 where
    pub fits : Fits (ds ++ s.said) (es ++ t.said)
    pub stand : t.stand ≡ s.stand

  -- the target is exhausted, and fits what the source had said by n steps or before
  pub record Exhausts (ds : List D) (es : List E) (n : ℕ) (a : A) (t : Reached E B) : Type 0 where
    pub exhausted : IsExhausted t.stand
    pub earlier : ℕ
    pub before : earlier ≤ n
    pub fits : Fits (ds ++ (reached f earlier a).said) (es ++ t.said)

  -- from related histories and states, after any number of steps of either
  pub record Throughout (ds : List D) (es : List E) (a : A) (b : B) : Type 0 where
    pub forth : (n : ℕ) → (m : ℕ) × (Keeps ds es (reached f n a) (reached g m b) ⊎ Exhausts ds es n a (reached g m b))
    pub back : (m : ℕ) → (n : ℕ) × Matches ds es (reached f n a) (reached g m b)
