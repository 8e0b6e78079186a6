-- Steps of the way to a job, one after another; this project's own.
use Rattle.std.specs.Prelude.{◌≡◌, ◌⊎◌, ℕ, List, [], ◌∷◌, ◌++◌}
use Rattle.std.specs.declared.result.Result.{Result}
use Rattle.std.specs.declared.result.Result.TheVariants.{Ok, Err}

-- a refusal: its status, and the line that says why
pub record Refused : Type 0 where
  pub status : ℕ
  pub line : List ℕ

-- First a step, and then what follows from the value that it gave; where it was refused, what comes of the refusal.
pub data Then {A T : Type 0} (comes : Refused → T) (First : Result A Refused → Type 0) (Next : A → T → Type 0) (t : T) : Type 0 where
  goes_on : (value : A) → First (Ok value) → Next value t → Then comes First Next t
  stops : (refused : Refused) → First (Err refused) → t ≡ comes refused → Then comes First Next t

-- one step after another, to a value or to a refusal
abbrev pub Onward : {A B : Type 0} → (Result A Refused → Type 0) → (A → Result B Refused → Type 0) → Result B Refused → Type 0
Onward First Next r = Then (λ refused. Err refused) First Next r

-- the step from each of a list in order, to all the values; or to the refusal of the first that is refused
abbrev pub EachLeads : {A B : Type 0} → (A → Result B Refused → Type 0) → List A → Result (List (A × B)) Refused → Type 0
EachLeads Step [] r = r ≡ Ok []
EachLeads Step (x ∷ xs) r = Onward (Step x) (λ value. Onward (EachLeads Step xs) (λ values s. s ≡ Ok ((x, value) ∷ values))) r

-- the first of a list that is refused: those before it lead to values
pub record FirstRefused {A B : Type 0} (Step : A → Result B Refused → Type 0) (xs : List A) (refused : Refused) : Type 0 where
  pub before : List A
  pub at : A
  pub after : List A
  pub split : xs ≡ before ++ (at ∷ after)
  pub values : List (A × B)
  pub passed : EachLeads Step before (Ok values)
  pub is : Step at (Err refused)

-- one of a list
abbrev pub IsOneOf : {A : Type 0} → List A → A → Type 0
IsOneOf [] x = ⊥
IsOneOf (y ∷ ys) x = (x ≡ y) ⊎ IsOneOf ys x
