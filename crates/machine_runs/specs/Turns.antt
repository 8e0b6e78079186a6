-- What a step of a machine answers and leaves (this project's own). `next` is a step where the machine has not ended, `over` how
-- it has ended, where it has, and `made` how many steps it has made.
use Rattle.std.specs.Prelude.{◌≡◌, ℕ, ◌+◌, ◌⊎◌, List, [], ◌∷◌, Option, Some, None, Result, Ok, Err}
use Rattle.std.specs.declared.alloc.AllocError.{AllocError}
use Rattle.std.specs.Int.{cast_signed, w64}
use Rattle.machine_steps.specs.declared.End.{End}
use Rattle.machine_steps.specs.Steps as steps
use Rattle.machine_runs.specs.declared.answers.Turn.{Turn}
use Rattle.machine_runs.specs.declared.answers.Turn.TheVariants.{Went, Printed, Ended}

module _ {A : Type 0} (next : A → steps.Turn ℕ A) (over : A → Option End) (made : A → ℕ) where
  -- a step was made that printed these numbers, and the machine has not ended
  pub record GoesOn (before : A) (printed : List ℕ) (after : A) : Type 0 where
    pub going : over before ≡ None
    pub steps : next before ≡ steps.Went printed after
    pub still : over after ≡ None
    pub counted : made after ≡ made before + 1

  -- a step was made, the last one
  pub record EndsNow (before : A) (e : End) (after : A) : Type 0 where
    pub going : over before ≡ None
    pub steps : next before ≡ steps.Ended [] e after
    pub ended : over after ≡ Some e
    pub counted : made after ≡ made before + 1

  -- the machine has ended before, and stays as it is
  pub record HasEnded (before : A) (e : End) (after : A) : Type 0 where
    pub ended : over before ≡ Some e
    pub same : after ≡ before

  -- what each answer means; after an error the machine is as it was
  abbrev pub Turns : A → Result Turn AllocError → A → Type 0
  Turns before (Ok Went) after = GoesOn before [] after
  Turns before (Ok (Printed z)) after = (n : ℕ) × (z ≡ cast_signed w64 n) × GoesOn before (n ∷ []) after
  Turns before (Ok (Ended e)) after = EndsNow before e after ⊎ HasEnded before e after
  Turns before (Err _) after = after ≡ before
