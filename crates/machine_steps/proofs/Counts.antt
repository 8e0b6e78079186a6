-- How many steps were made: as many as were to be while the run is on its way, and never more.
use Rattle.std.proofs.Common.{◌≡◌, ℕ, zero, suc, ◌≤◌, refl, ap, arith}
use Rattle.machine_steps.specs.Steps.{Turn, Went, Ended, NoStep, Going, Over, Stuck, reached_by, reached}

module _ {E A : Type 0} (step : A → Turn E A) where
  made_by : (n : ℕ) (o : Turn E A) (a : A) → ((b : A) → (reached step n b).stand ≡ Going → (reached step n b).steps ≡ n) → (reached_by o a (reached step n)).stand ≡ Going →
      (reached_by o a (reached step n)).steps ≡ suc n
  made_by n (Went es b) a again going = ap (λ (k : ℕ). suc k) (again b going)
  made_by n (Ended es x b) a again going = let clash : Over x ≡ Going = going in absurd cc
  made_by n NoStep a again going = let clash : Stuck ≡ Going = going in absurd cc

  pub all_made : (n : ℕ) (a : A) → (reached step n a).stand ≡ Going → (reached step n a).steps ≡ n
  all_made zero a going = refl
  all_made (suc n) a going = made_by n (step a) a (λ b h. all_made n b h) going

  no_more_by : (n : ℕ) (o : Turn E A) (a : A) → ((b : A) → (reached step n b).steps ≤ n) → (reached_by o a (reached step n)).steps ≤ suc n
  no_more_by n (Went es b) a again = let h = again b in omega (arith, h)
  no_more_by n (Ended es x b) a again = omega arith
  no_more_by n NoStep a again = omega arith

  pub no_more_made : (n : ℕ) (a : A) → (reached step n a).steps ≤ n
  no_more_made zero a = omega arith
  no_more_made (suc n) a = no_more_by n (step a) a (λ b. no_more_made n b)
