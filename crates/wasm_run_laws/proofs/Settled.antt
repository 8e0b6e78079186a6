-- A run that is over is so after the steps that it made, and was on its way before.
use Rattle.std.proofs.Common.{◌≡◌, ◌∙◌, ℕ, zero, suc, ◌<◌, List, refl, ap, arith}
use Rattle.machine_steps.specs.declared.End.{End}
use Rattle.machine_steps.specs.Steps.{Turn, Went, Ended, NoStep, Going, Over, Reached, onward, reached, reached_by}

module _ {E A : Type 0} (step : A → Turn E A) where
  -- so many steps were made until the end, and no fewer
  pub record Settles (n : ℕ) (a : A) : Type 0 where
    pub again : reached step (reached step n a).steps a ≡ reached step n a
    pub before : (k : ℕ) → k < (reached step n a).steps → (reached step k a).stand ≡ Going

  -- the same of what a first turn leads to
  record SettlesBy (t : Turn E A) (n : ℕ) (a : A) : Type 0 where
    again : reached step (reached_by t a (reached step n)).steps a ≡ reached_by t a (reached step n)
    before : (k : ℕ) → k < (reached_by t a (reached step n)).steps → (reached step k a).stand ≡ Going

  one_more : (a b : A) (es : List E) (k : ℕ) → step a ≡ Went es b → reached step (suc k) a ≡ onward es (reached step k b)
  one_more a b es k q = ap (λ (t : Turn E A). reached_by t a (reached step k)) q

  going_before : (a b : A) (es : List E) (n : ℕ) → step a ≡ Went es b → Settles n b → (k : ℕ) → k < suc (reached step n b).steps → (reached step k a).stand ≡ Going
  going_before a b es n q h zero lt = refl
  going_before a b es n q h (suc k) lt = ap (λ (r : Reached E A). r.stand) (one_more a b es k q) ∙ h.before k (omega (arith, lt))

  at_first : (a : A) (k : ℕ) → k < 1 → (reached step k a).stand ≡ Going
  at_first a zero lt = refl
  at_first a (suc k) lt = absurd (omega (arith, lt))

  by_turn : (n : ℕ) (a : A) (e : End) → ((b : A) → (reached step n b).stand ≡ Over e → Settles n b) → (t : Turn E A) → step a ≡ t
      → (reached_by t a (reached step n)).stand ≡ Over e → SettlesBy t n a
  by_turn n a e later (Went es b) q o =
      let h = later b o in
      record { again = one_more a b es (reached step n b).steps q ∙ ap (onward es) h.again; before = going_before a b es n q h }
  by_turn n a e later (Ended es x b) q o = record { again = ap (λ (t : Turn E A). reached_by t a (reached step 0)) q; before = at_first a }
  by_turn n a e later NoStep q o = absurd (cc)

  pub settles : (n : ℕ) (a : A) (e : End) → (reached step n a).stand ≡ Over e → Settles n a
  settles zero a e o = absurd (cc)
  settles (suc n) a e o =
      let h = by_turn n a e (λ (b : A) x. settles n b e x) (step a) refl o in
      record { again = h.again; before = h.before }
