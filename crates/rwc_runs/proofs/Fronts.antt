-- What was said after fewer steps is a front of what is said after more; and a run that is over was on its way before its count.
use Rattle.std.proofs.Common.{◌≡◌, ◌∙◌, ◌≤◌, ◌<◌, ℕ, zero, suc, List, [], ◌++◌, refl, ap, sym, arith, append_assoc}
use Rattle.std.proofs.lemmas.List.{append-nil}
use Rattle.machine_steps.specs.declared.End.{End}
use Rattle.machine_steps.specs.Steps.{Turn, Went, Ended, NoStep, Going, Over, Stuck, Reached, onward, over, reached_by, reached}

-- a list begins with another
abbrev pub Begins : {E : Type 0} → List E → List E → Type 0
Begins {E} xs ys = (rest : List E) × (xs ++ rest ≡ ys)

module _ {E A : Type 0} (step : A → Turn E A) where
  front_by : (n k : ℕ) (o : Turn E A) (a : A) → ((b : A) → Begins (reached step n b).said (reached step k b).said) → Begins (reached_by o a (reached step n)).said (reached_by o a (reached step k)).said
  front_by n k (Went es b) a later = let h = later b in (h.0, append_assoc es (reached step n b).said h.0 ∙ ap (λ (l : List E). es ++ l) h.1)
  front_by n k (Ended es e b) a later = ([], append-nil es)
  front_by n k NoStep a later = ([], refl)

  pub front : (n k : ℕ) (a : A) → n ≤ k → Begins (reached step n a).said (reached step k a).said
  front zero k a le = ((reached step k a).said, refl)
  front (suc n) zero a le = absurd (omega (arith, le))
  front (suc n) (suc k) a le = front_by n k (step a) a (λ b. front n k b (omega (arith, le)))

  -- a run that is over was so from its count of steps on, and on its way before
  pub record Halts (n : ℕ) (a : A) : Type 0 where
    pub count : ℕ
    pub counted : (reached step n a).steps ≡ count
    pub same : reached step count a ≡ reached step n a
    pub before : (j : ℕ) → j < count → (reached step j a).stand ≡ Going

  halts_by : (n : ℕ) (a : A) (e : End) (o : Turn E A) → step a ≡ o → ((b : A) → (reached step n b).stand ≡ Over e → Halts n b) → (reached_by o a (reached step n)).stand ≡ Over e → Halts (suc n) a
  halts_by n a e (Went es b) is later ends =
      let h = later b ends in
      let at : (i : ℕ) → reached step (suc i) a ≡ onward es (reached step i b) = λ i. ap (λ (t : Turn E A). reached_by t a (reached step i)) is in
      record {
        count = suc h.count;
        counted = ap (λ (r : Reached E A). r.steps) (at n) ∙ ap (λ (k : ℕ). suc k) h.counted;
        same = at h.count ∙ ap (onward es) h.same ∙ sym (at n);
        before = before h at;
      }
    where
      before : (h : Halts n b) → ((i : ℕ) → reached step (suc i) a ≡ onward es (reached step i b)) → (j : ℕ) → j < suc h.count → (reached step j a).stand ≡ Going
      before h at zero less = refl
      before h at (suc j) less = ap (λ (r : Reached E A). r.stand) (at j) ∙ h.before j (omega (arith, less))
  halts_by n a e (Ended es x b) is later ends =
      let at : (i : ℕ) → reached step (suc i) a ≡ over 1 es x b = λ i. ap (λ (t : Turn E A). reached_by t a (reached step i)) is in
      record {
        count = 1;
        counted = ap (λ (r : Reached E A). r.steps) (at n);
        same = at 0 ∙ sym (at n);
        before = before;
      }
    where
      before : (j : ℕ) → j < 1 → (reached step j a).stand ≡ Going
      before zero less = refl
      before (suc j) less = absurd (omega (arith, less))
  halts_by n a e NoStep is later ends = let clash : Stuck ≡ Over e = ends in absurd cc

  pub halts : (n : ℕ) (a : A) (e : End) → (reached step n a).stand ≡ Over e → Halts n a
  halts zero a e ends = let clash : Going ≡ Over e = ends in absurd cc
  halts (suc n) a e ends = halts_by n a e (step a) refl (λ b h. halts n b e h) ends
