-- What is seen of two machines, one of which follows the other; and what has ended stays.
use Rattle.std.proofs.Common.{◌≡◌, ℕ, zero, suc, ◌≤◌, List, [], ◌++◌, ◌⊎◌, inl, inr, refl, sym, ap, ◌∙◌, ⊎_elim, arith, append_assoc}
use Rattle.std.specs.List.{flat_map}
use Rattle.std.proofs.lemmas.List.{append-nil}
use Rattle.std.proofs.lemmas.Grind.{flat_map-append}
use Rattle.machine_steps.specs.declared.End.{End}
use Rattle.machine_steps.specs.Steps.{Turn, Went, Ended, NoStep, Going, Over, Reached, onward, reached_by, reached}
use Rattle.machine_steps.specs.Agreement.{IsExhausted, IsSettled, IsPrefix, Seen, seen, Alike}
use Rattle.machine_steps.specs.Simulations.{Follows, Exhausts, Throughout}
use Rattle.machine_steps.proofs.Follow.{follows}

module _ {E A : Type 0} (step : A → Turn E A) where
  stays_by : (n : ℕ) (o : Turn E A) (a : A) (e : End) → ((b : A) → (reached step n b).stand ≡ Over e → reached step (suc n) b ≡ reached step n b) →
      (reached_by o a (reached step n)).stand ≡ Over e → reached_by o a (reached step (suc n)) ≡ reached_by o a (reached step n)
  stays_by n (Went es b) a e again over = ap (onward es) (again b over)
  stays_by n (Ended es x b) a e again over = refl
  stays_by n NoStep a e again over = refl

  pub stays : (n : ℕ) (a : A) (e : End) → (reached step n a).stand ≡ Over e → reached step (suc n) a ≡ reached step n a
  stays zero a e over = let same : Going ≡ Over e = over in cc
  stays (suc n) a e over = stays_by n (step a) a e (λ b h. stays n b e h) over

  -- what was said by then is said first
  abbrev SaidFirst : Reached E A → Reached E A → Type 0
  SaidFirst r s = (rest : List E) × (r.said ++ rest ≡ s.said)

  said_by : (k n : ℕ) (o : Turn E A) (a : A) → ((b : A) → SaidFirst (reached step k b) (reached step n b)) → SaidFirst (reached_by o a (reached step k)) (reached_by o a (reached step n))
  said_by k n (Went es b) a again = let r = again b in (r.0, append_assoc es (reached step k b).said r.0 ∙ ap (λ (l : List E). es ++ l) r.1)
  said_by k n (Ended es x b) a again = ([], append-nil es)
  said_by k n NoStep a again = ([], refl)

  said_first : (k n : ℕ) → k ≤ n → (a : A) → SaidFirst (reached step k a) (reached step n a)
  said_first zero n le a = ((reached step n a).said, refl)
  said_first (suc k) zero le a = absurd (omega (arith, le))
  said_first (suc k) (suc n) le a = said_by k n (step a) a (λ b. said_first k n (omega (arith, le)) b)

pub same_seen : (s t : Seen) → s.printed ≡ t.printed → s.stand ≡ t.stand → s ≡ t
same_seen s t p q = λ i. record { printed = p i; stand = q i }

module _ {D E A B : Type 0} (Fits Meets : List D → List E → Type 0) (Holds : List E → B → Type 0)
    (f : A → Turn D A) (g : B → Turn E B) (R : List D → A → List E → B → Type 0) (size : A → ℕ)
    (source : D → List ℕ) (target : E → List ℕ) (prints : (ds : List D) (es : List E) → Fits ds es → flat_map target es ≡ flat_map source ds) where
  exhausts : (n : ℕ) (a : A) (t : Reached E B) → Exhausts Fits Meets Holds f g R size [] [] n a t → IsPrefix (seen target t).printed (seen source (reached f n a)).printed
  exhausts n a t h =
      let r = said_first f h.earlier n h.before a in
      let said = (reached f h.earlier a).said in (
        flat_map source r.0,
        ap (λ (l : List ℕ). l ++ flat_map source r.0) (prints said t.said h.fits) ∙ sym (flat_map-append source said r.0) ∙ ap (flat_map source) r.1,
      )

  pub alike : Follows Fits Meets Holds f g R size → (a : A) (b : B) → R [] a [] b → Alike (λ n. seen source (reached f n a)) (λ m. seen target (reached g m b))
  alike sim a b r = record { forth = forth; back = back }
    where
      all : Throughout Fits Meets Holds f g R size [] [] a b
      all = follows Fits Meets Holds f g R size sim a b [] [] r

      forth : (n : ℕ) → (m : ℕ) × ((seen target (reached g m b) ≡ seen source (reached f n a)) ⊎ (IsExhausted (reached g m b).stand × IsPrefix (seen target (reached g m b)).printed (seen source (reached f n a)).printed))
      forth n =
          let h = all.forth n in (
            h.0,
            ⊎_elim
                (λ k. inl (same_seen (seen target (reached g h.0 b)) (seen source (reached f n a)) (prints (reached f n a).said (reached g h.0 b).said k.fits) k.stand))
                (λ k. inr (k.exhausted, exhausts n a (reached g h.0 b) k))
                h.1,
          )

      back : (m : ℕ) → (n : ℕ) × ((seen target (reached g m b)).printed ≡ (seen source (reached f n a)).printed) × (IsSettled (reached g m b).stand → (reached f n a).stand ≡ (reached g m b).stand)
      back m = let h = all.back m in (h.0, prints (reached f h.0 a).said (reached g m b).said h.1.fits, λ z. (h.1.settled z).0)
