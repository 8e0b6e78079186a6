-- A target that answers each step of its source, and is never exhausted instead, keeps to it exactly; what has ended is over
-- for good, so that neither is ever stuck or exhausted where the source ends.
use Rattle.std.proofs.Common.{◌≡◌, ℕ, zero, suc, ◌+◌, List, [], ◌++◌, ◌⊎◌, inl, inr, refl, sym, ap, ◌∙◌, subst, ⊎_elim}
use Rattle.std.specs.Prelude.{ℤ}
use Rattle.std.specs.List.{flat_map}
use Rattle.std.proofs.lemmas.List.{append-nil}
use Rattle.machine_steps.specs.declared.End.{End}
use Rattle.machine_steps.specs.declared.End.TheVariants.{Value}
use Rattle.machine_steps.specs.Steps.{Turn, Went, Ended, NoStep, Stand, Going, Over, Stuck, Reached, onward, reached_by, reached}
use Rattle.machine_steps.specs.Agreement.{IsExhausted, Seen, seen}
use Rattle.machine_steps.specs.Ending.{Terminates, BothEnd}
use Rattle.machine_steps.specs.Simulations.{Answers, Answered, Keeps}
use Rattle.machine_steps.proofs.Follow.{no_more, keeps_moves, keeps_ends}
use Rattle.machine_steps.proofs.Alike.{same_seen}

module _ {E A : Type 0} (step : A → Turn E A) where
  abbrev IsOnTheWayOr : Reached E A → Reached E A → Type 0
  IsOnTheWayOr r last = (r.stand ≡ Going) ⊎ (r ≡ last)

  once_by : (n m : ℕ) (o : Turn E A) (a : A) (e : End) → ((b : A) → (reached step n b).stand ≡ Over e → IsOnTheWayOr (reached step m b) (reached step n b)) →
      (reached_by o a (reached step n)).stand ≡ Over e → IsOnTheWayOr (reached_by o a (reached step m)) (reached_by o a (reached step n))
  once_by n m (Went es b) a e again over = ⊎_elim (λ h. inl h) (λ h. inr (ap (onward es) h)) (again b over)
  once_by n m (Ended es x b) a e again over = inr refl
  once_by n m NoStep a e again over = let same : Stuck ≡ Over e = over in absurd cc

  pub once : (n m : ℕ) (a : A) (e : End) → (reached step n a).stand ≡ Over e → IsOnTheWayOr (reached step m a) (reached step n a)
  once zero m a e over = let same : Going ≡ Over e = over in absurd cc
  once (suc n) zero a e over = inl refl
  once (suc n) (suc m) a e over = once_by n m (step a) a e (λ b h. once n m b e h) over

  on_the_way_or : (n m : ℕ) (a : A) (v : ℤ) → (reached step n a).stand ≡ Over (Value v) → (P : Stand → Type 0) → P Going → P (Over (Value v)) → P (reached step m a).stand
  on_the_way_or n m a v over P going ended =
      ⊎_elim
      (λ h. subst P (sym h) going)
      (λ h. subst P (sym (ap (λ (r : Reached E A). r.stand) h ∙ over)) ended)
      (once n m a (Value v) over)

  pub terminates : (prints : E → List ℕ) (n : ℕ) (a : A) (v : ℤ) (printed : List ℕ) → seen prints (reached step n a) ≡ record { printed = printed; stand = Over (Value v) } →
      Terminates (λ m. seen prints (reached step m a)) printed (Value v)
  terminates prints n a v printed is =
      let over : (reached step n a).stand ≡ Over (Value v) = ap (λ (s : Seen). s.stand) is in
      record {
        never_stuck = λ m. on_the_way_or n m a v over (λ s. s ≡ Stuck → ⊥) (λ h. cc) (λ h. cc);
        never_exhausted = λ m. on_the_way_or n m a v over (λ s. IsExhausted s → ⊥) (λ h. h) (λ h. h);
        ends = (n, is);
      }

module _ {D E A B : Type 0} (Fits Meets : List D → List E → Type 0) (Holds : List E → B → Type 0)
    (f : A → Turn D A) (g : B → Turn E B) (R : List D → A → List E → B → Type 0) (size : A → ℕ) where
  abbrev Kept : List D → List E → ℕ → A → B → Type 0
  Kept ds es n a b = (m : ℕ) × Keeps Fits Meets Holds f g R size ds es (reached f n a) (reached g m b)

  kept_turn : (ds : List D) (es : List E) (n : ℕ) (a : A) (b : B) (t : Turn D A) (s : ℕ) → f a ≡ t → ((ds : List D) (a : A) (es : List E) (b : B) → R ds a es b → Kept ds es n a b) →
      Answers Fits Meets Holds f g R size ds es t s b → Kept ds es (suc n) a b
  kept_turn ds es n a b (Went ds' a') s fa again h =
      let r = again (ds ++ ds') a' (es ++ h.said) h.to h.related in (h.steps + r.0, keeps_moves Fits Meets Holds f g R size n r.0 fa h r.1)
  kept_turn ds es n a b (Ended ds' e a') s fa again h = (h.stops.steps + suc zero, keeps_ends Fits Meets Holds f g R size n fa h)
  kept_turn ds es n a b NoStep s fa again h = absurd h

  pub kept : Answered Fits Meets Holds f g R size → (n : ℕ) (ds : List D) (a : A) (es : List E) (b : B) → R ds a es b → Kept ds es n a b
  kept sim zero ds a es b r =
      let h = sim.fits ds a es b r in
      (0, record { fits = subst (λ (l : List E). Fits (ds ++ []) l) (sym (append-nil es)) (no_more Fits Meets Holds f g R size ds es h.0); stand = refl })
  kept sim (suc n) ds a es b r = kept_turn ds es n a b (f a) (size a) refl (λ ds' a' es' b' r'. kept sim n ds' a' es' b' r') (sim.answers ds a es b r)

  pub both_end : (source : D → List ℕ) (target : E → List ℕ) → ((ds : List D) (es : List E) → Fits ds es → flat_map target es ≡ flat_map source ds) → Answered Fits Meets Holds f g R size →
      (a : A) (b : B) → R [] a [] b → (n : ℕ) (v : ℤ) → (reached f n a).stand ≡ Over (Value v) → BothEnd (λ n. seen source (reached f n a)) (λ m. seen target (reached g m b))
  both_end source target prints sim a b r n v over =
      let k = kept sim n [] a [] b r in
      let s = seen source (reached f n a) in
      let last : Seen = record { printed = s.printed; stand = Over (Value v) } in
      record {
        printed = s.printed;
        value = v;
        of_source = terminates f source n a v s.printed (same_seen s last refl over);
        of_target = terminates g target k.0 b v s.printed (same_seen (seen target (reached g k.0 b)) last (prints (reached f n a).said (reached g k.0 b).said k.1.fits) (k.1.stand ∙ over));
      }
