-- A target that answers each step of its source fits it throughout, and behaves as it does.
use Rattle.std.proofs.Common.{◌≡◌, ℕ, zero, suc, ◌+◌, ◌-◌, ◌<◌, ◌≤◌, List, [], ◌++◌, ◌⊎◌, inl, inr, refl, sym, ap, ◌∙◌, subst, ⊎_elim, arith, append_assoc}
use Rattle.std.proofs.lemmas.List.{append-nil}
use Rattle.std.proofs.lemmas.Bool.{cases_lt}
use Rattle.machine_steps.specs.declared.End.{End}
use Rattle.machine_steps.specs.declared.End.TheVariants.{Trap}
use Rattle.machine_steps.specs.declared.Trap.TheVariants.{Exhausted}
use Rattle.machine_steps.specs.Steps.{Turn, Went, Ended, NoStep, Going, Over, Stuck, Reached, onward, preceded, going, over, reached_by, reached}
use Rattle.machine_steps.specs.Agreement.{IsSettled}
use Rattle.machine_steps.specs.Simulations.{Comes, Within, Moves, Stops, Ends, Answers, Follows, Matches, Keeps, Exhausts, Throughout}

-- what is on the way, from how it stands
stands_going : {E A : Type 0} (n : ℕ) (r : Reached E A) → r.stand ≡ Going → r.steps ≡ n → r ≡ going n r.said r.at
stands_going n r e q = λ i. record { said = r.said; stand = e i; at = r.at; steps = q i }

onward_preceded : {E A : Type 0} (n : ℕ) (xs ys zs : List E) (r : Reached E A) → xs ++ ys ≡ zs → onward xs (preceded n ys r) ≡ preceded (suc n) zs r
onward_preceded {E} n xs ys zs r e =
    let p : xs ++ (ys ++ r.said) ≡ zs ++ r.said = sym (append_assoc xs ys r.said) ∙ ap (λ (l : List E). l ++ r.said) e in
    let q : suc (n + r.steps) ≡ suc n + r.steps = omega arith in
    λ i. record { said = p i; stand = r.stand; at = r.at; steps = q i }

preceded_none : {E A : Type 0} (es : List E) (r : Reached E A) → [] ≡ es → r ≡ preceded 0 es r
preceded_none {E} es r e =
    let p : r.said ≡ es ++ r.said = ap (λ (l : List E). l ++ r.said) e in
    let q : r.steps ≡ 0 + r.steps = omega arith in
    λ i. record { said = p i; stand = r.stand; at = r.at; steps = q i }

module _ {E B : Type 0} (g : B → Turn E B) where
  goes_to : (n : ℕ) (xs es : List E) (c b1 : B) → onward xs (reached g n c) ≡ going (suc n) es b1 → reached g n c ≡ going n (reached g n c).said b1
  goes_to n xs es c b1 e =
      let r = reached g n c in
      let made : suc r.steps ≡ suc n = ap (λ (s : Reached E B). s.steps) e in
      let q : r.steps ≡ n = omega (arith, made) in
      stands_going n r (ap (λ (s : Reached E B). s.stand) e) q ∙ ap (going n r.said) (ap (λ (s : Reached E B). s.at) e)

  later_by : (n : ℕ) (o : Turn E B) (b : B) (es : List E) (b1 : B) → reached_by o b (reached g n) ≡ going (suc n) es b1 → (m k : ℕ) →
      ((c : B) (rs : List E) → reached g n c ≡ going n rs b1 → reached g m c ≡ preceded n rs (reached g k b1)) → reached_by o b (reached g m) ≡ preceded (suc n) es (reached g k b1)
  later_by n (Went xs c) b es b1 e m k again =
      let r = reached g n c in
      ap (onward xs) (again c r.said (goes_to n xs es c b1 e)) ∙ onward_preceded n xs r.said es (reached g k b1) (ap (λ (s : Reached E B). s.said) e)
  later_by n (Ended xs x c) b es b1 e m k again = let clash : Over x ≡ Going = ap (λ (s : Reached E B). s.stand) e in cc
  later_by n NoStep b es b1 e m k again = let clash : Stuck ≡ Going = ap (λ (s : Reached E B). s.stand) e in cc

  later : (n m k : ℕ) (b b1 : B) (es : List E) → m ≡ n + k → reached g n b ≡ going n es b1 → reached g m b ≡ preceded n es (reached g k b1)
  later zero m k b b1 es em e =
      let same : m ≡ k = omega (arith, em) in
      ap (λ (i : ℕ). reached g i b) same ∙ ap (reached g k) (ap (λ (s : Reached E B). s.at) e) ∙ preceded_none es (reached g k b1) (ap (λ (s : Reached E B). s.said) e)
  later (suc n) zero k b b1 es em e = absurd (omega (arith, em))
  later (suc n) (suc m) k b b1 es em e = later_by n (g b) b es b1 e m k (λ c rs h. later n m k c b1 rs (omega (arith, em)) h)

  pub comes_later : {n : ℕ} {b b1 : B} {es : List E} → (m k : ℕ) → m ≡ n + k → Comes g n b es b1 → reached g m b ≡ preceded n es (reached g k b1)
  comes_later {n} {b} {b1} {es} m k e c = later n m k b b1 es e c.by

  way_by : (n : ℕ) (o : Turn E B) (b : B) (es : List E) (b1 : B) → reached_by o b (reached g n) ≡ going (suc n) es b1 → (m : ℕ) →
      ((c : B) (rs : List E) → reached g n c ≡ going n rs b1 → (reached g m c).stand ≡ Going) → (reached_by o b (reached g m)).stand ≡ Going
  way_by n (Went xs c) b es b1 e m again = again c (reached g n c).said (goes_to n xs es c b1 e)
  way_by n (Ended xs x c) b es b1 e m again = let clash : Over x ≡ Going = ap (λ (s : Reached E B). s.stand) e in cc
  way_by n NoStep b es b1 e m again = let clash : Stuck ≡ Going = ap (λ (s : Reached E B). s.stand) e in cc

  way : (n m : ℕ) (b b1 : B) (es : List E) → m ≤ n → reached g n b ≡ going n es b1 → (reached g m b).stand ≡ Going
  way n zero b b1 es le e = refl
  way zero (suc m) b b1 es le e = absurd (omega (arith, le))
  way (suc n) (suc m) b b1 es le e = way_by n (g b) b es b1 e m (λ c rs h. way n m c b1 rs (omega (arith, le)) h)

  pub comes_way : {n : ℕ} {b b1 : B} {es : List E} → (m : ℕ) → m ≤ n → Comes g n b es b1 → (reached g m b).stand ≡ Going
  comes_way {n} {b} {b1} {es} m le c = way n m b b1 es le c.by

module _ {D E A B : Type 0} (Fits Meets : List D → List E → Type 0) (Holds : List E → B → Type 0)
    (f : A → Turn D A) (g : B → Turn E B) (R : List D → A → List E → B → Type 0) (size : A → ℕ) where
  abbrev TheWithin : List D → List D → List E → Reached E B → Type 0
  TheWithin = Within Fits Meets Holds f g R size

  abbrev TheMoves : List D → List D → List E → ℕ → A → B → Type 0
  TheMoves = Moves Fits Meets Holds f g R size

  abbrev TheStops : List D → List D → List D → List E → End → B → Type 0
  TheStops = Stops Fits Meets Holds f g R size

  abbrev TheEnds : List D → List D → List E → End → B → Type 0
  TheEnds = Ends Fits Meets Holds f g R size

  abbrev TheAnswers : List D → List E → Turn D A → ℕ → B → Type 0
  TheAnswers = Answers Fits Meets Holds f g R size

  abbrev TheMatches : List D → List E → Reached D A → Reached E B → Type 0
  TheMatches = Matches Fits Meets Holds f g R size

  abbrev TheKeeps : List D → List E → Reached D A → Reached E B → Type 0
  TheKeeps = Keeps Fits Meets Holds f g R size

  abbrev TheExhausts : List D → List E → ℕ → A → Reached E B → Type 0
  TheExhausts = Exhausts Fits Meets Holds f g R size

  abbrev Back : List D → List E → ℕ → A → B → Type 0
  Back ds es m a b = (n : ℕ) × TheMatches ds es (reached f n a) (reached g m b)

  abbrev Forth : List D → List E → ℕ → A → B → Type 0
  Forth ds es n a b = (m : ℕ) × (TheKeeps ds es (reached f n a) (reached g m b) ⊎ TheExhausts ds es n a (reached g m b))

  fits_on : (ds ds' : List D) (es es' : List E) (P : List D → List E → Type 0) (xs : List D) (ys : List E) → P ((ds ++ ds') ++ xs) ((es ++ es') ++ ys) → P (ds ++ (ds' ++ xs)) (es ++ (es' ++ ys))
  fits_on ds ds' es es' P xs ys h =
      subst (λ (l : List D). P l (es ++ (es' ++ ys))) (append_assoc ds ds' xs) (subst (P ((ds ++ ds') ++ xs)) (append_assoc es es' ys) h)

  holds_on : (es es' ys : List E) (b : B) → Holds ((es ++ es') ++ ys) b → Holds (es ++ (es' ++ ys)) b
  holds_on es es' ys b h = subst (λ (l : List E). Holds l b) (append_assoc es es' ys) h

  matches_on : (n : ℕ) (ds ds' : List D) (es es' : List E) (s : Reached D A) (t : Reached E B) → TheMatches (ds ++ ds') (es ++ es') s t → TheMatches ds es (onward ds' s) (preceded n es' t)
  matches_on n ds ds' es es' s t h = record {
    fits = fits_on ds ds' es es' Fits s.said t.said h.fits;
    holds = holds_on es es' t.said t.at h.holds;
    settled = λ z. let k = h.settled z in (k.0, fits_on ds ds' es es' Meets s.said t.said k.1);
  }

  keeps_on : (n : ℕ) (ds ds' : List D) (es es' : List E) (s : Reached D A) (t : Reached E B) → TheKeeps (ds ++ ds') (es ++ es') s t → TheKeeps ds es (onward ds' s) (preceded n es' t)
  keeps_on n ds ds' es es' s t h = record { fits = fits_on ds ds' es es' Fits s.said t.said h.fits; stand = h.stand }

  pub no_more : (ds : List D) (es : List E) → Fits ds es → Fits (ds ++ []) es
  no_more ds es h = subst (λ (l : List D). Fits l es) (sym (append-nil ds)) h

  -- the target is on its way within a step of the source, which has made none or is at its end
  still : (ds ds' : List D) (es : List E) (a : A) (t : Reached E B) → t.stand ≡ Going → TheWithin ds ds' es t → (s : Reached D A) → s.said ≡ ds' → reached f 1 a ≡ s → (n : ℕ) × TheMatches ds es (reached f n a) t
  still ds ds' es a t way w s said step =
      ⊎_elim
      (λ h. (0, record { fits = no_more ds (es ++ t.said) h; holds = w.holds; settled = λ z. absurd (subst IsSettled way z) }))
      (λ h. (1, record { fits = subst (λ (l : List D). Fits (ds ++ l) (es ++ t.said)) (sym said ∙ sym (ap (λ (r : Reached D A). r.said) step)) h; holds = w.holds; settled = λ z. absurd (subst IsSettled way z) }))
      w.fits

  -- the same where the source's step says nothing that counts yet
  waits : (ds : List D) (es : List E) (a : A) (t : Reached E B) → t.stand ≡ Going → TheWithin ds [] es t → (n : ℕ) × TheMatches ds es (reached f n a) t
  waits ds es a t way w = (
    0,
    record {
      fits = ⊎_elim (λ h. no_more ds (es ++ t.said) h) (λ h. h) w.fits;
      holds = w.holds;
      settled = λ z. absurd (subst IsSettled way z);
    },
  )

  -- the target after its end
  stopped : {ds ds' after : List D} {es : List E} {e : End} {b : B} → (h : TheStops ds ds' after es e b) → (k m : ℕ) → m ≡ h.steps + suc k → reached g m b ≡ over (h.steps + 1) (h.said ++ h.last) e h.final
  stopped h k m em = comes_later g m (suc k) em h.comes ∙ ap (λ o. preceded h.steps h.said (reached_by o h.to (reached g k))) h.ends

  back_stops : (ds ds' after : List D) (es : List E) (a : A) (b : B) (m : ℕ) (e : End) → (h : TheStops ds ds' after es e b) →
      ((t : Reached E B) → t.stand ≡ Going → TheWithin ds ds' es t → (n : ℕ) × TheMatches ds es (reached f n a) t) →
      ((t : Reached E B) → t ≡ over (h.steps + 1) (h.said ++ h.last) e h.final → (n : ℕ) × TheMatches ds es (reached f n a) t) → Back ds es m a b
  back_stops ds ds' after es a b m e h waiting ended = go (m - h.steps) refl
    where
      go : (j : ℕ) → m - h.steps ≡ j → Back ds es m a b
      go zero e0 = waiting (reached g m b) (comes_way g m (omega (arith, e0)) h.comes) (h.within m (omega (arith, e0)))
      go (suc j) e1 = ended (reached g m b) (stopped h j m (omega (arith, e1)))

  back_ends : (ds ds' : List D) (es : List E) (a a' : A) (b : B) (m : ℕ) (e : End) → f a ≡ Ended ds' e a' → TheEnds ds ds' es e b → Back ds es m a b
  back_ends ds ds' es a a' b m e fa h = back_stops ds ds' (ds ++ ds') es a b m e h.stops (λ t way w. still ds ds' es a t way w (over 1 ds' e a') refl step) ended
    where
      step : reached f 1 a ≡ over 1 ds' e a'
      step = ap (λ o. reached_by o a (reached f 0)) fa

      at_end : TheMatches ds es (over 1 ds' e a') (over (h.stops.steps + 1) (h.stops.said ++ h.stops.last) e h.stops.final)
      at_end = record { fits = h.stops.fits; holds = h.stops.holds; settled = λ z. (refl, h.meets) }

      ended : (t : Reached E B) → t ≡ over (h.stops.steps + 1) (h.stops.said ++ h.stops.last) e h.stops.final → (n : ℕ) × TheMatches ds es (reached f n a) t
      ended t is = (1, subst (λ (s : Reached D A). TheMatches ds es s t) (sym step) (subst (TheMatches ds es (over 1 ds' e a')) (sym is) at_end))

  back_exhausts : (ds : List D) (es : List E) (a : A) (b : B) (m : ℕ) → TheStops ds [] ds es (Trap Exhausted) b → Back ds es m a b
  back_exhausts ds es a b m h = back_stops ds [] ds es a b m (Trap Exhausted) h (λ t way w. waits ds es a t way w) ended
    where
      at_end : TheMatches ds es (going 0 [] a) (over (h.steps + 1) (h.said ++ h.last) (Trap Exhausted) h.final)
      at_end = record { fits = no_more ds (es ++ (h.said ++ h.last)) h.fits; holds = h.holds; settled = λ z. absurd z }

      ended : (t : Reached E B) → t ≡ over (h.steps + 1) (h.said ++ h.last) (Trap Exhausted) h.final → (n : ℕ) × TheMatches ds es (reached f n a) t
      ended t is = (0, subst (TheMatches ds es (going 0 [] a)) (sym is) at_end)

  abbrev Earlier : ℕ → Type 0
  Earlier m = (k : ℕ) → k < m → (ds : List D) (a : A) (es : List E) (b : B) → R ds a es b → Back ds es k a b

  back_moves : (ds ds' : List D) (es : List E) (a a' : A) (b : B) (m s : ℕ) → f a ≡ Went ds' a' → (h : TheMoves ds ds' es (size a) a' b) → size a ≤ s → Earlier m →
      ((ds : List D) (a : A) (es : List E) (b : B) → size a < s → R ds a es b → Back ds es m a b) → Back ds es m a b
  back_moves ds ds' es a a' b m s fa h le earlier again =
      ⊎_elim
      (λ lt. still ds ds' es a (reached g m b) (comes_way g m (omega (arith, lt)) h.comes) (h.within m lt) (going 1 (ds' ++ []) a') (append-nil ds') (ap (λ o. reached_by o a (reached f 0)) fa))
      (λ ge. beyond (m - h.steps) (omega (arith, ge)))
      (cases_lt m h.steps)
    where
      rest : (k : ℕ) → m ≡ h.steps + k → (j : ℕ) → h.steps ≡ j → Back (ds ++ ds') (es ++ h.said) k a' h.to
      rest k em zero e0 =
          let same : m ≡ k = omega (arith, em, e0) in
          let lt = h.falls e0 in
          subst (λ (i : ℕ). Back (ds ++ ds') (es ++ h.said) i a' h.to) same (again (ds ++ ds') a' (es ++ h.said) h.to (omega (arith, lt, le)) h.related)
      rest k em (suc j) e1 = earlier k (omega (arith, em, e1)) (ds ++ ds') a' (es ++ h.said) h.to h.related

      beyond : (k : ℕ) → m ≡ h.steps + k → Back ds es m a b
      beyond k em =
          let r = rest k em h.steps refl in
          let ef : reached f (suc r.0) a ≡ onward ds' (reached f r.0 a') = ap (λ o. reached_by o a (reached f r.0)) fa in (
            suc r.0,
            subst (λ (s : Reached D A). TheMatches ds es s (reached g m b)) (sym ef)
                (subst (TheMatches ds es (onward ds' (reached f r.0 a'))) (sym (comes_later g m k em h.comes)) (matches_on h.steps ds ds' es h.said (reached f r.0 a') (reached g k h.to) r.1)),
          )

  back_turn : (ds : List D) (es : List E) (a : A) (b : B) (m s : ℕ) (t : Turn D A) → f a ≡ t → TheAnswers ds es t (size a) b → size a ≤ s → Earlier m →
      ((ds : List D) (a : A) (es : List E) (b : B) → size a < s → R ds a es b → Back ds es m a b) → Back ds es m a b
  back_turn ds es a b m s (Went ds' a') fa h le earlier again = back_moves ds ds' es a a' b m s fa h le earlier again
  back_turn ds es a b m s (Ended ds' e a') fa h le earlier again = back_ends ds ds' es a a' b m e fa h
  back_turn ds es a b m s NoStep fa h le earlier again = absurd h

  abbrev IsAnswered : Type 0
  IsAnswered = (ds : List D) (a : A) (es : List E) (b : B) → R ds a es b → TheAnswers ds es (f a) (size a) b ⊎ TheStops ds [] ds es (Trap Exhausted) b

  back_from : IsAnswered → (m : ℕ) → Earlier m → (s : ℕ) (ds : List D) (a : A) (es : List E) (b : B) → size a ≤ s → R ds a es b → Back ds es m a b
  back_from sim m earlier zero ds a es b le r =
      ⊎_elim (λ h. back_turn ds es a b m zero (f a) refl h le earlier (λ ds' a' es' b' lt r'. absurd (omega (arith, lt)))) (λ h. back_exhausts ds es a b m h) (sim ds a es b r)
  back_from sim m earlier (suc s) ds a es b le r =
      ⊎_elim (λ h. back_turn ds es a b m (suc s) (f a) refl h le earlier (λ ds' a' es' b' lt r'. back_from sim m earlier s ds' a' es' b' (omega (arith, lt)) r'))
      (λ h. back_exhausts ds es a b m h) (sim ds a es b r)

  back_below : IsAnswered → (n : ℕ) → Earlier n
  back_below sim zero k lt ds a es b r = absurd (omega (arith, lt))
  back_below sim (suc n) k lt ds a es b r = back_from sim k (λ j jlt. back_below sim n j (omega (arith, lt, jlt))) (size a) ds a es b (omega arith) r

  forth_exhausts : (ds : List D) (es : List E) (n : ℕ) (a : A) (b : B) → TheStops ds [] ds es (Trap Exhausted) b → Forth ds es n a b
  forth_exhausts ds es n a b h = (
    h.steps + suc zero,
    inr (subst (TheExhausts ds es n a) (sym (stopped h zero (h.steps + suc zero) refl))
        (record { exhausted = tt; earlier = zero; before = omega arith; fits = no_more ds (es ++ (h.said ++ h.last)) h.fits })),
  )

  exhausts_on : (k : ℕ) (ds ds' : List D) (es es' : List E) (n : ℕ) (a a' : A) (t : Reached E B) → f a ≡ Went ds' a' → TheExhausts (ds ++ ds') (es ++ es') n a' t → TheExhausts ds es (suc n) a (preceded k es' t)
  exhausts_on k ds ds' es es' n a a' t fa h = record {
    exhausted = h.exhausted;
    earlier = suc h.earlier;
    before = omega (arith, h.before);
    fits =
        let ef : reached f (suc h.earlier) a ≡ onward ds' (reached f h.earlier a') = ap (λ o. reached_by o a (reached f h.earlier)) fa in
        subst (λ (s : Reached D A). Fits (ds ++ s.said) (es ++ (es' ++ t.said))) (sym ef) (fits_on ds ds' es es' Fits (reached f h.earlier a').said t.said h.fits);
  }

  -- the histories fit and both stand alike after a step of the source, and the rest
  pub keeps_moves : {ds ds' : List D} {es : List E} {a a' : A} {b : B} {s : ℕ} → (n k : ℕ) → f a ≡ Went ds' a' → (h : TheMoves ds ds' es s a' b) →
      TheKeeps (ds ++ ds') (es ++ h.said) (reached f n a') (reached g k h.to) → TheKeeps ds es (reached f (suc n) a) (reached g (h.steps + k) b)
  keeps_moves {ds} {ds'} {es} {a} {a'} {b} n k fa h keeps =
      let eg : reached g (h.steps + k) b ≡ preceded h.steps h.said (reached g k h.to) = comes_later g (h.steps + k) k refl h.comes in
      let ef : reached f (suc n) a ≡ onward ds' (reached f n a') = ap (λ o. reached_by o a (reached f n)) fa in
      subst (λ (x : Reached D A). TheKeeps ds es x (reached g (h.steps + k) b)) (sym ef)
      (subst (TheKeeps ds es (onward ds' (reached f n a'))) (sym eg) (keeps_on h.steps ds ds' es h.said (reached f n a') (reached g k h.to) keeps))

  -- and at its end
  pub keeps_ends : {ds ds' : List D} {es : List E} {e : End} {a a' : A} {b : B} → (n : ℕ) → f a ≡ Ended ds' e a' → (h : TheEnds ds ds' es e b) →
      TheKeeps ds es (reached f (suc n) a) (reached g (h.stops.steps + suc zero) b)
  keeps_ends {ds} {ds'} {es} {e} {a} {a'} {b} n fa h =
      let at : TheKeeps ds es (over 1 ds' e a') (over (h.stops.steps + 1) (h.stops.said ++ h.stops.last) e h.stops.final) = record { fits = h.stops.fits; stand = refl } in
      let ef : reached f (suc n) a ≡ over 1 ds' e a' = ap (λ o. reached_by o a (reached f n)) fa in
      subst (λ (x : Reached D A). TheKeeps ds es x (reached g (h.stops.steps + suc zero) b)) (sym ef)
      (subst (TheKeeps ds es (over 1 ds' e a')) (sym (stopped h.stops zero (h.stops.steps + suc zero) refl)) at)

  forth_turn : (ds : List D) (es : List E) (n : ℕ) (a : A) (b : B) (t : Turn D A) (s : ℕ) → f a ≡ t → ((ds : List D) (a : A) (es : List E) (b : B) → R ds a es b → Forth ds es n a b) → TheAnswers ds es t s b → Forth ds es (suc n) a b
  forth_turn ds es n a b (Went ds' a') s fa again h =
      let r = again (ds ++ ds') a' (es ++ h.said) h.to h.related in (
        h.steps + r.0,
        ⊎_elim
            (λ k. inl (keeps_moves n r.0 fa h k))
            (λ k. inr (subst (TheExhausts ds es (suc n) a) (sym (comes_later g (h.steps + r.0) r.0 refl h.comes)) (exhausts_on h.steps ds ds' es h.said n a a' (reached g r.0 h.to) fa k)))
            r.1,
      )
  forth_turn ds es n a b (Ended ds' e a') s fa again h = (h.stops.steps + suc zero, inl (keeps_ends n fa h))
  forth_turn ds es n a b NoStep s fa again h = absurd h

  pub follows : Follows Fits Meets Holds f g R size → (a : A) (b : B) (ds : List D) (es : List E) → R ds a es b → Throughout Fits Meets Holds f g R size ds es a b
  follows sim a b ds es r = record {
    forth = λ n. forth n ds a es b r;
    back = λ m. back_below sim.answers (suc m) m (omega arith) ds a es b r;
  }
    where
      forth : (n : ℕ) (ds : List D) (a : A) (es : List E) (b : B) → R ds a es b → Forth ds es n a b
      forth zero ds a es b r =
          let h = sim.fits ds a es b r in
          (0, inl (record { fits = subst (λ (l : List E). Fits (ds ++ []) l) (sym (append-nil es)) (no_more ds es h.0); stand = refl }))
      forth (suc n) ds a es b r = ⊎_elim (λ h. forth_turn ds es n a b (f a) (size a) refl (λ ds' a' es' b' r'. forth n ds' a' es' b' r') h) (λ h. forth_exhausts ds es (suc n) a b h) (sim.answers ds a es b r)
