-- A walk arrives by what is reached, and answers a step of the source.
use Rattle.std.proofs.Common.{◌≡◌, ◌∙◌, ℕ, zero, suc, ◌<◌, ◌≤◌, List, [], ◌∷◌, ◌++◌, refl, ap, sym, subst, ⊎_elim, arith, append_assoc}
use Rattle.std.proofs.lemmas.List.{append-nil}
use Rattle.std.proofs.lemmas.Bool.{cases_lt}
use Rattle.machine_steps.specs.declared.End.{End}
use Rattle.machine_steps.specs.Steps.{Turn, Went, Ended, NoStep, Reached, onward, going, reached_by, reached}
use Rattle.machine_steps.specs.Simulations.{Within, Stops, Ends, Answers}
use Rattle.machine_steps.specs.Walks.{on_turn, Goes, Walk, Arrives, OnTheWay, AtEnd}

module _ {E B : Type 0} (g : B → Turn E B) (P K : List E → B → Type 0) where
  -- a walk of no steps
  pub now : {es : List E} {b : B} → K es b → Walk g P K es b
  now k = record { steps = 0; goes = k }

  -- a step that says nothing, and a walk
  pub quietly : {es : List E} {b c : B} → P es b → g b ≡ Went [] c → Walk g P K es c → Walk g P K es b
  quietly {es} p s w = record { steps = suc w.steps; goes = (p, subst (λ o. on_turn g P K o es (Goes g P K w.steps)) (sym s) w.goes) }

  -- a step that says one thing, and a walk
  pub saying : {es : List E} {b c : B} {x : E} → P es b → g b ≡ Went (x ∷ []) c → Walk g P K (es ++ (x ∷ [])) c → Walk g P K es b
  saying {es} p s w = record { steps = suc w.steps; goes = (p, subst (λ o. on_turn g P K o es (Goes g P K w.steps)) (sym s) w.goes) }

  one_more : (n : ℕ) (es xs : List E) (b c : B) → g b ≡ Went xs c → P es b → Arrives g P K n (es ++ xs) c → Arrives g P K (suc n) es b
  one_more n es xs b c s p r = record {
    said = xs ++ r.said;
    to = r.to;
    comes = record { by = ap (λ o. reached_by o b (reached g n)) s ∙ ap (onward xs) r.comes.by };
    there = subst (λ (l : List E). K l r.to) (append_assoc es xs r.said) r.there;
    way = way;
  }
    where
      way : (m : ℕ) → m < suc n → P (es ++ (reached g m b).said) (reached g m b).at
      way zero lt = subst (λ (l : List E). P l b) (sym (append-nil es)) p
      way (suc m) lt =
          let t = reached g m c in
          subst (λ (o : Turn E B). P (es ++ (reached_by o b (reached g m)).said) (reached_by o b (reached g m)).at) (sym s)
          (subst (λ (l : List E). P l t.at) (append_assoc es xs t.said) (r.way m (omega (arith, lt))))

  pub arrive : (n : ℕ) (es : List E) (b : B) → Goes g P K n es b → Arrives g P K n es b
  arrive zero es b k = record {
    said = [];
    to = b;
    comes = record { by = refl };
    there = subst (λ (l : List E). K l b) (sym (append-nil es)) k;
    way = λ m lt. absurd (omega (arith, lt));
  }
  arrive (suc n) es b h = turn (g b) refl h.1 (λ l c k. arrive n l c k)
    where
      turn : (o : Turn E B) → g b ≡ o → on_turn g P K o es (Goes g P K n) → ((l : List E) (c : B) → Goes g P K n l c → Arrives g P K n l c) → Arrives g P K (suc n) es b
      turn (Went [] c) s k again = one_more n es [] b c s h.0 (again (es ++ []) c (subst (λ (l : List E). Goes g P K n l c) (sym (append-nil es)) k))
      turn (Went (x ∷ xs) c) s k again = one_more n es (x ∷ xs) b c s h.0 (again (es ++ (x ∷ xs)) c k)
      turn (Ended xs x c) s k again = absurd k
      turn NoStep s k again = absurd k

module _ {D E A B : Type 0} (Fits Meets : List D → List E → Type 0) (Holds : List E → B → Type 0)
    (f : A → Turn D A) (g : B → Turn E B) (R : List D → A → List E → B → Type 0) (size : A → ℕ) where
  -- a walk to what is related answers a step of the source, whose size falls where the walk has no step
  pub answers_by : {ds ds' : List D} {es : List E} {a a' : A} {b : B} → f a ≡ Went ds' a' → (w : Walk g (OnTheWay Fits Holds ds ds') (R (ds ++ ds') a') es b) → (w.steps ≡ 0 → size a' < size a) →
      Answers Fits Meets Holds f g R size ds es (f a) (size a) b
  answers_by {ds} {ds'} {es} {a} {a'} {b} goes w falls =
      let r = arrive g (OnTheWay Fits Holds ds ds') (R (ds ++ ds') a') w.steps es b w.goes in
      subst (λ (t : Turn D A). Answers Fits Meets Holds f g R size ds es t (size a) b) (sym goes) (record {
        steps = w.steps;
        said = r.said;
        to = r.to;
        comes = r.comes;
        within = λ m lt. record { fits = (r.way m lt).0; holds = (r.way m lt).1 };
        related = r.there;
        falls = falls;
      })

  abbrev Stopping : List D → List D → List D → List E → End → List E → B → Type 0
  Stopping ds ds' after last e es b = AtEnd Fits Holds g after last e es b × OnTheWay Fits Holds ds ds' es b

  abbrev Arriving : List D → List D → List D → List E → End → ℕ → List E → B → Type 0
  Arriving ds ds' after last e n es b = Arrives g (OnTheWay Fits Holds ds ds') (Stopping ds ds' after last e) n es b

  abbrev TheWithin : List D → List D → List E → Reached E B → Type 0
  TheWithin ds ds' es t = Within Fits Meets Holds f g R size ds ds' es t

  within_by : {ds ds' after : List D} {last : List E} {e : End} {es : List E} {b : B} → (n m : ℕ) → Arriving ds ds' after last e n es b → m ≤ n → TheWithin ds ds' es (reached g m b)
  within_by {ds} {ds'} {after} {last} {e} {es} {b} n m r le = ⊎_elim (λ lt. at (reached g m b) (r.way m lt)) (λ ge. ended (omega (arith, ge, le))) (cases_lt m n)
    where
      at : (t : Reached E B) → OnTheWay Fits Holds ds ds' (es ++ t.said) t.at → TheWithin ds ds' es t
      at t h = record { fits = h.0; holds = h.1 }

      ended : n ≡ m → TheWithin ds ds' es (reached g m b)
      ended same = subst (λ (i : ℕ). TheWithin ds ds' es (reached g i b)) same (subst (TheWithin ds ds' es) (sym r.comes.by) (at (going n r.said r.to) r.there.1))

  abbrev stops_from : {ds ds' after : List D} {last : List E} {e : End} {es : List E} {b : B} → (n : ℕ) → Arriving ds ds' after last e n es b → Stops Fits Meets Holds f g R size ds ds' after es e b
  stops_from {ds} {ds'} {after} {last} {e} {es} {b} n r = record {
    steps = n;
    said = r.said;
    to = r.to;
    last = last;
    final = r.to;
    comes = r.comes;
    within = λ m le. within_by n m r le;
    ends = r.there.0.ends;
    fits = subst (λ (l : List E). Fits after l) (append_assoc es r.said last) r.there.0.fits;
    holds = subst (λ (l : List E). Holds l r.to) (append_assoc es r.said last) r.there.0.holds;
  }

  -- a walk to an end stops the target within a step of the source that says ds'
  pub stops_by : {ds ds' after : List D} {last : List E} {e : End} {es : List E} {b : B} → Walk g (OnTheWay Fits Holds ds ds') (Stopping ds ds' after last e) es b →
      Stops Fits Meets Holds f g R size ds ds' after es e b
  stops_by {ds} {ds'} {after} {last} {e} {es} {b} w = stops_from w.steps (arrive g (OnTheWay Fits Holds ds ds') (Stopping ds ds' after last e) w.steps es b w.goes)

  -- the same with what meets at the end: it ends as the source does
  pub ends_by : {ds ds' : List D} {last : List E} {e : End} {es : List E} {b : B} →
      Walk g (OnTheWay Fits Holds ds ds') (λ l c. Stopping ds ds' (ds ++ ds') last e l c × Meets (ds ++ ds') (l ++ last)) es b → Ends Fits Meets Holds f g R size ds ds' es e b
  ends_by {ds} {ds'} {last} {e} {es} {b} w =
      let r = arrive g (OnTheWay Fits Holds ds ds') (λ l c. Stopping ds ds' (ds ++ ds') last e l c × Meets (ds ++ ds') (l ++ last)) w.steps es b w.goes in
      record {
        stops = stops_from w.steps (record { said = r.said; to = r.to; comes = r.comes; there = r.there.0; way = r.way });
        meets = subst (λ (l : List E). Meets (ds ++ ds') l) (append_assoc es r.said last) r.there.1;
      }
