-- What holds at each place of a list, and of one more entry.
use Rattle.std.proofs.Common.{◌≡◌, List, [], ◌∷◌, ◌++◌, refl, sym, ap, subst, append_assoc}
use Rattle.heap_events.specs.Places.{AtEach}

module _ {X : Type 0} (P : List X → X → Type 0) where
  pub each_none : AtEach P []
  each_none [] after x e = absurd cc
  each_none (b ∷ before) after x e = absurd cc

  -- a list, behind these entries
  abbrev Behind : List X → List X → Type 0
  Behind front xs = (before after : List X) (x : X) → xs ≡ before ++ (x ∷ after) → P (front ++ before) x

  behind_more : (front xs : List X) (y : X) → Behind front xs → P (front ++ xs) y → Behind front (xs ++ (y ∷ []))
  behind_more front [] y h k [] after x e = let q : y ≡ x = cc in subst (λ (z : X). P (front ++ []) z) q k
  behind_more front [] y h k (b ∷ []) after x e = absurd cc
  behind_more front [] y h k (b ∷ c ∷ before) after x e = absurd cc
  behind_more front (z ∷ xs) y h k [] after x e = let q : z ≡ x = cc in subst (λ (u : X). P (front ++ []) u) q (h [] xs z refl)
  behind_more front (z ∷ xs) y h k (b ∷ before) after x e =
      let q : z ≡ b = cc in
      let r : xs ++ (y ∷ []) ≡ before ++ (x ∷ after) = cc in
      let moved : (us : List X) → (front ++ (z ∷ [])) ++ us ≡ front ++ (z ∷ us) = λ us. append_assoc front (z ∷ []) us in
      let again = behind_more (front ++ (z ∷ [])) xs y
      (λ before' after' x' e'. subst (λ (us : List X). P us x') (sym (moved before')) (h (z ∷ before') after' x' (ap (λ (us : List X). z ∷ us) e')))
      (subst (λ (us : List X). P us y) (sym (moved xs)) k) before after x r in
      subst (λ (u : X). P (front ++ (u ∷ before)) x) q (subst (λ (us : List X). P us x) (moved before) again)

  pub each_more : (xs : List X) (y : X) → AtEach P xs → P xs y → AtEach P (xs ++ (y ∷ []))
  each_more xs y h k = behind_more [] xs y h k
