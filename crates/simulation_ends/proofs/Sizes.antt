-- Operands and locals at points whose types have as many words.
use Rattle.std.proofs.Common.{◌≡◌, ◌∙◌, ℕ, suc, List, [], ◌∷◌, ◌++◌, length, refl, ap, sym, subst, append_assoc}
use Rattle.std.proofs.lemmas.List.{append-nil}
use Rattle.rw_types.specs.declared.types.Ty.{Ty}
use Rattle.rich_types.specs.Scopes.{Scope}
use Rattle.rich_types.specs.Sizes.{size_under}
use Rattle.rich_reduction.specs.Configurations.{Val}
use Rattle.lowering_rows.specs.Taken.{each_size}
use Rattle.simulation_relation.specs.Words.{AreSpelled, Book, LocalsHold}

pub each_length : (c : Scope) (ts : List Ty) → length (each_size c ts) ≡ length ts
each_length c [] = refl
each_length c (t ∷ ts) = ap suc (each_length c ts)

heads : (m n : ℕ) (ms ns : List ℕ) → m ∷ ms ≡ n ∷ ns → m ≡ n
heads m n ms ns e = cc

tails : (m n : ℕ) (ms ns : List ℕ) → m ∷ ms ≡ n ∷ ns → ms ≡ ns
tails m n ms ns e = cc

module _ (book : Book) (c d : Scope) where
  pub spelled_there : (ts us : List Ty) (vs : List Val) (ws : List ℕ) → each_size c ts ≡ each_size d us → AreSpelled book c ts vs ws → AreSpelled book d us vs ws
  spelled_there [] [] [] ws e h = h
  spelled_there [] [] (v ∷ vs) ws e h = absurd h
  spelled_there [] (u ∷ us) vs ws e h = absurd (cc)
  spelled_there (t ∷ ts) [] vs ws e h = absurd (cc)
  spelled_there (t ∷ ts) (u ∷ us) [] ws e h = absurd h
  spelled_there (t ∷ ts) (u ∷ us) (v ∷ vs) ws e h =
      let same = heads (size_under c t) (size_under d u) (each_size c ts) (each_size d us) e in
      let others = tails (size_under c t) (size_under d u) (each_size c ts) (each_size d us) e in
      (h.0, h.1, h.2, record { spelled = h.3.spelled; sized = h.3.sized ∙ same }, spelled_there ts us vs h.0 others h.4)

  pub locals_there : (locals places : List ℕ) (ts us : List Ty) (vs : List Val) → each_size c ts ≡ each_size d us → LocalsHold book c locals places ts vs → LocalsHold book d locals places us vs
  locals_there locals [] [] [] [] e h = tt
  locals_there locals [] [] [] (v ∷ vs) e h = absurd h
  locals_there locals (at ∷ places) [] [] [] e h = absurd h
  locals_there locals (at ∷ places) [] [] (v ∷ vs) e h = absurd h
  locals_there locals places [] (u ∷ us) vs e h = absurd (cc)
  locals_there locals places (t ∷ ts) [] vs e h = absurd (cc)
  locals_there locals [] (t ∷ ts) (u ∷ us) [] e h = absurd h
  locals_there locals [] (t ∷ ts) (u ∷ us) (v ∷ vs) e h = absurd h
  locals_there locals (at ∷ places) (t ∷ ts) (u ∷ us) [] e h = absurd h
  locals_there locals (at ∷ places) (t ∷ ts) (u ∷ us) (v ∷ vs) e h =
      let same = heads (size_under c t) (size_under d u) (each_size c ts) (each_size d us) e in
      let others = tails (size_under c t) (size_under d u) (each_size c ts) (each_size d us) e in
      (h.0, record { spelled = h.1.spelled; sized = h.1.sized ∙ same }, h.2, locals_there locals places ts us vs others h.3)

module _ (book : Book) (c : Scope) where
  pub spelled_joined : (ts us : List Ty) (vs xs : List Val) (ws ys : List ℕ) → AreSpelled book c ts vs ws → AreSpelled book c us xs ys → AreSpelled book c (ts ++ us) (vs ++ xs) (ys ++ ws)
  spelled_joined [] us [] xs ws ys h g = subst (λ (l : List ℕ). AreSpelled book c us xs l) (sym (append-nil ys) ∙ ap (λ (l : List ℕ). ys ++ l) (sym h)) g
  spelled_joined [] us (v ∷ vs) xs ws ys h g = absurd h
  spelled_joined (t ∷ ts) us [] xs ws ys h g = absurd h
  spelled_joined (t ∷ ts) us (v ∷ vs) xs ws ys h g = (ys ++ h.0, h.1, ap (λ (l : List ℕ). ys ++ l) h.2 ∙ sym (append_assoc ys h.0 h.1), h.3, spelled_joined ts us vs xs h.0 ys h.4 g)

  pub spelled_length : (ts : List Ty) (vs : List Val) (ws : List ℕ) → AreSpelled book c ts vs ws → length vs ≡ length ts
  spelled_length [] [] ws h = refl
  spelled_length [] (v ∷ vs) ws h = absurd h
  spelled_length (t ∷ ts) [] ws h = absurd h
  spelled_length (t ∷ ts) (v ∷ vs) ws h = ap suc (spelled_length ts vs h.0 h.4)
