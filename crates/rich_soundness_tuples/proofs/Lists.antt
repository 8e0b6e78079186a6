-- Typed values in lists: on top and beneath, joined, turned round, and as the parts of a tuple.
use Rattle.std.proofs.Common.{◌≡◌, ◌≤◌, ℕ, zero, suc, ◌+◌, List, [], ◌∷◌, ◌++◌, length, take, drop, reverse, refl, sym, ap, ◌∙◌, subst, arith}
use Rattle.std.proofs.lemmas.List.{reverse-append}
use Rattle.rw_types.specs.declared.types.Ty.{Ty}
use Rattle.machine_steps.specs.Steps.{Turn, with_top}
use Rattle.rich_types.specs.Instances.{Substitution}
use Rattle.rich_reduction.specs.Configurations.{Val, Vals}
use Rattle.rich_reduction.specs.Values.{parts_of, list_of}
use Rattle.rich_rights.specs.Rights.{Counter, count_all}
use Rattle.rich_soundness_values.specs.Heaps.{Heaps, all_at, at}
use Rattle.rich_soundness_values.specs.Values.{HaveTypes, no_types, more_types, HaveParts, no_parts, more_parts}

-- so many on top, with those beneath them
pub top : {V E A : Type 0} (n : ℕ) (vs : List V) (k : List V → List V → Turn E A) → n ≤ length vs → with_top n vs k ≡ k (take n vs) (drop n vs)
top zero vs k le = refl
top (suc n) [] k le = absurd (omega arith)
top (suc n) (v ∷ vs) k le = top n vs (λ taken beneath. k (v ∷ taken) beneath) (omega arith)

module _ {hs : Heaps} where
  pub have_length : {vs : List Val} {ts : List Ty} → HaveTypes hs vs ts → length vs ≡ length ts
  have_length no_types = refl
  have_length (more_types h hv) = ap suc (have_length hv)

  pub have_append : {vs us : List Val} {ts ss : List Ty} → HaveTypes hs vs ts → HaveTypes hs us ss → HaveTypes hs (vs ++ us) (ts ++ ss)
  have_append no_types k = k
  have_append (more_types h hv) k = more_types h (have_append hv k)

  pub parts_typed : {vs : List Val} {ts : List Ty} → HaveTypes hs vs ts → HaveParts hs (parts_of vs) ts
  parts_typed no_types = no_parts
  parts_typed (more_types h hv) = more_parts h (parts_typed hv)

  pub list_typed : {vs : Vals} {ts : List Ty} → HaveParts hs vs ts → HaveTypes hs (list_of vs) ts
  list_typed no_parts = no_types
  list_typed (more_parts h hv) = more_types h (list_typed hv)

  pub have_reverse : {vs : List Val} {ts : List Ty} → HaveTypes hs vs ts → HaveTypes hs (reverse vs) (reverse ts)
  have_reverse no_types = no_types
  have_reverse {vs = v ∷ vs} {ts = t ∷ ts} (more_types h hv) =
      subst (λ (xs : List Val). HaveTypes hs xs (reverse (t ∷ ts))) (sym (reverse-append (v ∷ []) vs))
      (subst (λ (xs : List Ty). HaveTypes hs (reverse vs ++ v ∷ []) xs) (sym (reverse-append (t ∷ []) ts)) (have_append (have_reverse hv) (more_types h no_types)))

  pub have_take : (n : ℕ) {vs : List Val} {ts : List Ty} → HaveTypes hs vs ts → HaveTypes hs (take n vs) (take n ts)
  have_take zero h = no_types
  have_take (suc n) no_types = no_types
  have_take (suc n) (more_types h hv) = more_types h (have_take n hv)

  pub have_drop : (n : ℕ) {vs : List Val} {ts : List Ty} → HaveTypes hs vs ts → HaveTypes hs (drop n vs) (drop n ts)
  have_drop zero h = h
  have_drop (suc n) no_types = no_types
  have_drop (suc n) (more_types h hv) = have_drop n hv

-- types under what stands for the binders around them
module _ (g : Substitution) where
  pub at_append : (ts us : List Ty) → all_at g (ts ++ us) ≡ all_at g ts ++ all_at g us
  at_append [] us = refl
  at_append (t ∷ ts) us = ap (λ (l : List Ty). at g t ∷ l) (at_append ts us)

  pub at_reverse : (ts : List Ty) → all_at g (reverse ts) ≡ reverse (all_at g ts)
  at_reverse [] = refl
  at_reverse (t ∷ ts) = ap (all_at g) (reverse-append (t ∷ []) ts) ∙ at_append (reverse ts) (t ∷ [])
      ∙ ap (λ (l : List Ty). l ++ all_at g (t ∷ [])) (at_reverse ts) ∙ sym (reverse-append (at g t ∷ []) (all_at g ts))

  pub at_take : (n : ℕ) (ts : List Ty) → all_at g (take n ts) ≡ take n (all_at g ts)
  at_take zero ts = refl
  at_take (suc n) [] = refl
  at_take (suc n) (t ∷ ts) = ap (λ (l : List Ty). at g t ∷ l) (at_take n ts)

  pub at_drop : (n : ℕ) (ts : List Ty) → all_at g (drop n ts) ≡ drop n (all_at g ts)
  at_drop zero ts = refl
  at_drop (suc n) [] = refl
  at_drop (suc n) (t ∷ ts) = at_drop n ts

-- counts on top and beneath
pub count_split : (c : Counter) (n : ℕ) (vs : List Val) → count_all c (take n vs) + count_all c (drop n vs) ≡ count_all c vs
count_split c zero vs = omega arith
count_split c (suc n) [] = refl
count_split c (suc n) (v ∷ vs) = omega (arith, count_split c n vs)
