-- Which linear locations are live, where a cell is written, made or opened.
use Rattle.std.proofs.Common.{◌≡◌, ◌≢◌, ℕ, ◌+◌, ◌⊎◌, inl, inr, [], ◌∷◌, ◌++◌, length, Option, Some, None, true, false, cond, refl, sym, ap, ◌∙◌, arith}
use Rattle.std.specs.Prelude.{slice_get, slice_set}
use Rattle.std.proofs.Math.Dec.{eqb}
use Rattle.std.proofs.lemmas.Bool.{eqb-true, eqb-false}
use Rattle.rw_types.specs.declared.types.Mem.{Mem}
use Rattle.rw_types.specs.declared.types.Mem.TheVariants.{L, U}
use Rattle.rich_reduction.specs.Configurations.{Cell, Stores}
use Rattle.rich_reduction.specs.Cells.{still_there, cell_in, put_in, opened_in}
use Rattle.rich_rights.specs.Rights.{is_linear, is_live}
use Rattle.rich_soundness_stores.proofs.Places.{get-set, get-set_other, get-more, get-more_other}
use Rattle.rich_soundness_frames.proofs.Still.{not_yet}
use Rattle.rich_soundness_references.proofs.There.{at_self}
use Rattle.rich_soundness_cells.specs.Laws.{LiveStays, LiveGrows, LiveEnds}

pub same_or : (a b : ℕ) → (a ≡ b) ⊎ (a ≢ b)
same_or a b = elim (eqb a b) as (λ t. eqb a b ≡ t → (a ≡ b) ⊎ (a ≢ b)) [ true ↦ λ e. inl (eqb-true a b e) | false ↦ λ e. inr (eqb-false a b e) ] refl

pub at_other : (n k : ℕ) → n ≢ k → is_linear n L k ≡ 0
at_other n k ne = elim (eqb k n) as (λ b. eqb k n ≡ b → (let y : ℕ = cond b 1 0 in y ≡ 0)) [ true ↦ λ e. absurd (ne (sym (eqb-true k n e))) | false ↦ λ e. refl ] refl

pub at_same : (n k : ℕ) → n ≡ k → is_linear n L k ≡ 1
at_same n k e = ap (λ (i : ℕ). is_linear i L k) e ∙ at_self k

pub place_of : (o : Option (Option Cell)) (cell : Cell) → still_there o ≡ Some cell → o ≡ Some (Some cell)
place_of None cell e = cc
place_of (Some o) cell e = ap (λ (p : Option Cell). Some p) e

stays_in : (s : Stores) (m : Mem) (k : ℕ) (old new : Cell) (n : ℕ) → cell_in m k s ≡ Some old → is_live (slice_get (put_in m k new s).linear n) ≡ is_live (slice_get s.linear n)
stays_in s U k old new n e = refl
stays_in s L k old new n e = let is = place_of (slice_get s.linear k) old e in
    elim (same_or n k) [
      | inl i ↦ ap (λ (j : ℕ). is_live (slice_get (slice_set s.linear k (Some new)) j)) i ∙ ap is_live (get-set s.linear k (Some old) (Some new) is) ∙ sym (ap (λ (j : ℕ). is_live (slice_get s.linear j)) i ∙ ap is_live is)
      | inr ne ↦ ap is_live (get-set_other s.linear k n (Some new) ne)
    ]

pub stays : LiveStays
stays s l old new n e = stays_in s l.mem l.number old new n e

pub grows : LiveGrows
grows s U cell n = omega arith
grows s L cell n = elim (same_or n (length s.linear)) [
  | inl i ↦ (let a : is_live (slice_get (s.linear ++ Some cell ∷ []) n) ≡ 1 = ap (λ (j : ℕ). is_live (slice_get (s.linear ++ Some cell ∷ []) j)) i ∙ ap is_live (get-more s.linear (Some cell)) in
      let b : is_live (slice_get s.linear n) ≡ 0 = ap (λ (j : ℕ). is_live (slice_get s.linear j)) i ∙ not_yet s.linear in
      omega (arith, a, b, at_same n (length s.linear) i))
  | inr ne ↦ (let a : is_live (slice_get (s.linear ++ Some cell ∷ []) n) ≡ is_live (slice_get s.linear n) = ap is_live (get-more_other s.linear n (Some cell) ne) in
      omega (arith, a, at_other n (length s.linear) ne))
]

ends_in : (s : Stores) (m : Mem) (k : ℕ) (cell : Cell) (n : ℕ) → cell_in m k s ≡ Some cell → is_live (slice_get (opened_in m k s).linear n) + is_linear n m k ≡ is_live (slice_get s.linear n)
ends_in s U k cell n e = omega arith
ends_in s L k cell n e = let is = place_of (slice_get s.linear k) cell e in
    elim (same_or n k) [
      | inl i ↦ (let a : is_live (slice_get (slice_set s.linear k None) n) ≡ 0 = ap (λ (j : ℕ). is_live (slice_get (slice_set s.linear k None) j)) i ∙ ap is_live (get-set s.linear k (Some cell) None is) in
          let b : is_live (slice_get s.linear n) ≡ 1 = ap (λ (j : ℕ). is_live (slice_get s.linear j)) i ∙ ap is_live is in
          omega (arith, a, b, at_same n k i))
      | inr ne ↦ (let a : is_live (slice_get (slice_set s.linear k None) n) ≡ is_live (slice_get s.linear n) = ap is_live (get-set_other s.linear k n None ne) in
          omega (arith, a, at_other n k ne))
    ]

pub ends : LiveEnds
ends s l cell n e = ends_in s l.mem l.number cell n e
