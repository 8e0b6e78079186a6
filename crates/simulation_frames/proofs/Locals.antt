-- The words of locals: one that is found, one that is set, and all that are kept.
use Rattle.std.proofs.Common.{◌≡◌, ◌∙◌, ◌≤◌, ℕ, zero, suc, ◌+◌, List, [], ◌∷◌, Some, length, refl, ap, sym, subst, arith}
use Rattle.std.specs.Prelude.{slice_get, slice_set, sum}
use Rattle.std.proofs.lemmas.List.Sums.{sum_by-cons}
use Rattle.rw_types.specs.declared.types.Ty.{Ty}
use Rattle.rich_types.specs.Scopes.{Scope}
use Rattle.rich_reduction.specs.Configurations.{Val}
use Rattle.layout.specs.Cells.{offsets_from}
use Rattle.rich_rules.specs.Points.{Frame}
use Rattle.lowering_rows.specs.Surroundings.{Surroundings, local_place, place_in}
use Rattle.lowering_heights.proofs.Parts.{lie_apart}
use Rattle.lowering_locals.specs.Fitting.{AreFitting}
use Rattle.lowering_names.specs.Placed.{StandsIn}
use Rattle.lowering_runs.specs.Laws.{written}
use Rattle.simulation_relation.specs.Words.{Book, Holds, IsSpelled, LocalsHold}
use Rattle.simulation_frames.specs.Laws.{AreKept}
use Rattle.simulation_frames.proofs.Words.{kept_above, kept_below, kept_held, written_held}

-- a local that is there: its value, its place and its words
pub record HasLocal (book : Book) (c : Scope) (locals places : List ℕ) (vs : List Val) (n : ℕ) (t : Ty) : Type 0 where
  pub value : Val
  pub found : slice_get vs n ≡ Some value
  pub place : ℕ
  pub placed : slice_get places n ≡ Some place
  pub words : List ℕ
  pub spelled : IsSpelled book c t value words
  pub held : Holds locals place words

same_type : (t u : Ty) → Some t ≡ Some u → t ≡ u
same_type t u e = cc

pub local_found : (book : Book) (c : Scope) (locals places : List ℕ) (ts : List Ty) (vs : List Val) (n : ℕ) (t : Ty) → LocalsHold book c locals places ts vs → slice_get ts n ≡ Some t → HasLocal book c locals places vs n t
local_found book c locals [] [] [] n t h e = cc
local_found book c locals [] [] (v ∷ vs) n t h e = absurd h
local_found book c locals [] (u ∷ ts) [] n t h e = absurd h
local_found book c locals [] (u ∷ ts) (v ∷ vs) n t h e = absurd h
local_found book c locals (at ∷ places) [] [] n t h e = absurd h
local_found book c locals (at ∷ places) [] (v ∷ vs) n t h e = absurd h
local_found book c locals (at ∷ places) (u ∷ ts) [] n t h e = absurd h
local_found book c locals (at ∷ places) (u ∷ ts) (v ∷ vs) zero t h e =
    record { value = v; found = refl; place = at; placed = refl; words = h.0; spelled = subst (λ (x : Ty). IsSpelled book c x v h.0) (same_type u t e) h.1; held = h.2 }
local_found book c locals (at ∷ places) (u ∷ ts) (v ∷ vs) (suc n) t h e =
    let x = local_found book c locals places ts vs n t h.3 e in
    record { value = x.value; found = x.found; place = x.place; placed = x.placed; words = x.words; spelled = x.spelled; held = x.held }

sum-cons : (s : ℕ) (ss : List ℕ) → sum (s ∷ ss) ≡ s + sum ss
sum-cons s ss = sum_by-cons (λ x. x) s ss

not_before : (at : ℕ) (sizes : List ℕ) (j n : ℕ) → slice_get (offsets_from at sizes) j ≡ Some n → at ≤ n
not_before at [] j n e = cc
not_before at (s ∷ ss) zero n e = let same : at ≡ n = cc in omega (arith, same)
not_before at (s ∷ ss) (suc j) n e = omega (arith, not_before (at + s) ss j n e)

-- the slot of a local
slot_found : {A : Type 0} (ts : List A) (slots : List ℕ) (n : ℕ) (t : A) → length ts ≡ length slots → slice_get ts n ≡ Some t → (k : ℕ) × (slice_get slots n ≡ Some k)
slot_found [] slots n t l e = cc
slot_found (u ∷ ts) [] n t l e = absurd (omega (arith, l))
slot_found (u ∷ ts) (k ∷ slots) zero t l e = (k, refl)
slot_found (u ∷ ts) (k ∷ slots) (suc n) t l e = slot_found ts slots n t (omega (arith, l)) e

-- a local's place and its slot, which ends where the operands begin or before
pub record HasSlot (s : Surroundings) (slots : List ℕ) (n place : ℕ) : Type 0 where
  pub size : ℕ
  pub found : slice_get slots n ≡ Some size
  pub placed : local_place s n ≡ place
  pub within : place + size ≤ s.places.operands

pub slot_of : (s : Surroundings) (f : Frame) (room : ℕ) (c : Scope) (locals : List Ty) (n : ℕ) (t : Ty) (place : ℕ) → StandsIn s f room → AreFitting c f.slots locals → slice_get locals n ≡ Some t → slice_get (offsets_from 0 f.slots) n ≡ Some place → HasSlot s f.slots n place
slot_of s f room c locals n t place stands fits e p =
    let k = slot_found locals f.slots n t fits.same_length e in
    record {
      size = k.0;
      found = k.1;
      placed = ap (λ (l : List ℕ). place_in (slice_get l n)) stands.locals ∙ ap place_in p;
      within = omega (arith, stands.operands, (lie_apart 0 f.slots n place k.0 p k.1).0);
    }

fit_behind : (c : Scope) (k : ℕ) (slots : List ℕ) (t : Ty) (ts : List Ty) → AreFitting c (k ∷ slots) (t ∷ ts) → AreFitting c slots ts
fit_behind c k slots t ts f = record { same_length = omega (arith, f.same_length); fit = λ n u m. f.fit (suc n) u m }

module _ (book : Book) (c : Scope) (before after : List ℕ) where
  -- the words of locals are kept where all words of their slots are
  pub locals_kept : (at : ℕ) (slots : List ℕ) (ts : List Ty) (vs : List Val) → AreFitting c slots ts → AreKept at (at + sum slots) before after → LocalsHold book c before (offsets_from at slots) ts vs → LocalsHold book c after (offsets_from at slots) ts vs
  locals_kept at [] [] [] f k h = tt
  locals_kept at [] [] (v ∷ vs) f k h = absurd h
  locals_kept at [] (t ∷ ts) [] f k h = absurd h
  locals_kept at [] (t ∷ ts) (v ∷ vs) f k h = absurd h
  locals_kept at (m ∷ slots) [] [] f k h = absurd h
  locals_kept at (m ∷ slots) [] (v ∷ vs) f k h = absurd h
  locals_kept at (m ∷ slots) (t ∷ ts) [] f k h = absurd h
  locals_kept at (m ∷ slots) (t ∷ ts) (v ∷ vs) f k h =
      let sized = h.1.sized in
      let fits = f.fit 0 t m refl refl in
      let all = sum-cons m slots in (
        h.0,
        h.1,
        kept_held before after at (at + sum (m ∷ slots)) k at h.0 (omega arith) (omega (arith, sized, fits, all)) h.2,
        locals_kept (at + m) slots ts vs (fit_behind c m slots t ts f) (λ n l u. k n (omega (arith, l)) (omega (arith, u, all))) h.3,
      )

module _ (book : Book) (c : Scope) (before : List ℕ) (t : Ty) (v : Val) (ws : List ℕ) (own : IsSpelled book c t v ws) (place k : ℕ) (small : length ws ≤ k) (room : place + length ws ≤ length before) where
  abbrev Set : ℕ → List ℕ → List Ty → List Val → ℕ → Type 0
  Set at slots ts vs n = LocalsHold book c (written place ws before) (offsets_from at slots) (slice_set ts n t) (slice_set vs n v)

  -- a local that is set, in its slot, to this value
  pub local_set : (at : ℕ) (slots : List ℕ) (ts : List Ty) (vs : List Val) (n : ℕ) → AreFitting c slots ts → slice_get slots n ≡ Some k → slice_get (offsets_from at slots) n ≡ Some place →
      LocalsHold book c before (offsets_from at slots) ts vs → Set at slots ts vs n
  local_set at [] [] [] n f s p h = tt
  local_set at [] [] (u ∷ vs) n f s p h = absurd h
  local_set at [] (t' ∷ ts) [] n f s p h = absurd h
  local_set at [] (t' ∷ ts) (u ∷ vs) n f s p h = absurd h
  local_set at (m ∷ slots) [] [] n f s p h = absurd h
  local_set at (m ∷ slots) [] (u ∷ vs) n f s p h = absurd h
  local_set at (m ∷ slots) (t' ∷ ts) [] n f s p h = absurd h
  local_set at (m ∷ slots) (t' ∷ ts) (u ∷ vs) zero f s p h =
      let slot : m ≡ k = cc in
      let here : at ≡ place = cc in (
        ws,
        own,
        subst (λ (x : ℕ). Holds (written place ws before) x ws) (sym here) (written_held place ws before room),
        locals_kept book c before (written place ws before) (at + m) slots ts vs (fit_behind c m slots t' ts f) (kept_above place ws before (at + m) (at + m + sum slots) (omega (arith, here, slot, small))) h.3,
      )
  local_set at (m ∷ slots) (t' ∷ ts) (u ∷ vs) (suc n) f s p h =
      let later = not_before (at + m) slots n place p in (
        h.0,
        h.1,
        kept_held before (written place ws before) at (at + m) (kept_below place ws before at (at + m) later) at h.0 (omega arith) (omega (arith, h.1.sized, f.fit 0 t' m refl refl)) h.2,
        local_set (at + m) slots ts vs n (fit_behind c m slots t' ts f) s p h.3,
      )
