-- Cells that are made, changed and taken out.
use Rattle.std.proofs.Common.{◌≡◌, ℕ, ◌≢◌, ◌⊎◌, inl, inr, [], ◌∷◌, ◌++◌, length, Option, Some, Bool, true, false, cond, refl, sym, ap, ◌∙◌, subst, arith}
use Rattle.std.specs.Prelude.{slice_get, slice_set}
use Rattle.std.proofs.Math.Dec.{eqb}
use Rattle.std.proofs.lemmas.Bool.{eqb-true, eqb-false, eq-eqb}
use Rattle.std.proofs.lemmas.List.{length-append}
use Rattle.rw_types.specs.declared.types.Heap.{Heap}
use Rattle.rw_types.specs.declared.types.Mem.{Mem}
use Rattle.rw_types.specs.declared.types.Mem.TheVariants.{L, U}
use Rattle.rich_reduction.specs.Configurations.{Cell, Stores}
use Rattle.rich_rights.specs.Rights.{Reading, rights_to, is_linear}
use Rattle.rich_soundness_values.specs.Heaps.{Heaps, StandsIn}
use Rattle.rich_soundness_values.specs.Cells.{Holds, Stored}
use Rattle.rich_soundness_values.specs.Laws.{Keeps}
use Rattle.rich_soundness_values.proofs.Framed.{framed_content}
use Rattle.rich_soundness_stores.specs.Turns.{put_heap, turned, grown}
use Rattle.rich_soundness_stores.specs.Laws.{IsUnread, TurningKeeps, GrowingKeeps, LinearTurns, LinearGrows, UnrestrictedGrows, UnrestrictedTurns}
use Rattle.rich_soundness_stores.proofs.Places.{get-set, get-set_other, get-more, get-more_other, get-front, length_set, place_part, cell_part}

same_or : (a b : ℕ) → (a ≡ b) ⊎ (a ≢ b)
same_or a b = elim (eqb a b) as (λ t. eqb a b ≡ t → (a ≡ b) ⊎ (a ≢ b)) [ true ↦ λ e. inl (eqb-true a b e) | false ↦ λ e. inr (eqb-false a b e) ] refl

put-here : (f : ℕ → Heap) (n : ℕ) (h : Heap) → put_heap f n h n ≡ h
put-here f n h = ap (λ (b : Bool). cond b h (f n)) (eq-eqb n n refl)

put-other : (f : ℕ → Heap) (n m : ℕ) (h : Heap) → m ≢ n → put_heap f n h m ≡ f m
put-other f n m h ne = elim (eqb m n) as (λ b. eqb m n ≡ b → cond b h (f m) ≡ f m) [ true ↦ λ e. absurd (ne (eqb-true m n e)) | false ↦ λ e. refl ] refl

stays_turned : (hs : Heaps) (n : ℕ) (h k : Heap) (m : Mem) (i : ℕ) → is_linear n m i ≡ 0 → StandsIn hs m i k → StandsIn (turned n h hs) m i k
stays_turned hs n h k U i z s = s
stays_turned hs n h k L i z s = elim (eqb i n) as (λ b. (let y : ℕ = cond b 1 0 in y ≡ 0) → cond b h (hs.linear i) ≡ k) [ true ↦ λ y. absurd (omega (arith, y)) | false ↦ λ y. s ] z

pub turning_keeps : TurningKeeps
turning_keeps hs n h = record { stands = λ l k z s. stays_turned hs n h k l.mem l.number z s; functions = refl }

stays_grown : (hs : Heaps) (h k : Heap) (m : Mem) (i : ℕ) → StandsIn hs m i k → StandsIn (grown h hs) m i k
stays_grown hs h k L i s = s
stays_grown hs h k U i s = get-front hs.unrestricted (h ∷ []) i k s

pub growing_keeps : GrowingKeeps
growing_keeps hs n h = record { stands = λ l k z s. stays_grown hs h k l.mem l.number s; functions = refl }

-- a cell of either store keeps what it holds
module _ {hs hs' : Heaps} {s : Stores} (st : Stored hs s) (n : ℕ) (keeps : Keeps n hs hs') (unread : IsUnread n s) where
  kept_linear : (m : ℕ) (cell : Cell) → slice_get s.linear m ≡ Some (Some cell) → Holds hs' L (hs.linear m) cell.content
  kept_linear m cell e = framed_content n keeps (st.linear m cell e) (omega (arith, place_part (rights_to Reading n) s.linear m (Some cell) e, unread))

  kept_unrestricted : (m : ℕ) (h : Heap) → slice_get hs.unrestricted m ≡ Some h → (cell : Cell) × (slice_get s.unrestricted m ≡ Some cell) × Holds hs' U h cell.content
  kept_unrestricted m h e =
      let r = st.unrestricted m h e in
      (r.0, r.1, framed_content n keeps r.2 (omega (arith, cell_part (rights_to Reading n) s.unrestricted m r.0 r.1, unread)))

some_same : (A : Type 0) (x y : A) → Some x ≡ Some y → x ≡ y
some_same A x y e = cc

pub linear_turns : LinearTurns
linear_turns hs s n h old new st unread at holds =
    let hs' : Heaps = turned n h hs in
    record {
      linear = λ m cell e. elim (same_or m n) [
        | inl i ↦
            (let now : Some new ≡ Some (Some cell) = sym (get-set s.linear n old new at) ∙ sym (ap (λ (j : ℕ). slice_get (slice_set s.linear n new) j) i) ∙ e in
            subst (λ (k : Heap). Holds hs' L k cell.content) (sym (ap hs'.linear i ∙ put-here hs.linear n h)) (holds cell (some_same (Option Cell) new (Some cell) now)))
        | inr ne ↦
            (subst (λ (k : Heap). Holds hs' L k cell.content) (sym (put-other hs.linear n m h ne))
            (kept_linear st n (turning_keeps hs n h) unread m cell (sym (get-set_other s.linear n m new ne) ∙ e)))
      ];
      unrestricted = kept_unrestricted st n (turning_keeps hs n h) unread;
      same_length = st.same_length;
    }

pub linear_grows : LinearGrows
linear_grows hs s h new st unread holds =
    let n : ℕ = length s.linear in
    let hs' : Heaps = turned n h hs in
    record {
      linear = λ m cell e. elim (same_or m n) [
        | inl i ↦
            (let now : Some (Some new) ≡ Some (Some cell) = sym (get-more s.linear (Some new)) ∙ sym (ap (λ (j : ℕ). slice_get (s.linear ++ Some new ∷ []) j) i) ∙ e in
            let same : new ≡ cell = some_same Cell new cell (some_same (Option Cell) (Some new) (Some cell) now) in
            subst (λ (k : Heap). Holds hs' L k cell.content) (sym (ap hs'.linear i ∙ put-here hs.linear n h)) (subst (λ (x : Cell). Holds hs' L h x.content) same holds))
        | inr ne ↦
            (subst (λ (k : Heap). Holds hs' L k cell.content) (sym (put-other hs.linear n m h ne))
            (kept_linear st n (turning_keeps hs n h) unread m cell (sym (get-more_other s.linear m (Some new) ne) ∙ e)))
      ];
      unrestricted = kept_unrestricted st n (turning_keeps hs n h) unread;
      same_length = st.same_length;
    }

pub unrestricted_grows : UnrestrictedGrows
unrestricted_grows hs s n h new st unread holds =
    let hs' : Heaps = grown h hs in
    record {
      linear = kept_linear st n (growing_keeps hs n h) unread;
      unrestricted = λ m k e. elim (same_or m (length hs.unrestricted)) [
        | inl i ↦
            (let now : Some h ≡ Some k = sym (get-more hs.unrestricted h) ∙ sym (ap (λ (j : ℕ). slice_get (hs.unrestricted ++ h ∷ []) j) i) ∙ e in (
              new,
              ap (λ (j : ℕ). slice_get (s.unrestricted ++ new ∷ []) j) (i ∙ st.same_length) ∙ get-more s.unrestricted new,
              subst (λ (o : Heap). Holds hs' U o new.content) (some_same Heap h k now) holds,
            ))
        | inr ne ↦
            (let r = kept_unrestricted st n (growing_keeps hs n h) unread m k (sym (get-more_other hs.unrestricted m h ne) ∙ e) in
            (r.0, get-front s.unrestricted (new ∷ []) m r.0 r.1, r.2))
      ];
      same_length = omega (arith, length-append hs.unrestricted (h ∷ []), length-append s.unrestricted (new ∷ []), st.same_length);
    }

pub unrestricted_turns : UnrestrictedTurns
unrestricted_turns hs s n h old new st stands at holds = record {
  linear = st.linear;
  unrestricted = λ m k e. elim (same_or m n) [
    | inl i ↦
        (let now : Some h ≡ Some k = sym stands ∙ sym (ap (λ (j : ℕ). slice_get hs.unrestricted j) i) ∙ e in (
          new,
          ap (λ (j : ℕ). slice_get (slice_set s.unrestricted n new) j) i ∙ get-set s.unrestricted n old new at,
          subst (λ (o : Heap). Holds hs U o new.content) (some_same Heap h k now) holds,
        ))
    | inr ne ↦ (let r = st.unrestricted m k e in (r.0, get-set_other s.unrestricted n m new ne ∙ r.1, r.2))
  ];
  same_length = st.same_length ∙ sym (length_set s.unrestricted n new);
}
