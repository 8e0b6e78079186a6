-- Cells that are written, made and opened, in each memory.
use Rattle.std.proofs.Common.{◌≡◌, ◌≤◌, ℕ, [], ◌∷◌, ◌++◌, length, Some, None, Bool, cond, refl, sym, ap, ◌∙◌, subst, arith}
use Rattle.std.specs.Prelude.{slice_get}
use Rattle.std.proofs.lemmas.Bool.{eq-eqb}
use Rattle.rw_types.specs.declared.types.Heap.{Heap}
use Rattle.rw_types.specs.declared.types.Mem.{Mem}
use Rattle.rw_types.specs.declared.types.Mem.TheVariants.{L, U}
use Rattle.rich_reduction.specs.Configurations.{Location, Content, Cell, Stores}
use Rattle.rich_reduction.specs.Cells.{cell_in, cell_at, put_in, opened_in}
use Rattle.rich_rights.specs.Rights.{Counter, Reading, rights_to, is_linear, count_content, count_stores}
use Rattle.rich_soundness_values.specs.Heaps.{Heaps, StandsIn}
use Rattle.rich_soundness_values.specs.Cells.{Holds, Stored}
use Rattle.rich_soundness_values.proofs.Framed.{framed_content}
use Rattle.rich_soundness_stores.specs.Turns.{put_heap, turned, grown}
use Rattle.rich_soundness_stores.specs.Laws.{IsUnread}
use Rattle.rich_soundness_stores.proofs.Places.{get-more, place_part, cell_part}
use Rattle.rich_soundness_stores.proofs.Stores.{turning_keeps, growing_keeps, linear_turns, linear_grows, unrestricted_grows, unrestricted_turns}
use Rattle.rich_soundness_cells.specs.Laws.{After, CellsAreWritten, CellsAreMade, CellsAreOpened}
use Rattle.rich_soundness_frames.proofs.Still.{nothing_turns, not_yet, live_most}
use Rattle.rich_soundness_references.proofs.There.{at_self}
use Rattle.rich_soundness_cells.proofs.Live.{place_of}

put-here : (f : ℕ → Heap) (n : ℕ) (h : Heap) → put_heap f n h n ≡ h
put-here f n h = ap (λ (b : Bool). cond b h (f n)) (eq-eqb n n refl)

-- the rights of a cell are among those of the stores
part_in : (s : Stores) (m : Mem) (n : ℕ) (cell : Cell) → cell_in m n s ≡ Some cell → (c : Counter) → count_content c cell.content ≤ count_stores c s
part_in s L n cell at c = omega (arith, place_part c s.linear n (Some cell) (place_of (slice_get s.linear n) cell at))
part_in s U n cell at c = omega (arith, cell_part c s.unrestricted n cell at)

pub part : (s : Stores) (l : Location) (cell : Cell) → cell_at l s ≡ Some cell → (c : Counter) → count_content c cell.content ≤ count_stores c s
part s l cell at c = part_in s l.mem l.number cell at c

written_in : (hs : Heaps) (s : Stores) (m : Mem) (k : ℕ) (h h' : Heap) (cell : Cell) (x : Content) → Stored hs s → StandsIn hs m k h → cell_in m k s ≡ Some cell → (m ≡ U → h' ≡ h) → Holds hs m h' x →
    ((n : ℕ) → is_linear n m k ≡ 1 → (count_content (rights_to Reading n) x ≡ 0) × IsUnread n s) →
    (a : After hs s (put_in m k (record cell { content = x }) s) (λ n. is_linear n m k)) × StandsIn a.heaps m k h'
written_in hs s L k h h' cell x st stands at same holds none =
    let z = none k (at_self k) in
    let new : Cell = record cell { content = x } in (
      record {
        heaps = turned k h' hs;
        number = k;
        keeps = turning_keeps hs k h';
        bound = omega (arith, at_self k, live_most (slice_get s.linear k));
        stored = linear_turns hs s k h' (Some cell) (Some new) st z.1 (place_of (slice_get s.linear k) cell at)
            (λ c e. subst (λ (o : Cell). Holds (turned k h' hs) L h' o.content) (let i : new ≡ c = cc in i) (framed_content k (turning_keeps hs k h') holds z.0));
      },
      put-here hs.linear k h',
    )
written_in hs s U k h h' cell x st stands at same holds none = (
  record {
    heaps = hs;
    number = length s.linear;
    keeps = nothing_turns (length s.linear) hs;
    bound = omega (arith, not_yet s.linear);
    stored = unrestricted_turns hs s k h cell (record cell { content = x }) st stands at (subst (λ (o : Heap). Holds hs U o x) (same refl) holds);
  },
  stands ∙ ap (λ (o : Heap). Some o) (sym (same refl)),
)

pub written : CellsAreWritten
written hs s l h h' cell x st stands at same holds none = written_in hs s l.mem l.number h h' cell x st stands at same holds none

pub made : CellsAreMade
made hs s L h cell st holds none =
    let n : ℕ = length s.linear in
    let z = none (length s.linear) (not_yet s.linear) in (
      record {
        heaps = turned n h hs;
        number = n;
        keeps = turning_keeps hs n h;
        bound = omega (arith, not_yet s.linear);
        stored = linear_grows hs s h cell st z.1 (framed_content n (turning_keeps hs n h) holds z.0);
      },
      put-here hs.linear n h,
    )
made hs s U h cell st holds none =
    let n : ℕ = length s.linear in
    let z = none (length s.linear) (not_yet s.linear) in (
      record {
        heaps = grown h hs;
        number = n;
        keeps = growing_keeps hs n h;
        bound = omega (arith, not_yet s.linear);
        stored = unrestricted_grows hs s n h cell st z.1 (framed_content n (growing_keeps hs n h) holds z.0);
      },
      ap (λ (j : ℕ). slice_get (hs.unrestricted ++ h ∷ []) j) (sym st.same_length) ∙ get-more hs.unrestricted h,
    )

opened_at : (hs : Heaps) (s : Stores) (m : Mem) (k : ℕ) (cell : Cell) → Stored hs s → cell_in m k s ≡ Some cell → ((n : ℕ) → is_linear n m k ≡ 1 → IsUnread n s) → After hs s (opened_in m k s) (λ n. is_linear n m k)
opened_at hs s L k cell st at none = record {
  heaps = turned k (hs.linear k) hs;
  number = k;
  keeps = turning_keeps hs k (hs.linear k);
  bound = omega (arith, at_self k, live_most (slice_get s.linear k));
  stored = linear_turns hs s k (hs.linear k) (Some cell) None st (none k (at_self k)) (place_of (slice_get s.linear k) cell at) (λ c e. cc);
}
opened_at hs s U k cell st at none = record {
  heaps = hs;
  number = length s.linear;
  keeps = nothing_turns (length s.linear) hs;
  bound = omega (arith, not_yet s.linear);
  stored = st;
}

pub opened : CellsAreOpened
opened hs s l cell st at none = opened_at hs s l.mem l.number cell st at none
