-- Where live payloads and grants lie.
use Rattle.std.proofs.Common.{◌≡◌, ℕ, zero, suc, ◌+◌, ◌-◌, ◌*◌, ◌<◌, ◌≤◌, inl, inr, ⊎_elim, List, [], ◌∷◌, Option, Some, None, slice_get, subst, arith}
use Rattle.std.proofs.lemmas.Bool.{cases_lt}
use Rattle.wasm_execution.specs.Configurations.{Store}
use Rattle.heap_blocks.specs.Blocks.{Block, Headed, covers, covering, is_tiled_word}
use Rattle.heap_blocks.proofs.Lists.{covers_in, covers_most, covers_left, covers_right}
use Rattle.allocator_contract.specs.Heaps.{linear_words}
use Rattle.heap_events.specs.Events.{HeapEvent}
use Rattle.heap_events.specs.Heaps.{Extent, blocks_of, grants_of, IsLive, end_of, AreApart}
use Rattle.heap_histories.specs.Histories.{LieAt, Follow, IsHeapAfter}
use Rattle.heap_histories.specs.Laws.{LiveLieWithin, LiveAreApart, GrantsLieWithin, GrantsAreApart}

-- the block of a payload, which is one of these
pub record Found (x : Extent) (bs : List Block) : Type 0 where
  pub header : ℕ
  pub size : ℕ
  pub address : x.address ≡ 8 * suc header
  pub words : x.words ≤ size
  pub among : (w : ℕ) → covers w header size ≤ covering w bs

found_behind : (x : Extent) (j n : ℕ) (bs : List Block) → Found x bs → Found x (Headed j n ∷ bs)
found_behind x j n bs f = record { header = f.header; size = f.size; address = f.address; words = f.words; among = λ w. omega (arith, f.among w) }

pub found : (xs : List (Option Extent)) (bs : List Block) (i : ℕ) (x : Extent) → LieAt xs bs → slice_get xs i ≡ Some (Some x) → Found x bs
found [] bs i x h e = absurd cc
found (None ∷ xs) bs zero x h e = absurd cc
found (None ∷ xs) bs (suc i) x h e = found xs bs i x h e
found (Some y ∷ xs) [] i x h e = absurd h
found (Some y ∷ xs) (Headed j n ∷ bs) zero x h e =
    let q : y ≡ x = cc in
    subst (λ (z : Extent). Found z (Headed j n ∷ bs)) q (record { header = j; size = n; address = h.0; words = h.1; among = λ w. omega arith })
found (Some y ∷ xs) (Headed j n ∷ bs) (suc i) x h e = found_behind x j n bs (found xs bs i x h.2 e)

-- blocks that have no word in common
pub apart_blocks : (x y : Extent) (j n k m : ℕ) → x.address ≡ 8 * suc j → x.words ≤ n → y.address ≡ 8 * suc k → y.words ≤ m
    → ((w : ℕ) → covers w j n + covers w k m ≤ 1) → AreApart x y
apart_blocks x y j n k m a b c d once =
    ⊎_elim
    (λ (lt : j < k). ⊎_elim
    (λ (l : j + n < k). inl (omega (arith, a, b, c, l)))
    (λ (g : k ≤ j + n).
    let one = covers_in k j n (omega (arith, lt)) g in
    let two = covers_in k k m (omega arith) (omega arith) in
    absurd (omega (arith, one, two, once k)))
    (cases_lt (j + n) k))
    (λ (ge : k ≤ j). ⊎_elim
    (λ (l : k + m < j). inr (omega (arith, a, c, d, l)))
    (λ (g : j ≤ k + m).
    let one = covers_in j k m ge g in
    let two = covers_in j j n (omega arith) (omega arith) in
    absurd (omega (arith, one, two, once j)))
    (cases_lt (k + m) j))
    (cases_lt j k)

pub apart_at : (xs : List (Option Extent)) (bs : List Block) (i j : ℕ) (x y : Extent) → ((w : ℕ) → covering w bs ≤ 1) → LieAt xs bs → i < j
    → slice_get xs i ≡ Some (Some x) → slice_get xs j ≡ Some (Some y) → AreApart x y
apart_at [] bs i j x y once h lt e f = absurd cc
apart_at xs bs i zero x y once h lt e f = absurd (omega (arith, lt))
apart_at (None ∷ xs) bs zero (suc j) x y once h lt e f = absurd cc
apart_at (None ∷ xs) bs (suc i) (suc j) x y once h lt e f = apart_at xs bs i j x y once h (omega (arith, lt)) e f
apart_at (Some z ∷ xs) [] i (suc j) x y once h lt e f = absurd h
apart_at (Some z ∷ xs) (Headed k n ∷ bs) zero (suc j) x y once h lt e f =
    let q : z ≡ x = cc in
    let g = found xs bs j y h.2 f in
    subst (λ (u : Extent). AreApart u y) q (apart_blocks z y k n g.header g.size h.0 h.1 g.address g.words (λ w. omega (arith, once w, g.among w)))
apart_at (Some z ∷ xs) (Headed k n ∷ bs) (suc i) (suc j) x y once h lt e f = apart_at xs bs i j x y (λ w. omega (arith, once w)) h.2 (omega (arith, lt)) e f

module _ (linear unrestricted : ℕ) (es : List HeapEvent) (s : Store) (h : IsHeapAfter linear unrestricted es s) where
  pub live_once : (w : ℕ) → covering w h.live ≤ 1
  live_once w =
      let t = h.heap.tiled.once w in
      let most = covers_most w 2 (linear_words linear - 3) in
      omega (arith, t, most)

  pub live_tiled : (w : ℕ) → covering w h.live ≤ is_tiled_word (linear_words linear) w
  live_tiled w = omega (arith, h.heap.tiled.once w)

  pub live_found : (x : Extent) → IsLive es x → Found x h.live
  live_found x (i, e) = found (blocks_of es) h.live i x h.blocks e

pub live_lie_within : LiveLieWithin
live_lie_within linear unrestricted es s x h l =
    let f = live_found linear unrestricted es s h x l in
    let j = f.header in
    let n = f.size in
    let first = covers_in j j n (omega arith) (omega arith) in
    let last = covers_in (j + n) j n (omega arith) (omega arith) in
    let low = covers_left j 2 (linear_words linear - 3) (omega (arith, first, f.among j, live_tiled linear unrestricted es s h j)) in
    let high = covers_right (j + n) 2 (linear_words linear - 3) (omega (arith, last, f.among (j + n), live_tiled linear unrestricted es s h (j + n))) in
    (omega (arith, f.address, low), omega (arith, f.address, f.words, high, h.heap.some))

pub live_are_apart : LiveAreApart
live_are_apart linear unrestricted es s i j x y h lt e f = apart_at (blocks_of es) h.live i j x y (live_once linear unrestricted es s h) h.blocks lt e f

-- what follows an address ends no earlier
follow_on : (from to : ℕ) (xs : List Extent) → Follow from xs to → from ≤ to
follow_on from to [] h = omega (arith, h)
follow_on from to (x ∷ xs) h = let more = follow_on (end_of x) to xs h.1 in omega (arith, h.0, more)

pub follow_at : (from to : ℕ) (xs : List Extent) (i : ℕ) (x : Extent) → Follow from xs to → slice_get xs i ≡ Some x → (from ≤ x.address) × (end_of x ≤ to)
follow_at from to [] i x h e = absurd cc
follow_at from to (y ∷ xs) zero x h e =
    let q : y ≡ x = cc in
    let more = follow_on (end_of y) to xs h.1 in
    subst (λ (z : Extent). (from ≤ z.address) × (end_of z ≤ to)) q (omega (arith, h.0), more)
follow_at from to (y ∷ xs) (suc i) x h e =
    let r = follow_at (end_of y) to xs i x h.1 e in
    (omega (arith, h.0, r.0), r.1)

pub follow_apart : (from to : ℕ) (xs : List Extent) (i j : ℕ) (x y : Extent) → Follow from xs to → i < j → slice_get xs i ≡ Some x → slice_get xs j ≡ Some y → AreApart x y
follow_apart from to [] i j x y h lt e f = absurd cc
follow_apart from to (z ∷ xs) i zero x y h lt e f = absurd (omega (arith, lt))
follow_apart from to (z ∷ xs) zero (suc j) x y h lt e f =
    let q : z ≡ x = cc in
    let r = follow_at (end_of z) to xs j y h.1 f in
    subst (λ (u : Extent). AreApart u y) q (inl r.0)
follow_apart from to (z ∷ xs) (suc i) (suc j) x y h lt e f = follow_apart (end_of z) to xs i j x y h.1 (omega (arith, lt)) e f

pub grants_lie_within : GrantsLieWithin
grants_lie_within linear unrestricted es s x h (i, e) =
    let r = follow_at (65536 * linear) h.next (grants_of es) i x h.grants e in
    (r.0, r.1, omega (arith, h.heap.within, h.heap.long))

pub grants_are_apart : GrantsAreApart
grants_are_apart linear unrestricted es s i j x y h lt e f = follow_apart (65536 * linear) h.next (grants_of es) i j x y h.grants lt e f
