-- Stores inside a live payload or a grant.
use Rattle.std.proofs.Common.{◌≡◌, ◌∙◌, ℕ, zero, suc, ◌+◌, ◌-◌, ◌*◌, ◌<◌, ◌≤◌, ◌⊎◌, inl, inr, ⊎_elim, List, [], ◌∷◌, ◌++◌, Option, Some, None, slice_get, length, refl, ap, sym, subst, arith}
use Rattle.std.proofs.lemmas.Bool.{cases_lt}
use Rattle.memory_words.specs.Memories.{write, word}
use Rattle.memory_words.proofs.Words.{length-write, read-other}
use Rattle.wasm_execution.specs.Configurations.{Store}
use Rattle.heap_blocks.specs.Blocks.{Block, Headed, covers, covering, HaveHeaders, AreChained, IsTiled}
use Rattle.heap_blocks.proofs.Lists.{covers_in, covers_most, covers_right, covering_append, Agree, headers_front, headers_back, headers_both, headers_kept, chain_kept}
use Rattle.allocator_contract.specs.Heaps.{linear_words}
use Rattle.heap_events.specs.Events.{HeapEvent}
use Rattle.heap_events.specs.Heaps.{Extent, blocks_of, IsLive, IsGranted, end_of, LiesIn}
use Rattle.heap_histories.specs.Histories.{LieAt, IsHeapAfter}
use Rattle.heap_histories.proofs.Extents.{live_lie_within, grants_lie_within}
use Rattle.heap_stores.specs.Laws.{stored, StoresKeepHeaps, StoresStayInside}

-- where the block of a payload stands among these
record Place (x : Extent) (bs : List Block) : Type 0 where
  before : List Block
  header : ℕ
  size : ℕ
  behind : List Block
  is : bs ≡ before ++ (Headed header size ∷ behind)
  address : x.address ≡ 8 * suc header
  words : x.words ≤ size

place : (xs : List (Option Extent)) (bs : List Block) (i : ℕ) (x : Extent) → LieAt xs bs → slice_get xs i ≡ Some (Some x) → Place x bs
place [] bs i x h e = absurd cc
place (None ∷ xs) bs zero x h e = absurd cc
place (None ∷ xs) bs (suc i) x h e = place xs bs i x h e
place (Some y ∷ xs) [] i x h e = absurd h
place (Some y ∷ xs) (Headed j n ∷ bs) zero x h e =
    let q : y ≡ x = cc in
    subst (λ (z : Extent). Place z (Headed j n ∷ bs)) q (record { before = []; header = j; size = n; behind = bs; is = refl; address = h.0; words = h.1 })
place (Some y ∷ xs) (Headed j n ∷ bs) (suc i) x h e =
    let p = place xs bs i x h.2 e in
    record { before = Headed j n ∷ p.before; header = p.header; size = p.size; behind = p.behind; is = ap (λ (cs : List Block). Headed j n ∷ cs) p.is; address = p.address; words = p.words }

-- words apart from the bytes that are stored stay
away : (m : List ℕ) (address count v i : ℕ) → address + count ≤ length m → (8 * i + 8 ≤ address) ⊎ (address + count ≤ 8 * i) → word (write count m address v) i ≡ word m i
unfolding word
away m address count v i le apart = read-other count m address v 8 (8 * i) le apart

tiled_kept : (words : ℕ) (r r' : ℕ → ℕ) (live free : List Block) → IsTiled words r live free → r' 1 ≡ r 1 → Agree r r' free → HaveHeaders r' live → IsTiled words r' live free
tiled_kept words r r' live free t one same headers = record {
  chained = subst (λ (a : ℕ). AreChained r' a free) (sym one) (chain_kept free r r' (r 1) t.free_payloads same t.chained);
  headers = headers;
  live_payloads = t.live_payloads;
  free_payloads = t.free_payloads;
  once = t.once;
  whole = t.whole;
}

module _ (linear unrestricted address count v : ℕ) (es : List HeapEvent) (s : Store) (x : Extent) (h : IsHeapAfter linear unrestricted es s) (lies : LiesIn address count x) where
  abbrev words : ℕ
  words = linear_words linear

  abbrev r : ℕ → ℕ
  r i = word s.memory i

  abbrev r' : ℕ → ℕ
  r' i = word (write count s.memory address v) i

  inside : IsLive es x ⊎ IsGranted es x → address + count ≤ length s.memory
  inside given =
      ⊎_elim
      (λ l. let w = live_lie_within linear unrestricted es s x h l in omega (arith, lies.to, w.1, h.heap.long))
      (λ g. let w = grants_lie_within linear unrestricted es s x h g in omega (arith, lies.to, w.1, h.heap.within))
      given

  stays : IsLive es x ⊎ IsGranted es x → (i : ℕ) → (8 * i + 8 ≤ x.address) ⊎ (end_of x ≤ 8 * i) → r' i ≡ r i
  stays given i apart =
      away s.memory address count v i (inside given)
      (⊎_elim (λ (le : 8 * i + 8 ≤ x.address). inl (omega (arith, le, lies.from))) (λ (le : end_of x ≤ 8 * i). inr (omega (arith, le, lies.to))) apart)

  tiled_live : (l : IsLive es x) → Place x h.live → IsTiled words r' h.live h.free
  tiled_live l p =
      let t = h.heap.tiled in
      let j = p.header in
      let n = p.size in
      let within = live_lie_within linear unrestricted es s x h l in
      let low : (i : ℕ) → i ≤ j → r' i ≡ r i = λ i le. stays (inl l) i (inl (omega (arith, le, p.address))) in
      let high : (i : ℕ) → j + n < i → r' i ≡ r i = λ i lt. stays (inl l) i (inr (omega (arith, lt, p.address, p.words))) in
      let out : (i : ℕ) → covers i j n ≡ 0 → r' i ≡ r i = λ i z.
      ⊎_elim (λ (lt : i < j). low i (omega (arith, lt)))
      (λ (ge : j ≤ i). ⊎_elim (λ (lt : j + n < i). high i lt) (λ (le : i ≤ j + n). let one = covers_in i j n ge le in absurd (omega (arith, one, z))) (cases_lt (j + n) i)) (cases_lt i j) in
      let counts : (i : ℕ) → covering i h.live ≡ covering i p.before + (covers i j n + covering i p.behind) = λ i.
      ap (λ (bs : List Block). covering i bs) p.is ∙ covering_append i p.before (Headed j n ∷ p.behind) in
      let once : (i : ℕ) → covering i h.live + covering i h.free ≤ 1 = λ i. let most = covers_most i 2 (words - 3) in omega (arith, t.once i, most) in
      let all : HaveHeaders r (p.before ++ (Headed j n ∷ p.behind)) = subst (λ (bs : List Block). HaveHeaders r bs) p.is t.headers in
      let back = headers_back r p.before (Headed j n ∷ p.behind) all in
      let front = headers_kept p.before r r' (λ i c. out i (omega (arith, c, once i, counts i))) (headers_front r p.before (Headed j n ∷ p.behind) all) in
      let behind = headers_kept p.behind r r' (λ i c. out i (omega (arith, c, once i, counts i))) back.1 in
      let headers = headers_both r' p.before (Headed j n ∷ p.behind) front (low j (omega arith) ∙ back.0, behind) in
      tiled_kept words r r' h.live h.free t (low 1 (omega (arith, p.address, within.0))) (λ i c. out i (omega (arith, c, once i, counts i)))
      (subst (λ (bs : List Block). HaveHeaders r' bs) (sym p.is) headers)

  tiled_granted : IsGranted es x → IsTiled words r' h.live h.free
  tiled_granted g =
      let t = h.heap.tiled in
      let within = grants_lie_within linear unrestricted es s x h g in
      let low : (i : ℕ) → i < words → r' i ≡ r i = λ i lt. stays (inr g) i (inl (omega (arith, lt, within.0))) in
      let part : (i : ℕ) → 1 ≤ covering i h.live + covering i h.free → i < words = λ i c.
      let right = covers_right i 2 (words - 3) (omega (arith, c, t.once i)) in omega (arith, right, h.heap.some) in
      tiled_kept words r r' h.live h.free t (low 1 (omega (arith, h.heap.some))) (λ i c. low i (part i (omega (arith, c))))
      (headers_kept h.live r r' (λ i c. low i (part i (omega (arith, c)))) t.headers)

  heap_with : IsLive es x ⊎ IsGranted es x → IsTiled words r' h.live h.free → IsHeapAfter linear unrestricted es (stored address count v s)
  heap_with given tiled =
      let long = length-write count s.memory address v (inside given) in
      record {
        live = h.live;
        free = h.free;
        next = h.next;
        heap = record {
          some = h.heap.some;
          most = h.heap.most;
          long = long ∙ h.heap.long;
          tiled = tiled;
          trap_code = h.heap.trap_code;
          zeroth = h.heap.zeroth;
          first = h.heap.first;
          behind = h.heap.behind;
          within = omega (arith, long, h.heap.within);
          next_word = h.heap.next_word;
          aligned = h.heap.aligned;
        };
        blocks = h.blocks;
        grants = h.grants;
      }

  keeps_heap : IsLive es x ⊎ IsGranted es x → IsHeapAfter linear unrestricted es (stored address count v s)
  keeps_heap given =
      heap_with given
      (⊎_elim (λ (l : IsLive es x). tiled_live l (place (blocks_of es) h.live l.0 x h.blocks l.1)) (λ (g : IsGranted es x). tiled_granted g) given)

pub stores_keep_heaps : StoresKeepHeaps
stores_keep_heaps linear unrestricted address count v es s h i = keeps_heap linear unrestricted address count v es s i.extent h i.lies i.given

pub stores_stay_inside : StoresStayInside
stores_stay_inside linear unrestricted address count v es s x h given lies = stays linear unrestricted address count v es s x h lies given
