-- How a step changes memory, and that it keeps a heap.
use Rattle.std.proofs.Common.{◌≡◌, ◌∙◌, ℕ, ◌*◌, ◌≤◌, inl, inr, ⊎_elim, Bool, List, [], ◌∷◌, ◌++◌, length, length-append, slice_get, refl, ap, sym, subst, arith}
use Rattle.std.specs.Prelude.{if◌then◌else◌}
use Rattle.memory_words.specs.Memories.{zeros, write, word}
use Rattle.machine_steps.specs.Steps.{Went}
use Rattle.wasm_execution.specs.Configurations.{Store, Config, Touch}
use Rattle.wasm_execution.specs.Environments.{Environment}
use Rattle.wasm_execution.specs.Memories.{touches}
use Rattle.allocator_contract.specs.Heaps.{linear_words, IsHeap}
use Rattle.heap_blocks.specs.Blocks.{Block, IsTiled}
use Rattle.heap_events.specs.Events.{HeapEvent}
use Rattle.heap_histories.specs.Histories.{IsHeapAfter}
use Rattle.heap_stores.proofs.Storing.{stores_keep_heaps}
use Rattle.heap_steps.specs.Steps.{IsStored, IsGrown, LeavesMemory, StepsTellStores, StepsKeepHeaps}
use Rattle.heap_steps.proofs.Cases.{Cases, by_cases}

cases : (e : Environment) (c : Config) → Cases e c (LeavesMemory e c)
cases e c = record {
  none = tt;
  goes = λ here s. inl refl;
  trapped = λ t o. refl;
  stopped = refl;
  ended = λ v. refl;
  sets = λ here s n v. inl refl;
  loads = λ here there s t address count. inl refl;
  stores = λ here there s t address count v le. inr (inl (address, count, v, le, ap (λ (f : ℕ). touches e f address count) s.0, refl));
  misses = λ here s address count. refl;
  grows = λ here s n. inr (inr (n, refl));
  prints = λ here s n. inl refl;
  enters = λ waiting s n code vs. inl refl;
  gives = λ vs caller callers q. inl refl;
  goes_to_main = λ n code q r. inl refl;
}

pub steps_tell_stores : StepsTellStores
steps_tell_stores e c = by_cases e c (LeavesMemory e c) (cases e c)

-- a heap by its memory and its first two globals
same_heap : (linear unrestricted next : ℕ) (s s' : Store) (live free : List Block) → s'.memory ≡ s.memory → slice_get s'.globals 0 ≡ slice_get s.globals 0 → slice_get s'.globals 1 ≡ slice_get s.globals 1
    → IsHeap linear unrestricted next s live free → IsHeap linear unrestricted next s' live free
same_heap linear unrestricted next s s' live free m z f h = record {
  some = h.some;
  most = h.most;
  long = ap (λ (bytes : List ℕ). length bytes) m ∙ h.long;
  tiled = subst (λ (bytes : List ℕ). IsTiled (linear_words linear) (word bytes) live free) (sym m) h.tiled;
  trap_code = h.trap_code;
  zeroth = z ∙ h.zeroth;
  first = f ∙ h.first;
  behind = h.behind;
  within = subst (λ (bytes : List ℕ). next ≤ length bytes) (sym m) h.within;
  next_word = h.next_word;
  aligned = h.aligned;
}

same_heap_after : (linear unrestricted : ℕ) (es : List HeapEvent) (s s' : Store) → s'.memory ≡ s.memory → slice_get s'.globals 0 ≡ slice_get s.globals 0 → slice_get s'.globals 1 ≡ slice_get s.globals 1
    → IsHeapAfter linear unrestricted es s → IsHeapAfter linear unrestricted es s'
same_heap_after linear unrestricted es s s' m z f h =
    record { live = h.live; free = h.free; next = h.next; heap = same_heap linear unrestricted h.next s s' h.live h.free m z f h.heap; blocks = h.blocks; grants = h.grants }

no_growth : (bytes : List ℕ) (n : ℕ) → length (bytes ++ zeros (65536 * n)) ≡ length bytes → bytes ++ zeros (65536 * n) ≡ bytes
no_growth bytes n q =
    let more = length-append bytes (zeros (65536 * n)) in
    let none : length (zeros (65536 * n)) ≡ 0 = omega (arith, q, more) in
    behind bytes (zeros (65536 * n)) none
  where
    behind : (xs ys : List ℕ) → length ys ≡ 0 → xs ++ ys ≡ xs
    behind [] [] q = refl
    behind [] (y ∷ ys) q = absurd (omega (arith, q))
    behind (x ∷ xs) ys q = ap (λ (zs : List ℕ). x ∷ zs) (behind xs ys q)

pub steps_keep_heaps : StepsKeepHeaps
steps_keep_heaps e c d said linear unrestricted es q outside inside same z f h =
    let t : LeavesMemory e c (Went said d) = subst (LeavesMemory e c) q (steps_tell_stores e c) in
    ⊎_elim (λ m. same_heap_after linear unrestricted es c.store d.store m z f h)
    (⊎_elim
    (λ (w : IsStored e c said d.store.memory).
    let told : said ≡ Touch w.0 w.1 ∷ [] = w.4 ∙ ap (λ (b : Bool). if b then [] else Touch w.0 w.1 ∷ []) outside in
    let stored = stores_keep_heaps linear unrestricted w.0 w.1 w.2 es c.store h (inside w.0 w.1 told) in
    same_heap_after linear unrestricted es (record c.store { memory = write w.1 c.store.memory w.0 w.2 }) d.store w.5 z f stored)
    (λ (g : IsGrown c d.store.memory).
    let still : length (c.store.memory ++ zeros (65536 * g.0)) ≡ length c.store.memory = ap (λ (bytes : List ℕ). length bytes) (sym g.1) ∙ same in
    same_heap_after linear unrestricted es c.store d.store (g.1 ∙ no_growth c.store.memory g.0 still) z f h))
    t
