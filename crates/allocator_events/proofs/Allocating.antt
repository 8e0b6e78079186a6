-- A call of function 1.
use Rattle.std.proofs.Common.{◌≡◌, ℕ, suc, ◌-◌, ◌*◌, ◌≤◌, ◌⊎◌, inl, inr, ⊎_elim, List, [], ◌∷◌, ◌++◌, Option, refl, ap, sym, subst, arith, length}
use Rattle.memory_words.specs.Memories.{word}
use Rattle.wasm_execution.specs.Configurations.{Store, Config}
use Rattle.wasm_execution.specs.Environments.{Environment}
use Rattle.heap_blocks.specs.Blocks.{Block, Headed, address_of, words_of, covering}
use Rattle.heap_blocks.specs.Allocation.{Taken, asked_of, IsFirstFit}
use Rattle.heap_blocks.proofs.Fits.{fit_is_first, none_is_small}
use Rattle.heap_blocks.proofs.Lists.{covers_most, headers_front}
use Rattle.allocator_contract.specs.Heaps.{linear_words}
use Rattle.allocator_contract.specs.Contract.{Caller, called, Gives, FindsNone}
use Rattle.heap_events.specs.Events.{HeapEvent, Alloc}
use Rattle.heap_events.specs.Heaps.{Extent, blocks_of, AreApart}
use Rattle.heap_histories.specs.Histories.{LieAt, Follow, IsHeapAfter}
use Rattle.heap_histories.proofs.Growing.{blocks_grow, grants_grow}
use Rattle.heap_histories.proofs.Extents.{Found, live_found, apart_blocks}
use Rattle.heap_histories.proofs.Starting.{free_list_is_read}
use Rattle.allocator_events.specs.Calls.{GivesBlock, EndsWithoutBlock}
use Rattle.allocator_events.specs.Laws.{AllocationsAreTold}
use Rattle.allocator_events.proofs.Walks.{within_as}
use Rattle.allocator_events.proofs.Lists.{lie_more}
use Rattle.allocator_events.proofs.Heaps.{heap_moved, after_spent, keeps}

-- the block that is given has the asked words
given_words : (asked : ℕ) (free : List Block) (t : Taken) → IsFirstFit asked free t → asked ≤ words_of t.block
given_words asked free t f =
    let e : words_of t.block ≡ f.words = ap words_of f.block in
    ⊎_elim (λ (same : f.words ≡ asked). omega (arith, e, same)) (λ more. omega (arith, e, more.0)) f.sized

-- a block is apart from the payloads in others
apart_from : (b : Block) (live free : List Block) (words : ℕ) (x y : Extent) → ((w : ℕ) → covering w (b ∷ live) ≤ 1) → x.address ≡ address_of b → x.words ≤ words_of b → Found y live → AreApart y x
apart_from (Headed j n) live free words x y once a le f = apart_blocks y x f.header f.size j n f.address f.words a le (λ w. omega (arith, once w, f.among w))

module _ (e : Environment) (linear unrestricted x : ℕ) (es : List HeapEvent) (caller : Caller) (s : Store) (h : IsHeapAfter linear unrestricted es s) where
  gives : (c : Config) → Gives e linear unrestricted h.next caller s (asked_of x) h.live h.free c → GivesBlock e linear unrestricted es caller s x c
  gives c g =
      let asked = asked_of x in
      let b = g.taken.block in
      let given : Extent = record { address = address_of b; words = asked } in
      let fit = fit_is_first asked h.free g.taken g.fits in
      let le = given_words asked h.free g.taken fit in
      let once : (w : ℕ) → covering w (b ∷ h.live) ≤ 1 = λ w. omega (arith, g.heap.tiled.once w, covers_most w 2 (linear_words linear - 3)) in
      record {
        address = address_of b;
        returns = g.returns;
        heap = record {
          live = h.live ++ (b ∷ []);
          free = g.taken.free;
          next = h.next;
          heap = heap_moved linear unrestricted h.next c.store b h.live g.taken.free g.heap;
          blocks = subst (λ (xs : List (Option Extent)). LieAt xs (h.live ++ (b ∷ []))) (sym (blocks_grow es (Alloc (address_of b) asked))) (lie_more (blocks_of es) h.live given b h.blocks refl le);
          grants = subst (λ (xs : List Extent). Follow (65536 * linear) xs h.next) (sym (grants_grow es (Alloc (address_of b) asked))) h.grants;
        };
        first = record {
          free = h.free;
          read = free_list_is_read linear unrestricted es s h;
          taken = g.taken;
          fit = fit;
          front = refl;
          header = headers_front (word c.store.memory) (b ∷ []) h.live g.heap.tiled.headers;
        };
        apart = λ y l. apart_from b h.live g.taken.free (linear_words linear) given y once refl le (live_found linear unrestricted es s h y l);
        keeps = keeps linear es h.live s c.store (λ y l. live_found linear unrestricted es s h y l) g.stays;
        table = g.stays.table;
        globals = g.stays.globals;
      }

  ends : (c : Config) → FindsNone e linear unrestricted h.next caller s (asked_of x) h.free c → EndsWithoutBlock e linear unrestricted es caller s x c
  ends c f = record {
    spent = f.spent;
    none = record { free = h.free; read = free_list_is_read linear unrestricted es s h; smaller = none_is_small (asked_of x) h.free f.none };
    heap = after_spent linear unrestricted es s c.store h f.spent.store;
  }

pub allocations_are_told : AllocationsAreTold
allocations_are_told code meets e linear unrestricted x es caller s has h =
    within_as e (linear_words linear) (λ c. Gives e linear unrestricted h.next caller s (asked_of x) h.live h.free c ⊎ FindsNone e linear unrestricted h.next caller s (asked_of x) h.free c)
    (λ c. GivesBlock e linear unrestricted es caller s x c ⊎ EndsWithoutBlock e linear unrestricted es caller s x c)
    (λ c. ⊎_elim (λ g. inl (gives e linear unrestricted x es caller s h c g)) (λ f. inr (ends e linear unrestricted x es caller s h c f)))
    (256 * suc (length h.free)) (called 1 code x caller s) (meets e linear unrestricted h.next x caller s h.live h.free has h.heap)
