-- A call of function 2.
use Rattle.std.proofs.Common.{◌≡◌, ◌∙◌, ℕ, suc, ◌*◌, List, [], ◌∷◌, ◌++◌, Option, Some, refl, sym, subst, length}
use Rattle.wasm_execution.specs.Configurations.{Store, Config}
use Rattle.wasm_execution.specs.Environments.{Environment}
use Rattle.heap_blocks.specs.Blocks.{Block}
use Rattle.allocator_contract.specs.Heaps.{linear_words, IsHeap}
use Rattle.allocator_contract.specs.Walks.{Within}
use Rattle.allocator_contract.specs.Contract.{Caller, called, TakesBack}
use Rattle.heap_events.specs.Events.{HeapEvent, Free}
use Rattle.heap_events.specs.Heaps.{Extent, blocks_of}
use Rattle.heap_events.specs.Honesty.{HasFreeList}
use Rattle.heap_histories.specs.Histories.{LieAt, Follow, IsHeapAfter}
use Rattle.heap_histories.proofs.Growing.{blocks_grow, grants_grow}
use Rattle.heap_histories.proofs.Extents.{found, live_once}
use Rattle.heap_histories.proofs.Starting.{free_list_is_read, heap_is_read}
use Rattle.allocator_events.specs.Calls.{FreesBlock}
use Rattle.allocator_events.specs.Laws.{FreesAreTold}
use Rattle.allocator_events.proofs.Walks.{within_as}
use Rattle.allocator_events.proofs.Lists.{Split, split}
use Rattle.allocator_events.proofs.Heaps.{keeps}

module _ (e : Environment) (linear unrestricted a : ℕ) (es : List HeapEvent) (caller : Caller) (s : Store) (h : IsHeapAfter linear unrestricted es s) (p : Split a (blocks_of es) h.live) where
  others : LieAt (blocks_of (es ++ (Free a ∷ []))) (p.before ++ p.behind)
  others = subst (λ (xs : List (Option Extent)). LieAt xs (p.before ++ p.behind)) (sym (blocks_grow es (Free a))) p.others

  frees : (c : Config) → TakesBack e linear unrestricted h.next caller s p.block (p.before ++ p.behind) h.free c → FreesBlock e linear unrestricted es caller s a c
  frees c t = record {
    returns = t.returns;
    heap = record {
      live = p.before ++ p.behind;
      free = p.block ∷ h.free;
      next = h.next;
      heap = t.heap;
      blocks = others;
      grants = subst (λ (xs : List Extent). Follow (65536 * linear) xs h.next) (sym (grants_grow es (Free a))) h.grants;
    };
    block = p.block;
    address = p.address;
    joins = λ free r.
        let same : Some h.free ≡ Some free = sym (free_list_is_read linear unrestricted es s h) ∙ r in
        let q : h.free ≡ free = cc in
        subst (λ (bs : List Block). HasFreeList linear c.store (p.block ∷ bs)) q (heap_is_read linear unrestricted h.next c.store (p.before ++ p.behind) (p.block ∷ h.free) t.heap);
    keeps = keeps linear (es ++ (Free a ∷ [])) (p.before ++ p.behind) s c.store (λ x (i, l). found (blocks_of (es ++ (Free a ∷ []))) (p.before ++ p.behind) i x others l) t.stays;
    table = t.stays.table;
    globals = t.stays.globals;
  }

pub frees_are_told : FreesAreTold
frees_are_told code meets e linear unrestricted a es caller s has h (n, (i, l)) =
    let p = split a (blocks_of es) h.live i (record { address = a; words = n }) (live_once linear unrestricted es s h) h.blocks l refl in
    within_as e (linear_words linear) (TakesBack e linear unrestricted h.next caller s p.block (p.before ++ p.behind) h.free) (FreesBlock e linear unrestricted es caller s a)
    (λ c t. frees e linear unrestricted a es caller s h p c t) (256 * suc (length h.free)) (called 2 code a caller s)
    (subst (λ (v : ℕ). Within e (linear_words linear) (TakesBack e linear unrestricted h.next caller s p.block (p.before ++ p.behind) h.free) (256 * suc (length h.free)) (called 2 code v caller s)) p.address
    (meets e linear unrestricted h.next caller s p.before p.block p.behind h.free has (subst (λ (bs : List Block). IsHeap linear unrestricted h.next s bs h.free) p.is h.heap)))
