-- A call of function 3.
use Rattle.std.proofs.Common.{ℕ, ◌*◌, ◌⊎◌, inl, inr, ⊎_elim, List, Option, refl, sym, subst, arith}
use Rattle.wasm_execution.specs.Configurations.{Store, Config}
use Rattle.wasm_execution.specs.Environments.{Environment}
use Rattle.heap_blocks.specs.Allocation.{asked_of, next_behind}
use Rattle.allocator_contract.specs.Heaps.{linear_words}
use Rattle.allocator_contract.specs.Contract.{Caller, called, Grants, HasNone}
use Rattle.heap_events.specs.Events.{HeapEvent, Grant}
use Rattle.heap_events.specs.Heaps.{Extent, grants_of}
use Rattle.heap_histories.specs.Histories.{LieAt, Follow, IsHeapAfter}
use Rattle.heap_histories.proofs.Growing.{blocks_grow, grants_grow}
use Rattle.heap_histories.proofs.Extents.{grants_lie_within}
use Rattle.allocator_events.specs.Calls.{GivesGrant, EndsWithoutRoom}
use Rattle.allocator_events.specs.Laws.{GrantsAreTold}
use Rattle.allocator_events.proofs.Walks.{within_as}
use Rattle.allocator_events.proofs.Lists.{follow_more}
use Rattle.allocator_events.proofs.Heaps.{after_spent}

module _ (e : Environment) (linear unrestricted x : ℕ) (es : List HeapEvent) (caller : Caller) (s : Store) (h : IsHeapAfter linear unrestricted es s) where
  gives : (c : Config) → Grants e linear unrestricted h.next caller s (asked_of x) h.live h.free c → GivesGrant e linear unrestricted es caller s x c
  gives c g =
      let asked = asked_of x in
      let given : Extent = record { address = h.next; words = asked } in
      record {
        address = h.next;
        returns = g.returns;
        heap = record {
          live = h.live;
          free = h.free;
          next = next_behind h.next asked;
          heap = g.heap;
          blocks = subst (λ (xs : List (Option Extent)). LieAt xs h.live) (sym (blocks_grow es (Grant h.next asked))) h.blocks;
          grants = subst (λ (xs : List Extent). Follow (65536 * linear) xs (next_behind h.next asked)) (sym (grants_grow es (Grant h.next asked))) (follow_more (65536 * linear) h.next (grants_of es) given h.grants refl);
        };
        next = record { next = h.heap.first; risen = g.heap.first };
        apart = record {
          from = h.heap.behind;
          to = omega (arith, g.room, h.heap.long);
          apart = λ y l. inl ((grants_lie_within linear unrestricted es s y h l).1);
        };
        store = g.store;
      }

  ends : (c : Config) → HasNone e linear unrestricted h.next caller s (asked_of x) c → EndsWithoutRoom e linear unrestricted es caller s x c
  ends c f = record {
    spent = f.spent;
    none = record { next = h.next; read = h.heap.first; none = omega (arith, f.none, h.heap.long) };
    heap = after_spent linear unrestricted es s c.store h f.spent.store;
  }

pub grants_are_told : GrantsAreTold
grants_are_told code meets e linear unrestricted x es caller s has h =
    within_as e (linear_words linear) (λ c. Grants e linear unrestricted h.next caller s (asked_of x) h.live h.free c ⊎ HasNone e linear unrestricted h.next caller s (asked_of x) c)
    (λ c. GivesGrant e linear unrestricted es caller s x c ⊎ EndsWithoutRoom e linear unrestricted es caller s x c)
    (λ c. ⊎_elim (λ g. inl (gives e linear unrestricted x es caller s h c g)) (λ f. inr (ends e linear unrestricted x es caller s h c f))) 256 (called 3 code x caller s)
    (meets e linear unrestricted h.next x caller s h.live h.free has h.heap)
