-- The code of function 1: a request of no words asks for one, and the search begins at the head of the free list.
use Rattle.std.proofs.Common.{◌≡◌, ℕ, zero, suc, ◌*◌, ◌≤◌, ◌⊎◌, max, [], length, refl, subst, arith}
use Rattle.memory_words.specs.Memories.{word}
use Rattle.heap_blocks.proofs.Readings.{tiled_readable}
use Rattle.allocator_codes.specs.Codes.{one_at_least, alloc_lin_code}
use Rattle.allocator_contract.specs.Heaps.{linear_words}
use Rattle.allocator_contract.specs.Walks.{Within}
use Rattle.allocator_contract.specs.Contract.{called, Gives, FindsNone, AllocatesLinear}
use Rattle.allocator_contract.proofs.Instructions.{more, get, set, const64, is_zero, is_not_zero, enters, passes, ends, loops}
use Rattle.alloc_lin_meets.proofs.Scan as scan

pub alloc_lin_meets : AllocatesLinear alloc_lin_code
alloc_lin_meets e linear unrestricted next zero caller s live free has h =
    let some : 1 ≤ 1 = omega arith in
    let a = scan.a e linear unrestricted next caller s live free has h 1 0 some in
    let r0 = tiled_readable (linear_words linear) (word s.memory) live free h.tiled in
    more a (omega arith) (get a r0 refl (is_zero a r0 refl (enters a r0 (const64 a r0 (set a r0 refl (ends a r0 (const64 a r0 (set a r0 refl (loops a r0
    (scan.scan e linear unrestricted next caller s live free has h 1 0 some free [] 1 0 0 0 refl tt h.tiled refl h.tiled.chained))))))))))
alloc_lin_meets e linear unrestricted next (suc x) caller s live free has h =
    let some : 1 ≤ suc x = omega arith in
    let same : suc x ≡ max 1 (suc x) = omega arith in
    let a = scan.a e linear unrestricted next caller s live free has h (suc x) (suc x) some in
    let r0 = tiled_readable (linear_words linear) (word s.memory) live free h.tiled in
    subst (λ (k : ℕ). Within e (linear_words linear) (λ c. Gives e linear unrestricted next caller s k live free c ⊎ FindsNone e linear unrestricted next caller s k free c) (256 * suc (length free)) (called 1 alloc_lin_code (suc x) caller s)) same
    (more a (omega arith) (get a r0 refl (is_not_zero a r0 some (passes a r0 one_at_least (const64 a r0 (set a r0 refl (loops a r0
    (scan.scan e linear unrestricted next caller s live free has h (suc x) (suc x) some free [] 1 0 0 0 refl tt h.tiled refl h.tiled.chained))))))))
