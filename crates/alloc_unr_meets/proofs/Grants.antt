-- The code of function 3: the words that are left of the region are compared with the asked ones.
use Rattle.std.proofs.Common.{◌≡◌, ◌∙◌, ℕ, zero, suc, ◌+◌, ◌-◌, ◌*◌, ◌/◌, ◌^◌, ◌<◌, ◌≤◌, ◌⊎◌, inl, inr, ⊎_elim, max, Bool, true, List, [], ◌∷◌, length, Some, None, refl, sym, ap, subst, arith}
use Rattle.std.specs.Prelude.{◌&&◌, slice_get, slice_set}
use Rattle.std.proofs.lemmas.Bool.{cases_lt}
use Rattle.memory_words.specs.Memories.{word}
use Rattle.wasm_ast.specs.declared.instructions.WInstr as w
use Rattle.wasm_ast.specs.declared.instructions.WInstr.{WInstr}
use Rattle.wasm_execution.specs.Configurations.{Store, Config}
use Rattle.wasm_execution.specs.Environments.{Environment, is_allocator}
use Rattle.heap_blocks.specs.Blocks.{Block, IsReadable}
use Rattle.heap_blocks.specs.Allocation.{asked_of, next_behind}
use Rattle.heap_blocks.proofs.Readings.{tiled_readable}
use Rattle.allocator_codes.specs.Codes.{one_at_least, spent, alloc_unr_code}
use Rattle.allocator_contract.specs.Heaps.{linear_words, IsHeap}
use Rattle.allocator_contract.specs.Walks.{Within}
use Rattle.allocator_contract.specs.Contract.{alloc_type, HasAllocator, Caller, called, Grants, HasNone, AllocatesUnrestricted}
use Rattle.allocator_contract.proofs.Returning.{call_of, returns_one, ends_spent}
use Rattle.allocator_contract.proofs.Instructions.{Call, at, Sure, past, now, more, get, set, global_get, global_set, const32, const64, extend, size, add, sub, mul, shift, is_zero, is_not_zero, is_less, is_not_less, enters, passes, ends}

set_first : (gl : List ℕ) (old y : ℕ) → slice_get gl 1 ≡ Some old → slice_get (slice_set gl 1 y) 1 ≡ Some y
set_first [] old y e = absurd cc
set_first (g ∷ []) old y e = absurd cc
set_first (g ∷ k ∷ gs) old y e = refl

zeroth_stays : (gl : List ℕ) (y : ℕ) → slice_get (slice_set gl 1 y) 0 ≡ slice_get gl 0
zeroth_stays [] y = refl
zeroth_stays (g ∷ []) y = refl
zeroth_stays (g ∷ k ∷ gs) y = refl

-- the code behind the request's least size, and behind the test
abbrev grant : List WInstr
grant = w.GlobalGet 1 ∷ w.GlobalGet 1 ∷ w.LocalGet 0 ∷ w.I64Const 8 ∷ w.I64Mul ∷ w.I64Add ∷ w.GlobalSet 1 ∷ []

abbrev test : List WInstr
test = w.MemorySize ∷ w.I64ExtendI32U ∷ w.I64Const 65536 ∷ w.I64Mul ∷ w.GlobalGet 1 ∷ w.I64Sub ∷ w.I64Const 3 ∷ w.I64ShrU ∷ w.LocalGet 0 ∷ w.I64LtU ∷ w.If None spent ∷ grant

module _ (e : Environment) (linear unrestricted next : ℕ) (caller : Caller) (s : Store) (live free : List Block) (has : HasAllocator e 3 alloc_type alloc_unr_code) (h : IsHeap linear unrestricted next s live free) (asked x : ℕ) where
  abbrev m : List ℕ
  m = s.memory

  abbrev gl : List ℕ
  gl = s.globals

  abbrev pages : ℕ
  pages = linear + unrestricted

  abbrev quiet : is_allocator e 3 ≡ true
  quiet = ap (λ (b : Bool). b && true) has.told

  abbrev a : Call
  a = call_of e linear 3 x caller s.table quiet

  abbrev Outcome : Config → Type 0
  Outcome c = Grants e linear unrestricted next caller s asked live free c ⊎ HasNone e linear unrestricted next caller s asked c

  abbrev to : ℕ
  to = next_behind next asked

  gives : IsReadable (linear_words linear) (word m) → next + 8 * asked ≤ length m → Sure a 8 Outcome (at a m gl (asked ∷ []) [] grant [])
  gives r0 room =
      let small : next + 8 * asked < 2 ^ 64 = omega (arith, room, h.long, h.most) in
      let last = at a m (slice_set gl 1 to) (asked ∷ []) (next ∷ []) [] [] in
      let granted : Grants e linear unrestricted next caller s asked live free last = record {
        room = room;
        returns = returns_one e linear 3 x caller s.table quiet alloc_unr_code m (slice_set gl 1 to) (asked ∷ []) next has.function;
        heap = record {
          some = h.some;
          most = h.most;
          long = h.long;
          tiled = h.tiled;
          trap_code = h.trap_code;
          zeroth = zeroth_stays gl to ∙ h.zeroth;
          first = set_first gl next to h.first;
          behind = omega (arith, h.behind);
          within = room;
          next_word = h.next_word + asked;
          aligned = omega (arith, h.aligned);
        };
        store = refl;
      } in
      global_get a r0 h.first (global_get a r0 h.first (get a r0 refl (const64 a r0 (mul a r0 (8 * asked) (omega arith) (omega (arith, small)) (add a r0 to refl small
      (global_set a r0 h.first (now a r0 (inl granted))))))))

  none : IsReadable (linear_words linear) (word m) → length m < next + 8 * asked → Sure a 4 Outcome (at a m gl (asked ∷ []) [] spent (past [] grant ∷ []))
  none r0 full =
      const32 a r0 (global_set a r0 h.zeroth (now a {n = 1} r0
      (inr (record { none = full; spent = record { ends = ends_spent e linear 3 x caller s.table quiet m gl (asked ∷ []) [] [] (past [] grant ∷ []) h.trap_code has.trap_code h.zeroth; store = refl } }))))

  tests : IsReadable (linear_words linear) (word m) → Sure a 20 Outcome (at a m gl (asked ∷ []) [] test [])
  tests r0 =
      let end : ℕ = 65536 * pages in
      let left : ℕ = end - next in
      let long : length m ≡ end = h.long in
      let within : next ≤ end = omega (arith, h.within, h.long) in
      let choice : Sure a 10 Outcome (at a m gl (asked ∷ []) (asked ∷ (left / 8) ∷ []) (w.I64LtU ∷ w.If None spent ∷ grant) []) =
      ⊎_elim
      (λ (lt : left / 8 < asked). more a {n = 6} (omega arith) (is_less a r0 lt (enters a r0 (none r0 (omega (arith, lt, long, within))))))
      (λ (ge : asked ≤ left / 8). is_not_less a r0 ge (passes a r0 spent (gives r0 (omega (arith, ge, long, within)))))
      (cases_lt (left / 8) asked) in
      more a {n = 19} (omega arith) (size a r0 pages (omega (arith, h.long)) (extend a r0 (const64 a r0 (mul a r0 end (omega arith) (omega (arith, h.most)) (global_get a r0 h.first (sub a r0 left (omega (arith, within)) (omega (arith, h.most)) (const64 a r0
      (shift a r0 (left / 8) refl (get a r0 refl choice)))))))))

pub alloc_unr_meets : AllocatesUnrestricted alloc_unr_code
alloc_unr_meets e linear unrestricted next zero caller s live free has h =
    let r = a e linear unrestricted next caller s live free has h 1 0 in
    let r0 = tiled_readable (linear_words linear) (word s.memory) live free h.tiled in
    more r (omega arith) (get r r0 refl (is_zero r r0 refl (enters r r0 (const64 r r0 (set r r0 refl (ends r r0
    (tests e linear unrestricted next caller s live free has h 1 0 r0)))))))
alloc_unr_meets e linear unrestricted next (suc x) caller s live free has h =
    let some : 1 ≤ suc x = omega arith in
    let same : suc x ≡ max 1 (suc x) = omega arith in
    let r = a e linear unrestricted next caller s live free has h (suc x) (suc x) in
    let r0 = tiled_readable (linear_words linear) (word s.memory) live free h.tiled in
    subst (λ (k : ℕ). Within e (linear_words linear) (λ c. Grants e linear unrestricted next caller s k live free c ⊎ HasNone e linear unrestricted next caller s k c) 256 (called 3 alloc_unr_code (suc x) caller s)) same
    (more r (omega arith) (get r r0 refl (is_not_zero r r0 some (passes r r0 one_at_least
    (tests e linear unrestricted next caller s live free has h (suc x) (suc x) r0)))))
