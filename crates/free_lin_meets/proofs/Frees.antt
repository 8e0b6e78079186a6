-- Giving a block back: its next word is the head of the list first, and then it is the head.
use Rattle.std.proofs.Common.{◌≡◌, ◌∙◌, ℕ, zero, suc, ◌+◌, ◌-◌, ◌*◌, ◌^◌, ◌<◌, ◌≤◌, ◌≢◌, Bool, true, List, [], ◌∷◌, ◌++◌, length, refl, sym, ap, subst, arith}
use Rattle.std.specs.Prelude.{◌&&◌}
use Rattle.memory_words.specs.Memories.{word, read, write}
use Rattle.memory_words.proofs.Words.{length-write, word_is, word-write, word-other}
use Rattle.wasm_ast.specs.declared.instructions.WInstr as w
use Rattle.wasm_execution.specs.Configurations.{Store, Config}
use Rattle.wasm_execution.specs.Environments.{Environment, is_allocator}
use Rattle.heap_blocks.specs.Blocks.{Block, Headed, covers, covering, AreChained, IsReadable, IsTiled, is_tiled_word}
use Rattle.heap_blocks.proofs.Lists.{covers_in, covers_most, covers_left, covers_right, apart, covering_append, room_append, payloads_front, payloads_back, payloads_both, headers_front, headers_back, headers_both, Agree, headers_kept, chain_kept, chain_headers}
use Rattle.heap_blocks.proofs.Readings.{tiled_readable}
use Rattle.allocator_codes.specs.Codes.{free_lin_code}
use Rattle.allocator_contract.specs.Heaps.{linear_words, IsHeap}
use Rattle.allocator_contract.specs.Walks.{Within}
use Rattle.allocator_contract.specs.Contract.{free_type, HasAllocator, Caller, called, TakesBack, FreesLinear}
use Rattle.allocator_contract.proofs.Sizes.{chain_small, three, few, within_memory}
use Rattle.allocator_contract.proofs.Returning.{call_of, returns_nothing}
use Rattle.allocator_contract.proofs.Instructions.{Call, at, Sure, now, more, get, wrap, const32, load, store}

abbrev W : ℕ → ℕ
W = linear_words

frees : (e : Environment) (linear unrestricted next : ℕ) (caller : Caller) (s : Store) (pre : List Block) (j n : ℕ) (post free : List Block) → HasAllocator e 2 free_type free_lin_code →
    IsHeap linear unrestricted next s (pre ++ (Headed j n ∷ post)) free →
    Within e (linear_words linear) (TakesBack e linear unrestricted next caller s (Headed j n) (pre ++ post) free) 9 (called 2 free_lin_code (8 * suc j) caller s)
frees e linear unrestricted next caller s pre j n post free has h =
    let words = linear_words linear in
    let live = pre ++ (Headed j n ∷ post) in
    let m = s.memory in
    let t = h.tiled in
    let w3 = three linear unrestricted next s live free h in
    let small = few linear unrestricted next s live free h in
    let long = within_memory linear unrestricted next s live free h in
    let address = 8 * suc j in
    let head = word m 1 in
    let m1 = write 8 m address head in
    let m2 = write 8 m1 8 address in
    let payload = (payloads_back pre (Headed j n ∷ post) t.live_payloads).0 in
    let split : (i : ℕ) → covering i (pre ++ (Headed j n ∷ post)) ≡ covering i pre + (covers i j n + covering i post) = λ i. covering_append i pre (Headed j n ∷ post) in
    let joined : (i : ℕ) → covering i (pre ++ post) ≡ covering i pre + covering i post = λ i. covering_append i pre post in
    let mine = covers_in (suc j) j n (omega arith) (omega (arith, payload)) in
    let most = covers_most (suc j) 2 (words - 3) in
    let in_free : covering (suc j) free ≡ 0 = omega (arith, mine, most, split (suc j), t.once (suc j)) in
    let in_live : covering (suc j) (pre ++ post) ≡ 0 = omega (arith, mine, most, split (suc j), joined (suc j), t.once (suc j)) in
    let inside : 1 ≤ covers (suc j) 2 (words - 3) = omega (arith, mine, split (suc j), t.once (suc j)) in
    let low = covers_left (suc j) 2 (words - 3) inside in
    let high = covers_right (suc j) 2 (words - 3) inside in
    let below : suc j < words = omega (arith, high, w3) in
    let head_small = chain_small words (word m) head free w3 t.chained (λ w. omega (arith, t.once w)) in
    let none : (i : ℕ) → 1 ≤ covers i 2 (words - 3) → i ≢ 1 = λ i k e. omega (arith, covers_left i 2 (words - 3) k, e) in
    let fit1 : 8 * suc j + 8 ≤ length m = omega (arith, long, below) in
    let len1 = length-write 8 m address head fit1 in
    let fit2 : 8 * 1 + 8 ≤ length m1 = omega (arith, len1, fit1, low) in
    let len2 = length-write 8 m1 8 address fit2 in
    let same1 : word m1 (suc j) ≡ head = word-write m (suc j) head fit1 (omega (arith, head_small, small)) in
    let same2 : word m2 1 ≡ address = word-write m1 1 address fit2 (omega (arith, below, small)) in
    let other1 : (i : ℕ) → i ≢ suc j → word m1 i ≡ word m i = λ i ne. word-other m (suc j) i head fit1 ne in
    let other2 : (i : ℕ) → i ≢ 1 → word m2 i ≡ word m1 i = λ i ne. word-other m1 1 i address fit2 ne in
    let agree1 : Agree (word m) (word m1) free = λ i k. other1 i (apart free i (suc j) k in_free) in
    let j1 : 1 ≢ suc j = λ e. omega (arith, low, e) in
    let chain1 : AreChained (word m1) (word m1 1) free = subst (λ x. AreChained (word m1) x free) (sym (other1 1 j1)) (chain_kept free (word m) (word m1) head t.free_payloads agree1 t.chained) in
    let headers0 = headers_both (word m) pre post (headers_front (word m) pre (Headed j n ∷ post) t.headers) (headers_back (word m) pre (Headed j n ∷ post) t.headers).1 in
    let header0 = (headers_back (word m) pre (Headed j n ∷ post) t.headers).0 in
    let header1 : word m1 j ≡ n = other1 j (λ e. omega (arith, e)) ∙ header0 in
    let agree0 : Agree (word m) (word m1) (pre ++ post) = λ i k. other1 i (apart (pre ++ post) i (suc j) k in_live) in
    let payloads0 = payloads_both pre post (payloads_front pre (Headed j n ∷ post) t.live_payloads) (payloads_back pre (Headed j n ∷ post) t.live_payloads).1 in
    let read1 : IsReadable words (word m1) = record {
      free = free;
      chained = chain1;
      payloads = t.free_payloads;
      once = λ w. omega (arith, t.once w);
      fits = omega (arith, t.whole);
      blocks = Headed j n ∷ ((pre ++ post) ++ free);
      headers = (header1, headers_both (word m1) (pre ++ post) free (headers_kept (pre ++ post) (word m) (word m1) agree0 headers0) (chain_headers free (word m1) (word m1 1) chain1));
      payloads_of_blocks = (payload, payloads_both (pre ++ post) free payloads0 t.free_payloads);
      cover = λ w. omega (arith, covering_append w (pre ++ post) free, t.once w, split w, joined w);
    } in
    let agree2 : Agree (word m1) (word m2) free = λ i k. other2 i (none i (omega (arith, k, t.once i))) in
    let chain2 : AreChained (word m2) head free = chain_kept free (word m1) (word m2) head t.free_payloads agree2 (subst (λ x. AreChained (word m1) x free) (other1 1 j1) chain1) in
    let still : (i : ℕ) → i ≢ 1 → i ≢ suc j → word m2 i ≡ word m i = λ i n1 nj. other2 i n1 ∙ other1 i nj in
    let kept : Agree (word m) (word m2) (pre ++ post) = λ i k. still i (none i (omega (arith, k, split i, joined i, t.once i))) (apart (pre ++ post) i (suc j) k in_live) in
    let j2 : suc j ≢ 1 = λ e. omega (arith, low, e) in
    let low0 = covers_left j 2 (words - 3) (omega (arith, covers_in j j n (omega arith) (omega arith), split j, t.once j)) in
    let header2 : word m2 j ≡ n = still j (λ e. omega (arith, low0, e)) (λ e. omega (arith, e)) ∙ header0 in
    let tiled2 : IsTiled words (word m2) (pre ++ post) (Headed j n ∷ free) = record {
      chained = (same2, header2, subst (λ x. AreChained (word m2) x free) (sym (other2 (suc j) j2 ∙ same1)) chain2);
      headers = headers_kept (pre ++ post) (word m) (word m2) kept headers0;
      live_payloads = payloads0;
      free_payloads = (payload, t.free_payloads);
      once = λ w. omega (arith, t.once w, split w, joined w);
      whole = omega (arith, t.whole, room_append pre post, room_append pre (Headed j n ∷ post));
    } in
    let r0 = tiled_readable words (word m) live free t in
    let r2 = tiled_readable words (word m2) (pre ++ post) (Headed j n ∷ free) tiled2 in
    let quiet : is_allocator e 2 ≡ true = ap (λ (b : Bool). b && true) has.told in
    let a : Call = call_of e linear 2 address caller s.table quiet in
    let long2 : length m2 ≡ length m = len2 ∙ len1 in
    let last = at a m2 s.globals (address ∷ []) [] [] [] in
    let taken : TakesBack e linear unrestricted next caller s (Headed j n) (pre ++ post) free last = record {
      returns = returns_nothing e linear 2 address caller s.table quiet free_lin_code m2 s.globals (address ∷ []) has.function;
      heap = record {
        some = h.some;
        most = h.most;
        long = long2 ∙ h.long;
        tiled = tiled2;
        trap_code = h.trap_code;
        zeroth = h.zeroth;
        first = h.first;
        behind = h.behind;
        within = omega (arith, h.within, long2);
        next_word = h.next_word;
        aligned = h.aligned;
      };
      stays = record {
        blocks = kept;
        region = λ i le. still i (λ e. omega (arith, e, le, w3)) (λ e. omega (arith, e, le, below));
        table = refl;
        globals = refl;
      };
    } in
    get a r0 refl (wrap a r0 (omega (arith, below, small)) (const32 a r0 (load a r0 8 head (omega arith) (omega (arith, fit1, low)) (word_is m 1 8 refl)
    (store a r0 address (omega arith) fit1
    (const32 a read1 (get a read1 refl (store a read1 8 (omega arith) fit2 (now a r2 taken))))))))

pub free_lin_meets : FreesLinear free_lin_code
free_lin_meets e linear unrestricted next caller s before (Headed j n) behind free has h =
    let f = frees e linear unrestricted next caller s before j n behind free has h in
    record { steps = f.steps; few = omega (arith, f.few); quietly = f.quietly }
