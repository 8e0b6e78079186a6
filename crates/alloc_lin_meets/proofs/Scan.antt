-- The search for the first block that fits, from the blocks already passed, which are kept in reverse.
use Rattle.std.proofs.Common.{◌≡◌, ◌∙◌, ℕ, suc, ◌+◌, ◌-◌, ◌*◌, ◌^◌, ◌<◌, ◌≤◌, ◌≢◌, ◌⊎◌, inl, inr, ⊎_elim, Bool, true, List, [], ◌∷◌, length, Some, None, refl, sym, ap, subst, arith}
use Rattle.std.specs.Prelude.{◌&&◌}
use Rattle.std.proofs.lemmas.Bool.{cases_lt}
use Rattle.memory_words.specs.Memories.{word, write}
use Rattle.memory_words.proofs.Words.{length-write, word_is, word-write, word-other}
use Rattle.wasm_ast.specs.declared.instructions.WInstr as w
use Rattle.wasm_ast.specs.declared.instructions.WInstr.{WInstr}
use Rattle.wasm_execution.specs.Configurations.{Level, Store, Config}
use Rattle.wasm_execution.specs.Environments.{Environment, is_allocator}
use Rattle.heap_blocks.specs.Blocks.{Block, Headed, covers, covering, AreChained, IsReadable, IsTiled}
use Rattle.heap_blocks.specs.Allocation.{first_fit, AreSmaller}
use Rattle.heap_blocks.proofs.Lists.{onto, covers_in, covers_most, covers_right, covers_split, covers_out, covers_past, apart, covering_rev, payloads_done, Agree, ArePassed, passed_place}
use Rattle.heap_blocks.proofs.Readings.{tiled_readable}
use Rattle.heap_blocks.proofs.Fits.{whole_given, part_given, fit_behind, none_behind}
use Rattle.allocator_codes.specs.Codes.{spent, to_next, take_whole, take_front, search, alloc_lin_code}
use Rattle.allocator_contract.specs.Heaps.{linear_words, IsHeap}
use Rattle.allocator_contract.specs.Contract.{alloc_type, HasAllocator, Caller, Gives, FindsNone}
use Rattle.allocator_contract.proofs.Sizes.{three, few, within_memory}
use Rattle.allocator_contract.proofs.Returning.{call_of, returns_one, ends_spent}
use Rattle.allocator_contract.proofs.Instructions.{Call, at, Sure, past, back, now, more, get, set, global_set, wrap, const32, const64, load, store, add, sub, mul, is_zero, is_not_zero, is_less, is_not_less, enters, passes, enters_first, enters_second, ends, again}
use Rattle.alloc_lin_meets.proofs.Found.{Found, found, finish, low, high, place, place_high, next_small, passed_still, headers_still, chain_still, read_still}

module _ (e : Environment) (linear unrestricted next : ℕ) (caller : Caller) (s0 : Store) (live free : List Block) (has : HasAllocator e 1 alloc_type alloc_lin_code) (h : IsHeap linear unrestricted next s0 live free) (asked x : ℕ) (some : 1 ≤ asked) where
  abbrev words : ℕ
  words = linear_words linear

  abbrev m : List ℕ
  m = s0.memory

  abbrev gl : List ℕ
  gl = s0.globals

  w3 : 3 ≤ words
  w3 = three linear unrestricted next s0 live free h

  small : words ≤ 2 ^ 23
  small = few linear unrestricted next s0 live free h

  long : 8 * words ≤ length m
  long = within_memory linear unrestricted next s0 live free h

  abbrev quiet : is_allocator e 1 ≡ true
  quiet = ap (λ (b : Bool). b && true) has.told

  abbrev pub a : Call
  a = call_of e linear 1 x caller s0.table quiet

  abbrev pub Outcome : Config → Type 0
  Outcome c = Gives e linear unrestricted next caller s0 asked live free c ⊎ FindsNone e linear unrestricted next caller s0 asked free c

  -- behind the loop the block's address is left
  abbrev pub after : List Level
  after = back search [] (w.LocalGet 2 ∷ []) ∷ []

  -- a memory in which a block is given
  gives : (m' lo : List ℕ) (j n : ℕ) (left : List Block) → length m' ≡ length m → first_fit asked free ≡ Some (record { block = Headed j n; free = left }) → IsTiled words (word m') (Headed j n ∷ live) left →
      Agree (word m) (word m') live → ((i : ℕ) → words ≤ i → word m' i ≡ word m i) → Outcome (at a m' gl lo (8 * suc j ∷ []) [] [])
  gives m' lo j n left same fits tiled kept outer = inl (record {
    taken = record { block = Headed j n; free = left };
    fits = fits;
    returns = returns_one e linear 1 x caller s0.table quiet alloc_lin_code m' gl lo (8 * suc j) has.function;
    heap = record {
      some = h.some;
      most = h.most;
      long = same ∙ h.long;
      tiled = tiled;
      trap_code = h.trap_code;
      zeroth = h.zeroth;
      first = h.first;
      behind = h.behind;
      within = omega (arith, h.within, same);
      next_word = h.next_word;
      aligned = h.aligned;
    };
    stays = record { blocks = kept; region = outer; table = refl; globals = refl };
  })

  away : (i c j n : ℕ) → covers i j n ≡ 0 → covers c j n ≡ 1 → i ≢ c
  away i c j n z o q = let g : covers i j n ≡ covers c j n = ap (λ y. covers y j n) q in omega (arith, g, z, o)

  -- the link is no word of a live block
  not_live : (done others : List Block) (p j n : ℕ) → Found words (word m) live done others p j n → covering p live ≡ 0
  not_live done others p j n f = ⊎_elim
      (λ (q : p ≡ 1).
      let g : covering p live ≡ covering 1 live = ap (λ i. covering i live) q in
      let z : covers 1 2 (words - 3) ≡ 0 = covers_out 1 2 (words - 3) (omega arith) in
      omega (arith, f.once 1, g, z))
      (λ k. omega (arith, k, f.once p, covers_most p 2 (words - 3)))
      (place words (word m) live done others p j n f)

  takes_whole : (done others : List Block) (p j n u : ℕ) → free ≡ onto done (Headed j n ∷ others) → AreSmaller asked done → asked ≤ n → n - asked < 2 → IsReadable words (word m) → Found words (word m) live done others p j n →
      Sure a 10 Outcome (at a m gl (asked ∷ 8 * p ∷ 8 * suc j ∷ n ∷ u ∷ []) [] take_whole (past [] [] ∷ after))
  takes_whole done others p j n u is smaller le lt r0 f =
      let hi = high words (word m) live done others p j n f in
      let ph = place_high words (word m) live done others p j n f in
      let v = word m (suc j) in
      let vs = next_small words (word m) live done others p j n f in
      let m1 = write 8 m (8 * p) v in
      let fitp : 8 * p + 8 ≤ length m = omega (arith, ph, long) in
      let fitj : 8 * suc j + 8 ≤ length m = omega (arith, hi, long, f.payload) in
      let same = word-write m p v fitp (omega (arith, vs, small)) in
      let other : (i : ℕ) → i ≢ p → word m1 i ≡ word m i = λ i ne. word-other m p i v fitp ne in
      let t1 : IsTiled words (word m1) (Headed j n ∷ live) (onto done others) =
      finish words (word m) (word m1) (Headed j n ∷ live) done others p v w3 (λ w. omega (arith, f.once w)) (omega (arith, f.whole)) (f.payload, f.live_payloads) f.done_payloads f.back_payloads (f.head, f.headers) f.passed f.chain same other in
      let p_live = not_live done others p j n f in
      let fits = ap (first_fit asked) is ∙ fit_behind asked done (Headed j n ∷ others) (record { block = Headed j n; free = others }) smaller (whole_given asked j n others le lt) in
      let r1 = tiled_readable words (word m1) (Headed j n ∷ live) (onto done others) t1 in
      get a r0 refl (wrap a r0 (omega (arith, ph, small)) (get a r0 refl (wrap a r0 (omega (arith, hi, small, f.payload)) (load a r0 (8 * suc j) v (omega arith) fitj (word_is m (suc j) (8 * suc j) refl)
      (store a r0 (8 * p) (omega arith) fitp (ends a r1 (ends a r1 (get a r1 refl
      (now a r1 (gives m1 (asked ∷ 8 * p ∷ 8 * suc j ∷ n ∷ u ∷ []) j n (onto done others) (length-write 8 m (8 * p) v fitp) fits t1
      (λ i k. other i (apart live i p k p_live)) (λ i k. other i (λ q. omega (arith, q, ph, k)))))))))))))

  takes_front : (done others : List Block) (p j n t u : ℕ) → free ≡ onto done (Headed j n ∷ others) → AreSmaller asked done → n ≡ asked + suc t → 1 ≤ t → IsReadable words (word m) → Found words (word m) live done others p j n →
      Sure a 38 Outcome (at a m gl (asked ∷ 8 * p ∷ 8 * suc j ∷ n ∷ u ∷ []) [] take_front (past [] [] ∷ after))
  takes_front done others p j n t u is smaller en t1 r0 f =
      let r = word m in
      let lo = low words r live done others p j n f in
      let hi = high words r live done others p j n f in
      let ph = place_high words r live done others p j n f in
      let v = r (suc j) in
      let vs = next_small words r live done others p j n f in
      let k = suc (j + asked) in
      let m1 = write 8 m (8 * k) t in
      let m2 = write 8 m1 (8 * suc k) v in
      let m3 = write 8 m2 (8 * j) asked in
      let m4 = write 8 m3 (8 * p) (8 * suc k) in
      let fitj : 8 * suc j + 8 ≤ length m = omega (arith, hi, long, f.payload) in
      let fit1 : 8 * k + 8 ≤ length m = omega (arith, hi, long, en) in
      let len1 = length-write 8 m (8 * k) t fit1 in
      let fit2 : 8 * suc k + 8 ≤ length m1 = omega (arith, hi, long, en, t1, len1) in
      let len2 = length-write 8 m1 (8 * suc k) v fit2 in
      let fit3 : 8 * j + 8 ≤ length m2 = omega (arith, hi, long, len1, len2) in
      let len3 = length-write 8 m2 (8 * j) asked fit3 in
      let fit4 : 8 * p + 8 ≤ length m3 = omega (arith, ph, long, len1, len2, len3) in
      let len4 = length-write 8 m3 (8 * p) (8 * suc k) fit4 in
      let same1 : word m1 k ≡ t = word-write m k t fit1 (omega (arith, hi, en, small)) in
      let same2 : word m2 (suc k) ≡ v = word-write m1 (suc k) v fit2 (omega (arith, vs, small)) in
      let same3 : word m3 j ≡ asked = word-write m2 j asked fit3 (omega (arith, hi, en, small)) in
      let same4 : word m4 p ≡ 8 * suc k = word-write m3 p (8 * suc k) fit4 (omega (arith, hi, en, small)) in
      let other1 : (i : ℕ) → i ≢ k → word m1 i ≡ r i = λ i ne. word-other m k i t fit1 ne in
      let other2 : (i : ℕ) → i ≢ suc k → word m2 i ≡ word m1 i = λ i ne. word-other m1 (suc k) i v fit2 ne in
      let other3 : (i : ℕ) → i ≢ j → word m3 i ≡ word m2 i = λ i ne. word-other m2 j i asked fit3 ne in
      let other4 : (i : ℕ) → i ≢ p → word m4 i ≡ word m3 i = λ i ne. word-other m3 p i (8 * suc k) fit4 ne in
      let clear : (i c : ℕ) → covers i j n ≡ 0 → j ≤ c → c ≤ j + n → i ≢ c = λ i c z x y. away i c j n z (covers_in c j n x y) in
      let out1 : (i : ℕ) → covers i j n ≡ 0 → word m1 i ≡ r i = λ i z. other1 i (clear i k z (omega arith) (omega (arith, en))) in
      let out2 : (i : ℕ) → covers i j n ≡ 0 → word m2 i ≡ r i = λ i z. other2 i (clear i (suc k) z (omega arith) (omega (arith, en, t1))) ∙ out1 i z in
      let out3 : (i : ℕ) → covers i j n ≡ 0 → word m3 i ≡ r i = λ i z. other3 i (clear i j z (omega arith) (omega arith)) ∙ out2 i z in
      let head1 : word m1 j ≡ n = other1 j (λ q. omega (arith, q)) ∙ f.head in
      let head2 : word m2 j ≡ n = other2 j (λ q. omega (arith, q)) ∙ head1 in
      let next1 : word m1 (suc j) ≡ v = other1 (suc j) (λ q. omega (arith, q, some)) in
      let next2 : word m2 (suc j) ≡ v = other2 (suc j) (λ q. omega (arith, q)) ∙ next1 in
      let next3 : word m3 (suc j) ≡ v = other3 (suc j) (λ q. omega (arith, q)) ∙ next2 in
      let r1 = read_still words r live done others p j n f (word m1) out1 n f.payload (omega arith) head1 next1 (Headed j n ∷ []) (head1, tt) (f.payload, tt) (λ w. omega arith) in
      let r2 = read_still words r live done others p j n f (word m2) out2 n f.payload (omega arith) head2 next2 (Headed j n ∷ []) (head2, tt) (f.payload, tt) (λ w. omega arith) in
      let rest_head : word m3 k ≡ t = other3 k (λ q. omega (arith, q)) ∙ other2 k (λ q. omega (arith, q)) ∙ same1 in
      let rest_next : word m3 (suc k) ≡ v = other3 (suc k) (λ q. omega (arith, q)) ∙ same2 in
      let chain3 = subst (λ y. AreChained (word m3) y others) (sym rest_next) (chain_still words r live done others p j n f (word m3) out3) in
      let parts : (w : ℕ) → covers w j n ≡ covers w j asked + covers w k t = λ w. covers_split w j n asked t (omega (arith, en)) in
      let r3 = read_still words r live done others p j n f (word m3) out3 asked some (omega (arith, en)) same3 next3 (Headed j asked ∷ Headed k t ∷ []) (same3, (rest_head, tt)) (some, (t1, tt)) (λ w. omega (arith, parts w)) in
      let t4 : IsTiled words (word m4) (Headed j asked ∷ live) (onto done (Headed k t ∷ others)) =
      finish words (word m3) (word m4) (Headed j asked ∷ live) done (Headed k t ∷ others) p (8 * suc k) w3 (λ w. omega (arith, f.once w, parts w)) (omega (arith, f.whole, en)) (some, f.live_payloads) f.done_payloads (t1, f.back_payloads)
      (same3, headers_still words r live done others p j n f (word m3) out3) (passed_still words r live done others p j n f (word m3) out3) (refl, rest_head, chain3) same4 other4 in
      let r4 = tiled_readable words (word m4) (Headed j asked ∷ live) (onto done (Headed k t ∷ others)) t4 in
      let p_live = not_live done others p j n f in
      let none : (i : ℕ) → 1 ≤ covering i live → covers i j n ≡ 0 = λ i c. omega (arith, c, f.once i, covers_most i 2 (words - 3)) in
      let fits = ap (first_fit asked) is ∙ fit_behind asked done (Headed j n ∷ others) (record { block = Headed j asked; free = Headed k t ∷ others }) smaller (part_given asked j n t others en t1) in
      get a r0 refl (get a r0 refl (const64 a r0 (mul a r0 (8 * asked) (omega arith) (omega (arith, hi, en, small)) (add a r0 (8 * suc j + 8 * asked) refl (omega (arith, hi, en, small)) (const64 a r0 (add a r0 (8 * suc k) (omega arith) (omega (arith, hi, en, small)) (set a r0 refl
      (get a r0 refl (const64 a r0 (sub a r0 (8 * k) (omega arith) (omega (arith, hi, en, small)) (wrap a r0 (omega (arith, hi, en, small)) (get a r0 refl (get a r0 refl (sub a r0 (suc t) en (omega (arith, hi, small)) (const64 a r0 (sub a r0 t (omega arith) (omega (arith, hi, en, small))
      (store a r0 (8 * k) (omega arith) fit1
      (get a r1 refl (wrap a r1 (omega (arith, hi, en, t1, small)) (get a r1 refl (wrap a r1 (omega (arith, hi, f.payload, small)) (load a r1 (8 * suc j) v (omega arith) (omega (arith, fitj, len1)) (word_is m1 (suc j) (8 * suc j) refl ∙ next1) (store a r1 (8 * suc k) (omega arith) fit2
      (get a r2 refl (const64 a r2 (sub a r2 (8 * j) (omega arith) (omega (arith, hi, small)) (wrap a r2 (omega (arith, hi, small)) (get a r2 refl (store a r2 (8 * j) (omega arith) fit3
      (get a r3 refl (wrap a r3 (omega (arith, ph, small)) (get a r3 refl (store a r3 (8 * p) (omega arith) fit4
      (ends a r4 (ends a r4 (get a r4 refl (now a r4
      (gives m4 (asked ∷ 8 * p ∷ 8 * suc j ∷ n ∷ 8 * suc k ∷ []) j asked (onto done (Headed k t ∷ others)) (len4 ∙ len3 ∙ len2 ∙ len1) fits t4
      (λ i c. other4 i (apart live i p c p_live) ∙ out3 i (none i c))
      (λ i c. other4 i (λ q. omega (arith, q, ph, c)) ∙ out3 i (covers_past i j n (omega (arith, hi, c))))))))))))))))))))))))))))))))))))))))))

  pub scan : (rest done : List Block) (p y z u : ℕ) → free ≡ onto done rest → AreSmaller asked done → IsTiled words (word m) live (onto done rest) → ArePassed (word m) done p → AreChained (word m) (word m p) rest →
      Sure a (21 * length rest + 80) Outcome (at a m gl (asked ∷ 8 * p ∷ y ∷ z ∷ u ∷ []) [] search after)
  scan [] done p y z u is smaller t b c =
      let r0 = tiled_readable words (word m) live (onto done []) t in
      let payloads = payloads_done done [] t.free_payloads in
      let ph : p < words = ⊎_elim (λ q. omega (arith, q, w3)) (λ k. let high = covers_right p 2 (words - 3) (omega (arith, t.once p, k, covering_rev p done [])) in omega (arith, high, w3)) (passed_place done (word m) p payloads b) in
      let lo = asked ∷ 8 * p ∷ 0 ∷ z ∷ u ∷ [] in
      let none = ap (first_fit asked) is ∙ none_behind asked done [] smaller refl in
      more a (omega arith) (get a r0 refl (wrap a r0 (omega (arith, ph, small)) (load a r0 (8 * p) 0 (omega arith) (omega (arith, ph, long)) (word_is m p (8 * p) refl ∙ c) (set a r0 refl
      (get a r0 refl (is_zero a r0 refl (enters a r0 (const32 a r0 (global_set a r0 h.zeroth (now a {n = 0} r0
      (inr (record { none = none; spent = record { ends = ends_spent e linear 1 x caller s0.table quiet m gl lo [] [] (past [] _ ∷ after) h.trap_code has.trap_code h.zeroth; store = refl } }))))))))))))
  scan (Headed j n ∷ others) done p y z u is smaller t b c =
      let r0 = tiled_readable words (word m) live (onto done (Headed j n ∷ others)) t in
      let f = found words (word m) live done others p j n w3 t b c in
      let hi = high words (word m) live done others p j n f in
      let ph = place_high words (word m) live done others p j n f in
      let lo = asked ∷ 8 * p ∷ 8 * suc j ∷ n ∷ u ∷ [] in
      let tail : Sure a (21 * length others + 85) Outcome (at a m gl lo (asked ∷ n ∷ []) (w.I64LtU ∷ w.If None to_next ∷ w.LocalGet 3 ∷ w.LocalGet 0 ∷ w.I64Sub ∷ w.I64Const 2 ∷ w.I64LtU ∷ w.IfElse None take_whole take_front ∷ []) after) =
      ⊎_elim
      (λ (lt : n < asked). more a (omega arith) (is_less a r0 lt (enters a r0 (get a r0 refl (set a r0 refl (again a r0
      (scan others (Headed j n ∷ done) (suc j) (8 * suc j) n u is (lt, smaller) t (refl, f.head, (p, (f.link, b))) f.chain)))))))
      (λ (ge : asked ≤ n).
      let choice : Sure a 40 Outcome (at a m gl lo (2 ∷ (n - asked) ∷ []) (w.I64LtU ∷ w.IfElse None take_whole take_front ∷ []) after) =
      ⊎_elim
      (λ (l2 : n - asked < 2). more a {n = 12} (omega arith) (is_less a r0 l2 (enters_first a r0 take_front (takes_whole done others p j n u is smaller ge l2 r0 f))))
      (λ (g2 : 2 ≤ n - asked). is_not_less a r0 g2 (enters_second a r0 take_whole (takes_front done others p j n ((n - asked) - 1) u is smaller (omega (arith, g2)) (omega (arith, g2)) r0 f)))
      (cases_lt (n - asked) 2) in
      more a {n = 46} (omega arith) (is_not_less a r0 ge (passes a r0 to_next (get a r0 refl (get a r0 refl (sub a r0 (n - asked) (omega (arith, ge)) (omega (arith, hi, small)) (const64 a r0 choice)))))))
      (cases_lt n asked) in
      more a (omega arith) (get a r0 refl (wrap a r0 (omega (arith, ph, small)) (load a r0 (8 * p) (8 * suc j) (omega arith) (omega (arith, ph, long)) (word_is m p (8 * p) refl ∙ f.link) (set a r0 refl
      (get a r0 refl (is_not_zero a r0 (omega arith) (passes a r0 spent
      (get a r0 refl (const64 a r0 (sub a r0 (8 * j) (omega arith) (omega (arith, hi, f.payload, small)) (wrap a r0 (omega (arith, hi, small)) (load a r0 (8 * j) n (omega arith) (omega (arith, hi, long)) (word_is m j (8 * j) refl ∙ f.head) (set a r0 refl
      (get a r0 refl (get a r0 refl tail)))))))))))))))
