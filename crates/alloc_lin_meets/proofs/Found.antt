-- A block that is come to by the links before it, and what stays of these, of the live blocks and of the blocks behind it where
-- its words are written.
use Rattle.std.proofs.Common.{◌≡◌, ◌∙◌, ℕ, suc, ◌+◌, ◌-◌, ◌*◌, ◌<◌, ◌≤◌, ◌≢◌, ◌⊎◌, ⊎_elim, List, ◌∷◌, ◌++◌, sym, ap, subst, arith}
use Rattle.heap_blocks.specs.Blocks.{Block, Headed, covers, covering, room_of, HavePayloads, HaveHeaders, AreChained, IsReadable, IsTiled}
use Rattle.heap_blocks.proofs.Lists.{onto, covers_in, covers_most, covers_left, covers_right, covers_less, covers_out, apart, covering_rev, room_rev, payloads_rev, payloads_rest, payloads_done, Agree, headers_kept, chain_kept, headers_both, payloads_both, covering_append, chain_headers, passed_headers, ArePassed, passed_chain, passed_place, passed_kept, passed_linked}
use Rattle.allocator_contract.proofs.Sizes.{chain_small}

-- a link to a new head
pub finish : (words : ℕ) (r r' : ℕ → ℕ) (live done to : List Block) (p h : ℕ) → 3 ≤ words → ((w : ℕ) → covering w live + (covering w done + covering w to) ≡ covers w 2 (words - 3)) → room_of live + (room_of done + room_of to) + 2 ≡ words → HavePayloads live → HavePayloads done → HavePayloads to → HaveHeaders r live → ArePassed r done p → AreChained r h to → r' p ≡ h → ((i : ℕ) → i ≢ p → r' i ≡ r i) → IsTiled words r' live (onto done to)
finish words r r' live done to p h three once whole live_payloads done_payloads to_payloads headers passed chain e other =
    let first_out : covers 1 2 (words - 3) ≡ 0 = covers_out 1 2 (words - 3) (omega arith) in
    let most : (i : ℕ) → covering i done ≤ 1 = λ i. omega (arith, once i, covers_most i 2 (words - 3)) in
    let none_first : covering 1 done ≡ 0 = omega (arith, once 1, first_out) in
    let apart_from : (covering p live ≡ 0) × (covering p to ≡ 0) = ⊎_elim (λ q. let f : covers p 2 (words - 3) ≡ covers 1 2 (words - 3) = ap (λ x. covers x 2 (words - 3)) q in (omega (arith, once p, first_out, f), omega (arith, once p, first_out, f))) (λ k. (omega (arith, once p, k, covers_most p 2 (words - 3)), omega (arith, once p, k, covers_most p 2 (words - 3)))) (passed_place done r p done_payloads passed) in
    let a1 : Agree r r' live = λ i k. other i (apart live i p k apart_from.0) in
    let a2 : Agree r r' to = λ i k. other i (apart to i p k apart_from.1) in
    record {
      chained = passed_chain done r' p to (passed_linked done r r' p done_payloads most none_first other passed) (subst (λ x. AreChained r' x to) (sym e) (chain_kept to r r' h to_payloads a2 chain));
      headers = headers_kept live r r' a1 headers;
      live_payloads = live_payloads;
      free_payloads = payloads_rev done to done_payloads to_payloads;
      once = λ w. omega (arith, once w, covering_rev w done to);
      whole = omega (arith, whole, room_rev done to);
    }

-- what a block and the ways to it and from it say
pub record Found (words : ℕ) (r : ℕ → ℕ) (live done back : List Block) (p j s : ℕ) : Type 0 where
  pub three : 3 ≤ words
  pub once : (w : ℕ) → covering w live + (covering w done + (covers w j s + covering w back)) ≡ covers w 2 (words - 3)
  pub whole : room_of live + (room_of done + (suc s + room_of back)) + 2 ≡ words
  pub live_payloads : HavePayloads live
  pub done_payloads : HavePayloads done
  pub back_payloads : HavePayloads back
  pub payload : 1 ≤ s
  pub headers : HaveHeaders r live
  pub passed : ArePassed r done p
  pub link : r p ≡ 8 * suc j
  pub head : r j ≡ s
  pub chain : AreChained r (r (suc j)) back

pub found : (words : ℕ) (r : ℕ → ℕ) (live done back : List Block) (p j s : ℕ) → 3 ≤ words → IsTiled words r live (onto done (Headed j s ∷ back)) → ArePassed r done p → AreChained r (r p) (Headed j s ∷ back) → Found words r live done back p j s
found words r live done back p j s three t b c = record {
  three = three;
  once = λ w. omega (arith, t.once w, covering_rev w done (Headed j s ∷ back));
  whole = omega (arith, t.whole, room_rev done (Headed j s ∷ back));
  live_payloads = t.live_payloads;
  done_payloads = payloads_done done (Headed j s ∷ back) t.free_payloads;
  back_payloads = (payloads_rest done (Headed j s ∷ back) t.free_payloads).1;
  payload = (payloads_rest done (Headed j s ∷ back) t.free_payloads).0;
  headers = t.headers;
  passed = b;
  link = c.0;
  head = c.1;
  chain = c.2;
}

module _ (words : ℕ) (r : ℕ → ℕ) (live done back : List Block) (p j s : ℕ) (f : Found words r live done back p j s) where
  pub low : 2 ≤ j
  low = covers_left j 2 (words - 3) (omega (arith, f.once j, covers_in j j s (omega arith) (omega arith)))

  pub high : j + s < words
  high =
      let a = covers_right (j + s) 2 (words - 3) (omega (arith, f.once (j + s), covers_in (j + s) j s (omega arith) (omega arith))) in
      omega (arith, a, f.three)

  pub place : (p ≡ 1) ⊎ (1 ≤ covering p done)
  place = passed_place done r p f.done_payloads f.passed

  pub place_high : p < words
  place_high = ⊎_elim (λ e. omega (arith, e, f.three)) (λ k. let a = covers_right p 2 (words - 3) (omega (arith, f.once p, k)) in omega (arith, a, f.three)) place

  pub place_low : 1 ≤ p
  place_low = ⊎_elim (λ e. omega (arith, e)) (λ k. let a = covers_left p 2 (words - 3) (omega (arith, f.once p, k)) in omega (arith, a)) place

  pub place_out : covers p j s ≡ 0
  place_out = ⊎_elim (λ e. covers_out p j s (omega (arith, e, low))) (λ k. omega (arith, k, f.once p, covers_most p 2 (words - 3))) place

  pub next_small : r (suc j) ≤ 8 * words
  next_small = chain_small words r (r (suc j)) back f.three f.chain (λ w. omega (arith, f.once w))

  -- where only words of the block are written
  module _ (r' : ℕ → ℕ) (out : (i : ℕ) → covers i j s ≡ 0 → r' i ≡ r i) where
    most : (i : ℕ) → covering i live + (covering i done + (covers i j s + covering i back)) ≤ 1
    most i = omega (arith, f.once i, covers_most i 2 (words - 3))

    pub passed_still : ArePassed r' done p
    passed_still = passed_kept done r r' p f.done_payloads (out 1 (covers_out 1 j s (omega (arith, low)))) (λ i k. out i (omega (arith, most i))) f.passed

    pub headers_still : HaveHeaders r' live
    headers_still = headers_kept live r r' (λ i k. out i (omega (arith, most i))) f.headers

    pub chain_still : AreChained r' (r (suc j)) back
    chain_still = chain_kept back r r' (r (suc j)) f.back_payloads (λ i k. out i (omega (arith, most i))) f.chain

    pub read_still : (a : ℕ) → 1 ≤ a → a ≤ s → r' j ≡ a → r' (suc j) ≡ r (suc j) → (xs : List Block) → HaveHeaders r' xs → HavePayloads xs → ((w : ℕ) → covering w xs ≡ covers w j s) → IsReadable words r'
    read_still a a1 le e1 e2 xs xs_headers xs_payloads xs_cover = record {
      free = onto done (Headed j a ∷ back);
      chained = passed_chain done r' p (Headed j a ∷ back) passed_still (out p place_out ∙ f.link, e1, subst (λ x. AreChained r' x back) (sym e2) chain_still);
      payloads = payloads_rev done (Headed j a ∷ back) f.done_payloads (a1, f.back_payloads);
      once = λ w. omega (arith, f.once w, covering_rev w done (Headed j a ∷ back), covers_less w j a s le);
      fits = omega (arith, f.whole, room_rev done (Headed j a ∷ back));
      blocks = xs ++ (live ++ (done ++ back));
      headers = headers_both r' xs (live ++ (done ++ back)) xs_headers (headers_both r' live (done ++ back) headers_still (headers_both r' done back (passed_headers done r' p passed_still) (chain_headers back r' (r (suc j)) chain_still)));
      payloads_of_blocks = payloads_both xs (live ++ (done ++ back)) xs_payloads (payloads_both live (done ++ back) f.live_payloads (payloads_both done back f.done_payloads f.back_payloads));
      cover = λ w. omega (arith, f.once w, xs_cover w, covering_append w xs (live ++ (done ++ back)), covering_append w live (done ++ back), covering_append w done back);
    }
