-- Tilings can be read, and readable lists are read.
use Rattle.std.proofs.Common.{◌≡◌, ℕ, zero, suc, ◌-◌, ◌*◌, ◌/◌, ◌%◌, ◌≤◌, Bool, true, false, List, [], ◌∷◌, ◌++◌, Option, Some, None, refl, ap, ◌∙◌, arith}
use Rattle.std.specs.Prelude.{◌&&◌, nat_le, eqb, option_map, if◌then◌else◌}
use Rattle.std.proofs.lemmas.Bool.{le-leb, eq-eqb, ne_eqb}
use Rattle.heap_blocks.specs.Blocks.{Block, Headed, covering, room_of, HavePayloads, AreChained, IsReadable, IsTiled, is_tiled_word}
use Rattle.heap_blocks.specs.FreeLists.{blocks_from, most_blocks}
use Rattle.heap_blocks.specs.Laws.{ReadableIsRead, TiledIsReadable, FreshIsTiled}
use Rattle.heap_blocks.proofs.Lists.{covers_in, covers_left, covers_right, covering_append, payloads_both, headers_both, chain_headers}

pub tiled_readable : (words : ℕ) (r : ℕ → ℕ) (live free : List Block) → IsTiled words r live free → IsReadable words r
tiled_readable words r live free t = record {
  free = free;
  chained = t.chained;
  payloads = t.free_payloads;
  once = λ w. omega (arith, t.once w);
  fits = omega (arith, t.whole);
  blocks = live ++ free;
  headers = headers_both r live free t.headers (chain_headers free r (r 1) t.chained);
  payloads_of_blocks = payloads_both live free t.live_payloads t.free_payloads;
  cover = λ w. covering_append w live free ∙ t.once w;
}

pub tiled_is_readable : TiledIsReadable
unfolding tiled_readable
tiled_is_readable words r live free t = (tiled_readable words r live free t, refl)

pub fresh_is_tiled : FreshIsTiled
fresh_is_tiled words r w4 f = record {
  chained = (f.head, f.header, f.next);
  headers = tt;
  live_payloads = tt;
  free_payloads = (omega (arith, w4), tt);
  once = λ w. omega arith;
  whole = omega (arith, w4);
}

link_of : (words : ℕ) (r : ℕ → ℕ) (most j n : ℕ) (bs : List Block) → 24 ≤ 8 * suc j → 8 * suc j ≤ 8 * words - 8 → r j ≡ n → blocks_from most words r (r (suc j)) ≡ Some bs → blocks_from (suc most) words r (8 * suc j) ≡ Some (Headed j n ∷ bs)
link_of words r most j n bs low high head rest =
    let a = 8 * suc j in
    let by8 : a / 8 ≡ suc j = omega arith in
    let whole : a % 8 ≡ 0 = omega arith in
    let not_end : eqb a 0 ≡ false = ne_eqb a 0 (λ e. omega (arith, e)) in
    let low_one : a / 8 - 1 ≡ j = omega arith in
    let go : Bool → Bool → Bool → Bool → ℕ → ℕ → Option (List Block) =
    λ e b1 b2 b3 k i. if e then Some [] else (if b1 && (b2 && b3) then option_map (λ bs. Headed i (r i) ∷ bs) (blocks_from most words r (r k)) else None) in
    ap (λ e. go e (eqb (a % 8) 0) (nat_le 24 a) (nat_le a (8 * words - 8)) (a / 8) (a / 8 - 1)) not_end
    ∙ ap (λ b. go false b (nat_le 24 a) (nat_le a (8 * words - 8)) (a / 8) (a / 8 - 1)) (eq-eqb (a % 8) 0 whole)
    ∙ ap (λ b. go false true b (nat_le a (8 * words - 8)) (a / 8) (a / 8 - 1)) (le-leb 24 a low)
    ∙ ap (λ b. go false true true b (a / 8) (a / 8 - 1)) (le-leb a (8 * words - 8) high)
    ∙ ap (λ k. go false true true true k (a / 8 - 1)) by8
    ∙ ap (λ i. go false true true true (suc j) i) low_one
    ∙ ap (λ h. option_map (λ bs. Headed j h ∷ bs) (blocks_from most words r (r (suc j)))) head
    ∙ ap (option_map (λ bs. Headed j n ∷ bs)) rest

end_of : (words : ℕ) (r : ℕ → ℕ) (most a : ℕ) → a ≡ 0 → blocks_from most words r a ≡ Some []
end_of words r zero a e = ap (blocks_from zero words r) e
end_of words r (suc most) a e = ap (blocks_from (suc most) words r) e

reads : (words : ℕ) (r : ℕ → ℕ) (most a : ℕ) (bs : List Block) → 3 ≤ words → room_of bs ≤ suc (2 * most) → HavePayloads bs → ((w : ℕ) → covering w bs ≤ is_tiled_word words w) → AreChained r a bs → blocks_from most words r a ≡ Some bs
reads words r most a [] w3 le p once c = end_of words r most a c
reads words r zero a (Headed j n ∷ bs) w3 le p once c = absurd (omega (arith, le, p.0))
reads words r (suc most) a (Headed j n ∷ bs) w3 le p once c =
    let low = covers_left j 2 (words - 3) (omega (arith, once j, covers_in j j n (omega arith) (omega arith))) in
    let high = covers_right (suc j) 2 (words - 3) (omega (arith, once (suc j), covers_in (suc j) j n (omega arith) (omega (arith, p.0)))) in
    let rest = reads words r most (r (suc j)) bs w3 (omega (arith, le, p.0)) p.1 (λ w. omega (arith, once w)) c.2 in
    ap (blocks_from (suc most) words r) c.0 ∙ link_of words r most j n bs (omega (arith, low)) (omega (arith, high, w3)) c.1 rest

pub readable_is_read : ReadableIsRead
readable_is_read words r w3 h = reads words r (most_blocks words) (r 1) h.free w3 (omega (arith, h.fits)) h.payloads h.once h.chained
