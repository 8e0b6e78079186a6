-- What is read from the bytes is the free list by words.
use Rattle.std.proofs.Common.{◌≡◌, ◌∙◌, ℕ, zero, suc, ◌-◌, ◌*◌, ◌/◌, ◌%◌, Bool, true, false, List, [], ◌∷◌, refl, ap, subst, arith}
use Rattle.std.specs.Prelude.{◌&&◌, ◌==◌, nat_le, if◌then◌else◌, map, Option, Some, None, Result, Ok, Err, option_map}
use Rattle.std.proofs.lemmas.Bool.{and_parts, eqb-true, leb-true}
use Rattle.memory_words.specs.Memories.{read, word}
use Rattle.memory_words.proofs.Words.{word_is}
use Rattle.heap_blocks.specs.Blocks.{Block}
use Rattle.heap_blocks.specs.FreeLists.{is_link, block_at, blocks_from, most_blocks, free_list}
use Rattle.heap_blocks.proofs.Readings.{readable_is_read, tiled_is_readable}
use Rattle.allocator_contract.specs.Heaps.{linear_words}
use Rattle.free_view.specs.Views.{Hole, BrokenList, word_at, hole_at, most_holes, before, holes_from, free_view}
use Rattle.free_view.specs.Laws.{hole_of, AreHolesOf, ViewsAreFreeLists, ReadableIsViewed, HeapIsViewed, AllocatorsKeepViews}

ended : (b : Bool) (broken : BrokenList) → AreHolesOf (if b then Some [] else None) (if b then Ok [] else Err broken)
ended true broken = refl
ended false broken = tt

more : (b : Block) (h : Hole) (o : Option (List Block)) (r : Result (List Hole) BrokenList) → h ≡ hole_of b → AreHolesOf o r → AreHolesOf (option_map (λ bs. b ∷ bs) o) (before h r)
more b h (Some bs) (Ok hs) e k = λ i. e i ∷ k i
more b h (Some bs) (Err x) e k = absurd k
more b h None (Ok hs) e k = absurd k
more b h None (Err x) e k = tt

chosen : (c d : Bool) (o : Option (List Block)) (r : Result (List Hole) BrokenList) (broken : BrokenList) → (d ≡ true → AreHolesOf o r)
    → AreHolesOf (if c then Some [] else (if d then o else None)) (if c then Ok [] else (if d then r else Err broken))
chosen true d o r broken h = refl
chosen false true o r broken h = h refl
chosen false false o r broken h = tt

module _ (words : ℕ) (memory : List ℕ) where
  block_there : (w : ℕ) → is_link words w ≡ true → (8 * (w / 8) ≡ w) × (hole_at memory w ≡ hole_of (block_at (word memory) w))
  block_there w q =
      let p = and_parts (w % 8 == 0) (nat_le 24 w && nat_le w (8 * words - 8)) q in
      let by8 = eqb-true (w % 8) 0 p.0 in
      let low = leb-true 24 w (and_parts (nat_le 24 w) (nat_le w (8 * words - 8)) p.1).0 in
      let at : w ≡ 8 * suc (w / 8 - 1) = omega (arith, by8, low) in
      let header : 8 * (w / 8 - 1) ≡ w - 8 = omega (arith, by8, low) in
      let size : read 8 memory (w - 8) ≡ word memory (w / 8 - 1) = word_is memory (w / 8 - 1) (w - 8) header in
      (omega (arith, by8), λ i. record { at = at i; words = size i })

  matches : (most at : ℕ) → AreHolesOf (blocks_from most words (word memory) (word_at memory at)) (holes_from most 16 (8 * words) memory at)
  matches zero at = ended (word_at memory at == 0) (record { at = at; word = word_at memory at })
  matches (suc most) at =
      let w = word_at memory at in
      chosen (w == 0) (is_link words w) (option_map (λ bs. block_at (word memory) w ∷ bs) (blocks_from most words (word memory) (word memory (w / 8)))) (before (hole_at memory w) (holes_from most 16 (8 * words) memory w))
      (record { at = at; word = w })
      (λ q.
      let t = block_there w q in
      more (block_at (word memory) w) (hole_at memory w) (blocks_from most words (word memory) (word memory (w / 8))) (holes_from most 16 (8 * words) memory w) t.1
      (subst (λ (x : ℕ). AreHolesOf (blocks_from most words (word memory) x) (holes_from most 16 (8 * words) memory w)) (word_is memory (w / 8) w t.0) (matches most w)))

pub views_are : ViewsAreFreeLists
views_are words memory =
    let most : most_blocks words ≡ most_holes 16 (8 * words) = omega arith in
    subst (λ (n : ℕ). AreHolesOf (free_list words (word memory)) (holes_from n 16 (8 * words) memory 8)) most
    (subst (λ (x : ℕ). AreHolesOf (blocks_from (most_blocks words) words (word memory) x) (holes_from (most_blocks words) 16 (8 * words) memory 8)) (word_is memory 1 8 refl) (matches words memory (most_blocks words) 8))

holes_are : (bs : List Block) (r : Result (List Hole) BrokenList) → AreHolesOf (Some bs) r → r ≡ Ok (map hole_of bs)
holes_are bs (Ok hs) e = ap Ok e
holes_are bs (Err x) e = absurd e

viewed : (words : ℕ) (memory : List ℕ) (bs : List Block) → free_list words (word memory) ≡ Some bs → free_view 16 (8 * words) memory ≡ Ok (map hole_of bs)
viewed words memory bs q = holes_are bs (free_view 16 (8 * words) memory) (subst (λ (o : Option (List Block)). AreHolesOf o (free_view 16 (8 * words) memory)) q (views_are words memory))

pub readable_is_viewed : ReadableIsViewed
readable_is_viewed words memory w3 h = viewed words memory h.free (readable_is_read words (word memory) w3 h)

bytes_of : (linear : ℕ) → 8 * linear_words linear ≡ 65536 * linear
bytes_of linear = omega arith

pub heap_is_viewed : HeapIsViewed
heap_is_viewed linear unrestricted next s live free h =
    let words = linear_words linear in
    let t = tiled_is_readable words (word s.memory) live free h.tiled in
    subst (λ (n : ℕ). free_view 16 n s.memory ≡ Ok (map hole_of free)) (bytes_of linear)
    (readable_is_viewed words s.memory (omega (arith, h.some)) t.0 ∙ ap (λ (bs : List Block). Ok (map hole_of bs)) t.1)

pub allocators_keep_views : AllocatorsKeepViews
allocators_keep_views linear c some h =
    (map hole_of h.free, subst (λ (n : ℕ). free_view 16 n c.store.memory ≡ Ok (map hole_of h.free)) (bytes_of linear) (readable_is_viewed (linear_words linear) c.store.memory (omega (arith, some)) h))
