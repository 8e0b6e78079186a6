-- The rows, computed.
use Rattle.std.proofs.Common.{◌≡◌, zero, suc, ◌+◌, ◌*◌, ◌≤◌, List, [], ◌∷◌, ◌++◌, Some, inl, inr, ⊎_elim, slice_get, refl, sym, ap, ◌∙◌, arith}
use Rattle.memory_words.specs.Memories.{put, read, write, word}
use Rattle.wasm_ast.specs.declared.instructions.WInstr.{out-WInstr}
use Rattle.wasm_ast.specs.declared.instructions.WInstr.TheBlock
use Rattle.heap_events.specs.Events.{HeapEvent, Alloc, Free, Grant, Touch}
use Rattle.heap_events.specs.Heaps.{Extent, grants_of, IsLive, IsGranted, AreApart}
use Rattle.heap_events.specs.Safety.{IsSafeAfter, IsMemorySafe, IsInside}
use Rattle.heap_events.specs.Rows.{extent, WorkedBlocks, WorkedCalls, WorkedRun, WorkedSafety}
use Rattle.heap_events.proofs.Places.{each_none, each_more}

pub worked_blocks : WorkedBlocks
worked_blocks = record { again = refl; grants = refl }

pub worked_calls : WorkedCalls
worked_calls = record { running = λ s. refl; least = λ s. refl; entry = λ s. refl }

pub worked_run : WorkedRun
unfolding out-WInstr denote.Hole.Carrier.out TheBlock.shape-the_row-WInstr-0 TheBlock.shown-the_row-WInstr-0 TheBlock.hidden-the_row-WInstr-0 denote.Hole.Carrier.hidden denote.Hole.Carrier.shown put read write word
worked_run = record { events = refl; ended = refl; honest = inl (refl, record { free = _; read = refl; smaller = (omega arith, (omega arith, (omega arith, tt))) }) }

abbrev After : List HeapEvent → HeapEvent → Type 0
After before e = IsSafeAfter 1 1 before e

none_granted : (es : List HeapEvent) (x y : Extent) → grants_of es ≡ [] → IsGranted es y → AreApart y x
none_granted es x y e (n, q) = let g : slice_get [] n ≡ Some y = sym (ap (λ (l : List Extent). slice_get l n) e) ∙ q in absurd cc

safe : IsMemorySafe 1 1 (Alloc 24 2 ∷ Touch 32 8 ∷ Free 24 ∷ Alloc 24 1 ∷ Touch 24 8 ∷ Grant 65536 2 ∷ Touch 65544 8 ∷ [])
safe =
    let a = each_more After [] (Alloc 24 2) (each_none After) tt in
    let first : IsInside (Alloc 24 2 ∷ []) 32 8 = record { extent = extent 24 2; given = inl (0, refl); lies = record { from = omega arith; to = omega arith } } in
    let b = each_more After (Alloc 24 2 ∷ []) (Touch 32 8) a first in
    let c = each_more After (Alloc 24 2 ∷ Touch 32 8 ∷ []) (Free 24) b (2, (0, refl)) in
    let d = each_more After (Alloc 24 2 ∷ Touch 32 8 ∷ Free 24 ∷ []) (Alloc 24 1) c tt in
    let second : IsInside (Alloc 24 2 ∷ Touch 32 8 ∷ Free 24 ∷ Alloc 24 1 ∷ []) 24 8 = record { extent = extent 24 1; given = inl (1, refl); lies = record { from = omega arith; to = omega arith } } in
    let f = each_more After (Alloc 24 2 ∷ Touch 32 8 ∷ Free 24 ∷ Alloc 24 1 ∷ []) (Touch 24 8) d second in
    let before = Alloc 24 2 ∷ Touch 32 8 ∷ Free 24 ∷ Alloc 24 1 ∷ Touch 24 8 ∷ [] in
    let g = each_more After before (Grant 65536 2) f (record { from = omega arith; to = omega arith; apart = λ y h. none_granted before (extent 65536 2) y refl h }) in
    let third : IsInside (before ++ (Grant 65536 2 ∷ [])) 65544 8 = record { extent = extent 65536 2; given = inr (0, refl); lies = record { from = omega arith; to = omega arith } } in
    each_more After (before ++ (Grant 65536 2 ∷ [])) (Touch 65544 8) g third

-- a block that was taken back is not live
not_live : (x : Extent) → IsLive (Alloc 24 2 ∷ Free 24 ∷ []) x → ⊥
not_live x (zero, q) = absurd cc
not_live x (suc n, q) = absurd cc

one_live : (x : Extent) → IsLive (Alloc 24 2 ∷ []) x → x ≡ extent 24 2
one_live x (zero, q) = cc
one_live x (suc n, q) = absurd cc

not_granted : (x : Extent) → IsGranted (Alloc 24 2 ∷ []) x → ⊥
not_granted x (n, q) = absurd cc

freed_twice : IsMemorySafe 1 1 (Alloc 24 2 ∷ Free 24 ∷ Free 24 ∷ []) → ⊥
freed_twice h = let b = h (Alloc 24 2 ∷ Free 24 ∷ []) [] (Free 24) refl in not_live (extent 24 b.0) b.1

touched_late : IsMemorySafe 1 1 (Alloc 24 2 ∷ Free 24 ∷ Touch 24 8 ∷ []) → ⊥
touched_late h =
    let i = h (Alloc 24 2 ∷ Free 24 ∷ []) [] (Touch 24 8) refl in
    ⊎_elim (λ l. not_live i.extent l) (λ g. not_granted_late i.extent g) i.given
  where
    not_granted_late : (x : Extent) → IsGranted (Alloc 24 2 ∷ Free 24 ∷ []) x → ⊥
    not_granted_late x (n, q) = absurd cc

touched_past : IsMemorySafe 1 1 (Alloc 24 2 ∷ Touch 36 8 ∷ []) → ⊥
touched_past h =
    let i = h (Alloc 24 2 ∷ []) [] (Touch 36 8) refl in
    ⊎_elim (λ l. far i.extent (one_live i.extent l) i.lies.to) (λ g. not_granted i.extent g) i.given
  where
    far : (x : Extent) → x ≡ extent 24 2 → 36 + 8 ≤ x.address + 8 * x.words → ⊥
    far x e le =
        let a : x.address ≡ 24 = ap (λ (y : Extent). y.address) e in
        let n : x.words ≡ 2 = ap (λ (y : Extent). y.words) e in
        absurd (omega (arith, a, n, le))

overlapping : IsMemorySafe 1 1 (Grant 65536 2 ∷ Grant 65544 2 ∷ []) → ⊥
overlapping h =
    let g = h (Grant 65536 2 ∷ []) [] (Grant 65544 2) refl in
    ⊎_elim (λ (l : 65536 + 8 * 2 ≤ 65544). absurd (omega arith)) (λ (r : 65544 + 8 * 2 ≤ 65536). absurd (omega arith)) (g.apart (extent 65536 2) (0, refl))

past_region : IsMemorySafe 1 1 (Grant 131064 2 ∷ []) → ⊥
past_region h = let g = h [] [] (Grant 131064 2) refl in let le : 131064 + 8 * 2 ≤ 131072 = g.to in absurd (omega arith)

pub worked_safety : WorkedSafety
worked_safety = record {
  safe = safe;
  freed_twice = freed_twice;
  touched_late = touched_late;
  touched_past = touched_past;
  overlapping = overlapping;
  past_region = past_region;
}
