-- The codes of instructions on cells are typed.
use Rattle.std.proofs.Common.{◌≡◌, ℕ, zero, suc, ◌+◌, ◌*◌, ◌<◌, ◌≤◌, List, [], ◌∷◌, ◌++◌, None, refl, arith}
use Rattle.std.specs.Prelude.{sum}
use Rattle.std.proofs.lemmas.List.Sums.{sum_by-cons}
use Rattle.wasm_ast.specs.declared.types.ValTy.{ValTy}
use Rattle.wasm_ast.specs.declared.types.ValTy.TheVariants.{I32, I64}
use Rattle.wasm_ast.specs.declared.instructions.WInstr as w
use Rattle.wasm_typing.specs.declared.context.Context.{Context}
use Rattle.wasm_typing.specs.Typing.{AreTyped, Labels}
use Rattle.rw_types.specs.declared.types.Mem.{Mem}
use Rattle.rw_types.specs.declared.types.Ty.{Ty}
use Rattle.rich_types.specs.Scopes.{Scope}
use Rattle.rich_types.specs.Sizes.{list_size, size_under}
use Rattle.rich_typing.specs.declared.notes.Note.{Note}
use Rattle.lowering_rows.specs.Moves.{load_word, store_word}
use Rattle.lowering_rows.specs.Surroundings.{Surroundings, allocator, first_scratch, free_function, second_scratch}
use Rattle.lowering_rows.specs.Taken.{each_size}
use Rattle.lowering_rows.specs.Cells.{deepest_place, makes_cell, store_slots}
use Rattle.lowering_rows.specs.Arrays.{add_elements, fill_elements, find_element, index_within, store_element}
use Rattle.lowering_rows_typed.specs.Contexts.{HasWhatIsNamed}
use Rattle.lowering_rows_typed.specs.Names.{HasRoom}
use Rattle.lowering_rows_typed.proofs.Steps.{go, joined, stop, t-add, t-allocate, t-block, t-br, t-br_if, t-call_one, t-const, t-const32, t-geu, t-get, t-give32, t-if, t-load, t-loop, t-mul, t-set, t-store, t-unreachable, t-wrap}
use Rattle.lowering_rows_typed.proofs.Moves.{local, t-stores}

sum-cons : (n : ℕ) (ns : List ℕ) → sum (n ∷ ns) ≡ n + sum ns
sum-cons n ns = sum_by-cons (λ x. x) n ns

pub each_summed : (c : Scope) (ts : List Ty) → sum (each_size c ts) ≡ list_size c ts
each_summed c [] = refl
each_summed c (t ∷ ts) = omega (arith, sum-cons (size_under c t) (each_size c ts), each_summed c ts)

module _ (s : Surroundings) (C : Context) (has : HasWhatIsNamed s C) where
  module _ (ls : Labels) where
    pub t-store_slots : (base from : ℕ) (sizes offsets : List ℕ) → base < first_scratch s + 2 → from + sum sizes ≤ first_scratch s + 2 → AreTyped C ls (store_slots base from sizes offsets) [] []
    t-store_slots base from [] offsets b h = stop C ls []
    t-store_slots base from (n ∷ sizes) [] b h = stop C ls []
    t-store_slots base from (n ∷ sizes) (offset ∷ offsets) b h =
        joined C ls (t-stores s C has ls n base offset from b (omega (arith, h, sum-cons n sizes))) (t-store_slots base (from + n) sizes offsets b (omega (arith, h, sum-cons n sizes)))

    pub t-makes_cell : (m : Mem) (count fill : List w.WInstr) (note : Note) → HasRoom s (suc note.beneath) → AreTyped C ls count [] (I64 ∷ []) → AreTyped C ls fill [] [] → AreTyped C ls (makes_cell s m count fill note) [] []
    t-makes_cell m count fill note h c f =
        let scratch = local s C has (first_scratch s) (omega arith) in
        joined C ls c
        (go C ls (w.Call (allocator m)) (t-allocate C ls [] (allocator m) (has.allocates m))
        (go C ls (w.LocalSet (first_scratch s)) (t-set C ls [] (first_scratch s) scratch)
        (joined C ls f
        (go C ls (w.LocalGet (first_scratch s)) (t-get C ls [] (first_scratch s) scratch)
        (go C ls (w.LocalSet (deepest_place s note)) (t-set C ls [] (deepest_place s note) (local s C has (deepest_place s note) (omega (arith, h)))) (stop C ls []))))))

    pub t-free : (place : ℕ) → place < first_scratch s + 2 → AreTyped C ls (w.LocalGet place ∷ w.Call free_function ∷ []) [] []
    t-free place h = go C ls (w.LocalGet place) (t-get C ls [] place (local s C has place h)) (go C ls (w.Call free_function) (t-call_one C ls [] free_function has.frees) (stop C ls []))

    pub t-add_elements : (k : ℕ) → AreTyped C ls (add_elements k) (I64 ∷ I64 ∷ []) (I64 ∷ [])
    t-add_elements k = go C ls (w.I64Const (8 * k)) (t-const C ls (I64 ∷ I64 ∷ []) (8 * k)) (go C ls w.I64Mul (t-mul C ls (I64 ∷ [])) (go C ls w.I64Add (t-add C ls []) (stop C ls (I64 ∷ []))))

    pub t-store_element : (k n word from : ℕ) → from + n ≤ first_scratch s + 2 → AreTyped C ls (store_element s k n word from) [] []
    t-store_element k zero word from h = stop C ls []
    t-store_element k (suc n) word from h =
        go C ls (w.LocalGet (first_scratch s)) (t-get C ls [] (first_scratch s) (local s C has (first_scratch s) (omega arith)))
        (go C ls (w.LocalGet (second_scratch s)) (t-get C ls (I64 ∷ []) (second_scratch s) (local s C has (second_scratch s) (omega arith)))
        (joined C ls (t-add_elements k)
        (go C ls w.I32WrapI64 (t-wrap C ls [])
        (go C ls (w.LocalGet from) (t-get C ls (I32 ∷ []) from (local s C has from (omega (arith, h))))
        (go C ls (store_word (1 + word)) (t-store C ls [] (8 * (1 + word)) has.memory) (t-store_element k n (suc word) (suc from) (omega (arith, h))))))))

    pub t-find_element : (k reference : ℕ) → reference + 2 ≤ first_scratch s + 2 → AreTyped C ls (find_element s k reference) [] []
    t-find_element k reference h =
        go C ls (w.LocalGet reference) (t-get C ls [] reference (local s C has reference (omega (arith, h))))
        (go C ls (w.LocalGet (suc reference)) (t-get C ls (I64 ∷ []) (suc reference) (local s C has (suc reference) (omega (arith, h))))
        (joined C ls (t-add_elements k) (go C ls (w.LocalSet (first_scratch s)) (t-set C ls [] (first_scratch s) (local s C has (first_scratch s) (omega arith))) (stop C ls []))))

    -- a trap behind its code
    pub t-traps : (code : ℕ) (after : List ValTy) → AreTyped C ls (w.I32Const code ∷ w.GlobalSet 0 ∷ w.Unreachable ∷ []) [] after
    t-traps code after =
        go C ls (w.I32Const code) (t-const32 C ls [] code) (go C ls (w.GlobalSet 0) (t-give32 C ls [] 0 has.trap_code) (go C ls w.Unreachable (t-unreachable C ls [] after) (stop C ls after)))

  module _ (ls : Labels) where
    pub t-index_within : (reference : ℕ) → reference + 2 ≤ first_scratch s + 2 → AreTyped C ls (index_within reference) [] []
    t-index_within reference h =
        go C ls (w.LocalGet (suc reference)) (t-get C ls [] (suc reference) (local s C has (suc reference) (omega (arith, h))))
        (go C ls (w.LocalGet reference) (t-get C ls (I64 ∷ []) reference (local s C has reference (omega (arith, h))))
        (go C ls w.I32WrapI64 (t-wrap C ls (I64 ∷ []))
        (go C ls (load_word 0) (t-load C ls (I64 ∷ []) (8 * 0) has.memory)
        (go C ls w.I64GeU (t-geu C ls [])
        (go C ls (w.If None (w.I32Const 2 ∷ w.GlobalSet 0 ∷ w.Unreachable ∷ [])) (t-if C ls [] (w.I32Const 2 ∷ w.GlobalSet 0 ∷ w.Unreachable ∷ []) (t-traps (None ∷ ls) 2 [])) (stop C ls []))))))

    pub t-fill_elements : (k from length : ℕ) → from + k ≤ first_scratch s + 2 → length < first_scratch s + 2 → AreTyped C ls (fill_elements s k from length) [] []
    t-fill_elements k from length h g =
        let second = local s C has (second_scratch s) (omega arith) in
        let end : List w.WInstr = w.LocalGet (second_scratch s) ∷ w.I64Const 1 ∷ w.I64Add ∷ w.LocalSet (second_scratch s) ∷ w.Br 0 ∷ [] in
        let body : List w.WInstr = w.LocalGet (second_scratch s) ∷ w.LocalGet length ∷ w.I64GeU ∷ w.BrIf 1 ∷ (store_element s k k 0 from ++ end) in
        let inner : Labels = None ∷ None ∷ ls in
        let t-end : AreTyped C inner end [] [] =
        go C inner (w.LocalGet (second_scratch s)) (t-get C inner [] (second_scratch s) second)
        (go C inner (w.I64Const 1) (t-const C inner (I64 ∷ []) 1)
        (go C inner w.I64Add (t-add C inner [])
        (go C inner (w.LocalSet (second_scratch s)) (t-set C inner [] (second_scratch s) second)
        (go C inner (w.Br 0) (t-br C inner [] 0 [] refl) (stop C inner []))))) in
        let t-body : AreTyped C inner body [] [] =
        go C inner (w.LocalGet (second_scratch s)) (t-get C inner [] (second_scratch s) second)
        (go C inner (w.LocalGet length) (t-get C inner (I64 ∷ []) length (local s C has length g))
        (go C inner w.I64GeU (t-geu C inner [])
        (go C inner (w.BrIf 1) (t-br_if C inner [] 1 refl) (joined C inner (t-store_element inner k k 0 from h) t-end)))) in
        go C ls (w.I64Const 0) (t-const C ls [] 0)
        (go C ls (w.LocalSet (second_scratch s)) (t-set C ls [] (second_scratch s) second)
        (go C ls (w.Block None (w.Loop None body ∷ []))
        (t-block C ls [] (w.Loop None body ∷ []) (go C (None ∷ ls) (w.Loop None body) (t-loop C (None ∷ ls) [] body t-body) (stop C (None ∷ ls) []))) (stop C ls [])))
