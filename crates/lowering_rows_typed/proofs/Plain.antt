-- The code of each instruction without lists is typed.
use Rattle.std.proofs.Common.{◌≡◌, ℕ, zero, suc, ◌+◌, ◌*◌, ◌<◌, ◌≤◌, false, List, [], ◌∷◌, ◌++◌, None, Some, length, refl, ap, arith}
use Rattle.std.specs.Prelude.{slice_get, sum}
use Rattle.std.proofs.Math.Path.{subst⁻¹}
use Rattle.wasm_ast.specs.declared.types.ValTy.{ValTy}
use Rattle.wasm_ast.specs.declared.types.ValTy.TheVariants.{I32, I64}
use Rattle.wasm_ast.specs.declared.instructions.WInstr as w
use Rattle.wasm_typing.specs.declared.context.Context.{Context}
use Rattle.wasm_typing.specs.Typing.{AreTyped, Labels}
use Rattle.rich_operators.specs.Operators.{operator_of, takes, Operator, Eqz, Compare, Unary, Binary, Convert}
use Rattle.rw_types.specs.declared.instrs.Instr as i
use Rattle.rw_types.specs.declared.numbers.NumName.{NumName}
use Rattle.rw_types.specs.declared.types.Mem.{Mem}
use Rattle.rw_types.specs.declared.types.Ty.{Ty}
use Rattle.rich_types.specs.Sizes.{list_greatest, size_under}
use Rattle.rich_typing.specs.declared.notes.Note.{Note}
use Rattle.rw_program.specs.declared.linked.LinkedGlobal.{LinkedGlobal}
use Rattle.layout.specs.Bodies.{ends_list}
use Rattle.layout.specs.Calls.{code_results, top_of}
use Rattle.layout.specs.Cells.{slot_offsets}
use Rattle.layout.specs.Frames.{global_words, result_words, taken_words}
use Rattle.layout.specs.Limits.{functions_before}
use Rattle.lowering_rows.specs.Moves.{fetches, moves, store_word, stores}
use Rattle.lowering_rows.specs.Labels.{Label, label_height, label_index}
use Rattle.lowering_rows.specs.Surroundings as around
use Rattle.lowering_rows.specs.Surroundings.{Surroundings, called_results, first_global, first_result, first_scratch, global_place, global_size, local_place, operand_place, place_of_global, words_given_by}
use Rattle.lowering_rows.specs.Taken.{deepest, each_size, element_words, local_size, scope_at, second, slot_offset, slot_value_words, top_height, words_under_top}
use Rattle.lowering_rows.specs.Cells.{deepest_place, exist_pack_code, struct_malloc_code, variant_malloc_code}
use Rattle.lowering_rows.specs.Arrays.{array_malloc_code, fill_elements}
use Rattle.lowering_rows.specs.Plain.{branches, plain_row}
use Rattle.lowering_rows_typed.specs.Contexts.{HasWhatIsNamed, taking_words}
use Rattle.lowering_rows_typed.specs.Names.{AreGlobals, AreLocals, HasRoom, Names, NamesFunction, NamesLabel}
use Rattle.lowering_rows_typed.specs.Laws.{PlainRowsTyped}
use Rattle.lowering_rows_typed.proofs.Steps.{go, joined, stop, t-add, t-br, t-call, t-call_indirect, t-call_one, t-const, t-get, t-if, t-mul, t-nop, t-return, t-set, t-store, t-wrap, words}
use Rattle.lowering_rows_typed.proofs.Moves.{local, t-fetches, t-gets, t-gives, t-loads, t-moves, t-number_code, t-stores, taken_words_are}
use Rattle.lowering_rows_typed.proofs.Cells.{each_summed, t-fill_elements, t-find_element, t-free, t-index_within, t-makes_cell, t-store_slots, t-traps}

-- a global of the program stands behind those of results
not_before : (at : ℕ) (gs : List LinkedGlobal) (n : ℕ) → at ≤ place_of_global at gs n
not_before at [] n = omega arith
not_before at (g ∷ gs) zero = omega arith
not_before at (g ∷ gs) (suc n) = omega (arith, not_before (at + global_words g) gs n)

module _ (s : Surroundings) (C : Context) (has : HasWhatIsNamed s C) where
  global_there : (n : ℕ) → 0 < global_place s n
  global_there n = omega (arith, not_before (first_global s.program) s.program.globals n)

  -- a branch whose Wasm label takes nothing
  branch : (ls : Labels) (labels : List Label) (note : Note) (after : List ValTy) (k index n : ℕ) → HasRoom s (note.beneath + n) → HasRoom s (label_height labels k + n) → slice_get ls index ≡ Some None →
      AreTyped C ls (branches s labels k index n note) [] after
  branch ls labels note after k index n h g there =
      joined C ls (t-moves s C has ls n (deepest_place s note) (operand_place s (label_height labels k)) (omega (arith, h)) (omega (arith, g))) (go C ls (w.Br index) (t-br C ls [] index after there) (stop C ls after))

  module _ (ls : Labels) (labels : List Label) (note : Note) where
    constant : (n : ℕ) → HasRoom s (suc note.beneath) → AreTyped C ls (w.I64Const n ∷ w.LocalSet (deepest_place s note) ∷ []) [] []
    constant n h =
        go C ls (w.I64Const n) (t-const C ls [] n) (go C ls (w.LocalSet (deepest_place s note)) (t-set C ls [] (deepest_place s note) (local s C has (deepest_place s note) (omega (arith, h)))) (stop C ls []))

    nothing : AreTyped C ls (w.Nop ∷ []) [] []
    nothing = go C ls w.Nop (t-nop C ls []) (stop C ls [])

    prints : HasRoom s (suc note.beneath) → AreTyped C ls (w.LocalGet (deepest_place s note) ∷ w.Call 0 ∷ []) [] []
    prints h =
        go C ls (w.LocalGet (deepest_place s note)) (t-get C ls [] (deepest_place s note) (local s C has (deepest_place s note) (omega (arith, h)))) (go C ls (w.Call 0) (t-call_one C ls [] 0 has.prints) (stop C ls []))

    frees : HasRoom s (suc note.beneath) → AreTyped C ls (w.LocalGet (deepest_place s note) ∷ w.Call around.free_function ∷ []) [] []
    frees h = t-free s C has ls (deepest_place s note) (omega (arith, h))

    some_width : (o : Operator) → 1 ≤ length (takes o)
    some_width (Eqz w) = omega arith
    some_width (Compare o w) = omega arith
    some_width (Unary o w) = omega arith
    some_width (Binary o w) = omega arith
    some_width (Convert o) = omega arith

    number : (n : NumName) → HasRoom s (note.beneath + length (takes (operator_of n))) → AreTyped C ls (plain_row s labels (i.Num n) note) [] []
    number n h = t-number_code s C has ls n (deepest_place s note) (omega (arith, h)) (omega (arith, h, some_width (operator_of n)))

    returns : (after : List ValTy) → HasRoom s (note.beneath + taken_words note) → AreGlobals s first_result (taken_words note) → C.result ≡ None → AreTyped C ls (plain_row s labels i.Return note) [] after
    returns after h g r =
        joined C ls (t-gives s C has ls (taken_words note) (deepest_place s note) first_result (omega (arith, h)) (omega arith) g) (go C ls w.Return (t-return C ls [] after r) (stop C ls after))

    gets_local : (n k : ℕ) → HasRoom s (note.beneath + k) → AreLocals s (local_place s n) k → AreTyped C ls (moves k (local_place s n) (deepest_place s note)) [] []
    gets_local n k h g = t-moves s C has ls k (local_place s n) (deepest_place s note) (omega (arith, g, h)) (omega (arith, h))

    sets_local : (n : ℕ) → HasRoom s (note.beneath + taken_words note) → AreLocals s (local_place s n) (taken_words note) → AreTyped C ls (plain_row s labels (i.LocalSet n) note) [] []
    sets_local n h g = t-moves s C has ls (taken_words note) (deepest_place s note) (local_place s n) (omega (arith, h)) (omega (arith, g, h))

    gets_global : (n : ℕ) → HasRoom s (note.beneath + global_size s n) → AreGlobals s (global_place s n) (global_size s n) → AreTyped C ls (plain_row s labels (i.GlobalGet n) note) [] []
    gets_global n h g = t-fetches s C has ls (global_size s n) (global_place s n) (deepest_place s note) (omega (arith, h)) (global_there n) g

    sets_global : (n : ℕ) → HasRoom s (note.beneath + taken_words note) → AreGlobals s (global_place s n) (taken_words note) → AreTyped C ls (plain_row s labels (i.GlobalSet n) note) [] []
    sets_global n h g = t-gives s C has ls (taken_words note) (deepest_place s note) (global_place s n) (omega (arith, h)) (global_there n) g

    results : (k : ℕ) → HasRoom s (note.beneath + k) → AreGlobals s first_result k → AreTyped C ls (fetches k first_result (deepest_place s note)) [] []
    results k h g = t-fetches s C has ls k first_result (deepest_place s note) (omega (arith, h)) (omega arith) g

    calls : (n : ℕ) (arguments : _) → NamesFunction s n note → AreTyped C ls (plain_row s labels (i.Call n arguments) note) [] []
    calls n arguments x =
        let function = subst⁻¹ (λ (k : ℕ). slice_get C.functions (functions_before + n) ≡ Some (taking_words k)) x.taken (has.functions n x.function x.found) in
        let given : called_results s n ≡ result_words x.function = ap words_given_by x.found in
        joined C ls (t-gets s C has ls (taken_words note) (deepest_place s note) [] (omega (arith, x.room)))
        (go C ls (w.Call (functions_before + n)) (t-call C ls [] (functions_before + n) (taken_words note) function (taken_words_are (taken_words note) []))
        (results (called_results s n) (omega (arith, x.given, given)) (omega (arith, x.results, given))))

    calls_top : HasRoom s (suc (top_height note)) → HasRoom s (note.beneath + code_results (scope_at note) (top_of note.taken)) → AreGlobals s first_result (code_results (scope_at note) (top_of note.taken)) →
        slice_get C.types (s.type_of (words_under_top note)) ≡ Some (taking_words (words_under_top note)) → AreTyped C ls (plain_row s labels i.CallIndirect note) [] []
    calls_top h g r there =
        let k = words_under_top note in
        let top = operand_place s (top_height note) in
        joined C ls (t-gets s C has ls k (deepest_place s note) [] (omega (arith, h)))
        (go C ls (w.LocalGet top) (t-get C ls (words k []) top (local s C has top (omega (arith, h))))
        (go C ls w.I32WrapI64 (t-wrap C ls (words k []))
        (go C ls (w.CallIndirect (s.type_of k)) (t-call_indirect C ls [] (s.type_of k) k there has.table (taken_words_are k []))
        (results (code_results (scope_at note) (top_of note.taken)) g r))))

    number_of_words : (n : ℕ) → AreTyped C ls (w.I64Const n ∷ []) [] (I64 ∷ [])
    number_of_words n = go C ls (w.I64Const n) (t-const C ls [] n) (stop C ls (I64 ∷ []))

    makes_struct : (m : Mem) (sizes : List ℕ) → HasRoom s (note.beneath + taken_words note) → HasRoom s (suc note.beneath) → AreTyped C ls (struct_malloc_code s m sizes note) [] []
    makes_struct m sizes h g =
        t-makes_cell s C has ls m (w.I64Const (sum sizes) ∷ []) _ note g (number_of_words (sum sizes))
        (t-store_slots s C has ls (first_scratch s) (deepest_place s note) (each_size (scope_at note) note.taken) (slot_offsets sizes) (omega arith) (omega (arith, h, each_summed (scope_at note) note.taken)))

    makes_variant : (m : Mem) (k : ℕ) (cases : List Ty) → HasRoom s (note.beneath + taken_words note) → HasRoom s (suc note.beneath) → AreTyped C ls (variant_malloc_code s m k cases note) [] []
    makes_variant m k cases h g =
        let scratch = local s C has (first_scratch s) (omega arith) in
        t-makes_cell s C has ls m (w.I64Const (1 + list_greatest (scope_at note) cases) ∷ []) _ note g (number_of_words (1 + list_greatest (scope_at note) cases))
        (go C ls (w.LocalGet (first_scratch s)) (t-get C ls [] (first_scratch s) scratch)
        (go C ls w.I32WrapI64 (t-wrap C ls [])
        (go C ls (w.I64Const k) (t-const C ls (I32 ∷ []) k)
        (go C ls (store_word 0) (t-store C ls [] (8 * 0) has.memory) (t-stores s C has ls (taken_words note) (first_scratch s) 1 (deepest_place s note) (omega arith) (omega (arith, h)))))))

    makes_package : (m : Mem) → HasRoom s (note.beneath + taken_words note) → HasRoom s (suc note.beneath) → AreTyped C ls (exist_pack_code s m note) [] []
    makes_package m h g =
        t-makes_cell s C has ls m (w.I64Const (taken_words note) ∷ []) _ note g (number_of_words (taken_words note))
        (t-stores s C has ls (taken_words note) (first_scratch s) 0 (deepest_place s note) (omega arith) (omega (arith, h)))

    makes_array : (m : Mem) → HasRoom s (suc (top_height note)) → HasRoom s (note.beneath + size_under (scope_at note) (deepest note.taken)) → AreTyped C ls (array_malloc_code s m note) [] []
    makes_array m h g =
        let k = size_under (scope_at note) (deepest note.taken) in
        let top = operand_place s (top_height note) in
        let count : List w.WInstr = w.LocalGet top ∷ w.I64Const k ∷ w.I64Mul ∷ w.I64Const 1 ∷ w.I64Add ∷ [] in
        let t-count : AreTyped C ls count [] (I64 ∷ []) =
        go C ls (w.LocalGet top) (t-get C ls [] top (local s C has top (omega (arith, h))))
        (go C ls (w.I64Const k) (t-const C ls (I64 ∷ []) k) (go C ls w.I64Mul (t-mul C ls []) (go C ls (w.I64Const 1) (t-const C ls (I64 ∷ []) 1) (go C ls w.I64Add (t-add C ls []) (stop C ls (I64 ∷ [])))))) in
        t-makes_cell s C has ls m count (stores 1 (first_scratch s) 0 top ++ fill_elements s k (deepest_place s note) top) note (omega (arith, h)) t-count
        (joined C ls (t-stores s C has ls 1 (first_scratch s) 0 top (omega arith) (omega (arith, h))) (t-fill_elements s C has ls k (deepest_place s note) top (omega (arith, g)) (omega (arith, h))))

    gets_element : HasRoom s (note.beneath + 2) → HasRoom s (suc note.beneath + element_words (scope_at note) (deepest note.taken)) → AreTyped C ls (plain_row s labels i.ArrayGet note) [] []
    gets_element h g =
        let k = element_words (scope_at note) (deepest note.taken) in
        joined C ls (t-index_within s C has ls (deepest_place s note) (omega (arith, h)))
        (joined C ls (t-find_element s C has ls k (deepest_place s note) (omega (arith, h))) (t-loads s C has ls k (first_scratch s) 1 (suc (deepest_place s note)) (omega arith) (omega (arith, g))))

    sets_element : HasRoom s (note.beneath + 2 + element_words (scope_at note) (deepest note.taken)) → AreTyped C ls (plain_row s labels i.ArraySet note) [] []
    sets_element h =
        let k = element_words (scope_at note) (deepest note.taken) in
        joined C ls (t-index_within s C has ls (deepest_place s note) (omega (arith, h)))
        (joined C ls (t-find_element s C has ls k (deepest_place s note) (omega (arith, h))) (t-stores s C has ls k (first_scratch s) 1 (suc (suc (deepest_place s note))) (omega arith) (omega (arith, h))))

    gets_slot : (k : ℕ) → HasRoom s (suc note.beneath + slot_value_words (scope_at note) (deepest note.taken) k) → AreTyped C ls (plain_row s labels (i.StructGet k) note) [] []
    gets_slot k h = t-loads s C has ls (slot_value_words (scope_at note) (deepest note.taken) k) (deepest_place s note) (slot_offset (deepest note.taken) k) (suc (deepest_place s note)) (omega (arith, h)) (omega (arith, h))

    sets_slot : (k : ℕ) → HasRoom s (suc note.beneath + size_under (scope_at note) (second note.taken)) → AreTyped C ls (plain_row s labels (i.StructSet k) note) [] []
    sets_slot k h = t-stores s C has ls (size_under (scope_at note) (second note.taken)) (deepest_place s note) (slot_offset (deepest note.taken) k) (suc (deepest_place s note)) (omega (arith, h)) (omega (arith, h))

    swaps_slot : (k : ℕ) → HasRoom s (suc note.beneath + size_under (scope_at note) (second note.taken) + slot_value_words (scope_at note) (deepest note.taken) k) → AreTyped C ls (plain_row s labels (i.StructSwap k) note) [] []
    swaps_slot k h =
        let old = slot_value_words (scope_at note) (deepest note.taken) k in
        let new = size_under (scope_at note) (second note.taken) in
        let offset = slot_offset (deepest note.taken) k in
        let above = suc (deepest_place s note) in
        joined C ls (t-loads s C has ls old (deepest_place s note) offset (above + new) (omega (arith, h)) (omega (arith, h)))
        (joined C ls (t-stores s C has ls new (deepest_place s note) offset above (omega (arith, h)) (omega (arith, h))) (t-moves s C has ls old (above + new) above (omega (arith, h)) (omega (arith, h))))

    may_branch : (k : ℕ) → HasRoom s (suc (top_height note)) → NamesLabel s C ls labels k (words_under_top note) note → AreTyped C ls (plain_row s labels (i.BrIf k) note) [] []
    may_branch k h l =
        let top = operand_place s (top_height note) in
        let code = branches s labels k (suc (label_index labels k)) (words_under_top note) note in
        let t-code = branch (None ∷ ls) labels note [] k (suc (label_index labels k)) (words_under_top note) (omega (arith, h)) l.0 l.1 in
        go C ls (w.LocalGet top) (t-get C ls [] top (local s C has top (omega (arith, h)))) (go C ls w.I32WrapI64 (t-wrap C ls []) (go C ls (w.If None code) (t-if C ls [] code t-code) (stop C ls [])))

    -- the table
    goes_on : (x : i.Instr) → Names s C ls labels x note → ends_list x ≡ false → AreTyped C ls (plain_row s labels x note) [] []
    goes_on i.Unreachable n e = cc
    goes_on i.Print n e = prints n
    goes_on (i.I32Const k) n e = constant k n
    goes_on (i.I64Const k) n e = constant k n
    goes_on (i.Num name) n e = number name n
    goes_on (i.Br k) n e = cc
    goes_on (i.BrIf k) n e = may_branch k n.0 n.1
    goes_on i.Return n e = cc
    goes_on (i.LocalGet k) n e = gets_local k (local_size (scope_at note) note.local) n.0 n.1
    goes_on (i.LocalTake k) n e = gets_local k (local_size (scope_at note) note.local) n.0 n.1
    goes_on (i.LocalSet k) n e = sets_local k n.0 n.1
    goes_on (i.GlobalGet k) n e = gets_global k n.0 n.1
    goes_on (i.GlobalSet k) n e = sets_global k n.0 n.1
    goes_on (i.Coderef k) n e = constant k n
    goes_on (i.Call k arguments) n e = calls k arguments n
    goes_on i.CallIndirect n e = calls_top n.0 n.1 n.2 n.3
    goes_on (i.StructMalloc m sizes) n e = makes_struct m sizes n.0 n.1
    goes_on i.StructFree n e = frees n
    goes_on (i.StructGet k) n e = gets_slot k n
    goes_on (i.StructSet k) n e = sets_slot k n
    goes_on (i.StructSwap k) n e = swaps_slot k n
    goes_on (i.VariantMalloc m k cases) n e = makes_variant m k cases n.0 n.1
    goes_on (i.ArrayMalloc m) n e = makes_array m n.0 n.1
    goes_on i.ArrayGet n e = gets_element n.0 n.1
    goes_on i.ArraySet n e = sets_element n
    goes_on i.ArrayLen n e = t-loads s C has ls 1 (deepest_place s note) 0 (suc (deepest_place s note)) (omega (arith, n)) (omega (arith, n))
    goes_on i.ArrayFree n e = frees n
    goes_on (i.ExistPack m q size t body) n e = makes_package m n.0 n.1
    goes_on i.Nop n e = nothing
    goes_on i.Drop n e = nothing
    goes_on i.Unit n e = nothing
    goes_on (i.Inst arguments) n e = nothing
    goes_on i.Qualify n e = nothing
    goes_on (i.RecFold t) n e = nothing
    goes_on i.RecUnfold n e = nothing
    goes_on (i.Group k q) n e = nothing
    goes_on i.Ungroup n e = nothing
    goes_on (i.MemPack l t) n e = nothing
    goes_on i.RefSplit n e = nothing
    goes_on i.RefJoin n e = nothing
    goes_on i.CapSplit n e = nothing
    goes_on i.CapJoin n e = nothing
    goes_on _ n e = stop C ls []

pub plain_rows : PlainRowsTyped
plain_rows s C ls labels i.Unreachable note after has n e = t-traps s C has ls 3 after
plain_rows s C ls labels (i.Br k) note after has n e = branch s C has ls labels note after k (label_index labels k) (taken_words note) n.0 n.1.0 n.1.1
plain_rows s C ls labels i.Return note after has n e = returns s C has ls labels note after n.0 n.1 n.2
plain_rows s C ls labels x note after has n e = subst⁻¹ (λ (st : List ValTy). AreTyped C ls (plain_row s labels x note) [] st) (e refl) (goes_on s C has ls labels note x n refl)
