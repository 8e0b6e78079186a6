-- How deep the code of lists nests.
use Rattle.std.proofs.Common.{◌≡◌, ℕ, zero, suc, ◌+◌, ◌*◌, ◌≤◌, Bool, true, false, List, [], ◌∷◌, ◌++◌, None, refl, arith}
use Rattle.std.specs.Prelude.{drop, sum}
use Rattle.wasm_ast.specs.declared.instructions.WInstr as w
use Rattle.wasm_grammar.specs.Nesting.{greatest, nesting}
use Rattle.rw_types.specs.declared.instrs.Instr as i
use Rattle.rw_types.specs.declared.instrs.Instr.{Instr, Block', Loop', If', MemUnpack', VariantCase', ExistUnpack', Row_of-Instr, end_of-Instr, more_of-Instr, Row_of-Instr-VariantCase-1-1, end_of-Instr-VariantCase-1-1, more_of-Instr-VariantCase-1-1}
use Rattle.rw_types.specs.declared.numbers.NumName.TheVariants as name
use Rattle.rw_types.specs.declared.types.Mem.{Mem}
use Rattle.rich_types.specs.Sizes.{list_greatest, size_under}
use Rattle.rich_typing.specs.declared.notes.Note.{Note}
use Rattle.rw_program.specs.declared.linked.LinkedGlobal.{LinkedGlobal}
use Rattle.layout.specs.Bodies.{nested_count, row_count}
use Rattle.layout.specs.Calls.{code_results, top_of}
use Rattle.layout.specs.Cells.{slot_offsets}
use Rattle.layout.specs.Frames.{end_words, global_words, taken_words}
use Rattle.layout.specs.Limits.{functions_before}
use Rattle.lowering_rows.specs.Moves.{fetches, gets, gives, loads, moves, stores}
use Rattle.lowering_rows.specs.Surroundings.{Surroundings, allocator, called_results, first_global, first_result, first_scratch, free_function, global_place, global_size, in_function, in_initialiser, local_place, operand_place, second_scratch}
use Rattle.lowering_rows.specs.Labels.{Label, case_label, label_height, label_index, plain_label}
use Rattle.lowering_rows.specs.Taken.{body_words, case_words, deepest, each_size, element_words, is_linear_reference, local_size, scope_at, second, slot_offset, slot_value_words, top_height, words_under_top}
use Rattle.lowering_rows.specs.Cells.{deepest_place, makes_cell, store_slots}
use Rattle.lowering_rows.specs.Arrays.{fill_elements, find_element, index_within, store_element}
use Rattle.lowering_rows.specs.Plain.{branches, plain_row}
use Rattle.lowering_rows.specs.Rows.{arms_code, case_arm, freed, keeps_reference, row, row_code, rows, takes_content}
use Rattle.lowering_rows.specs.Functions.{initialisers}
use Rattle.lowering_bounds.specs.Depths.{depth, row_depth, rows_depth, AreWithinDepth}
use Rattle.lowering_bounds.specs.Laws.{FunctionsNest, ListsNest, StartsNest}
use Rattle.lowering_bounds.proofs.Flat.{flat-fetches, flat-gets, flat-gives, flat-loads, flat-moves, flat-number_code, flat-stores, greatest-append, nesting-Block, nesting-Br, nesting-BrIf, nesting-Call, nesting-CallIndirect, nesting-GlobalGet, nesting-GlobalSet, nesting-I32Const, nesting-I64Const, nesting-I64Load, nesting-I64Store, nesting-If, nesting-IfElse, nesting-LocalGet, nesting-LocalSet, nesting-Loop, nesting-Nop, nesting-Return, nesting-Unreachable, nesting-number}

flat-store_slots : (base from : ℕ) (words offsets : List ℕ) → greatest nesting (store_slots base from words offsets) ≡ 0
flat-store_slots base from [] offsets = refl
flat-store_slots base from (n ∷ words) [] = refl
flat-store_slots base from (n ∷ words) (offset ∷ offsets) =
    omega (arith, greatest-append (stores n base offset from) (store_slots base (from + n) words offsets), flat-stores n base offset from, flat-store_slots base (from + n) words offsets)

module _ (s : Surroundings) where
  makes_nest : (m : Mem) (count fill : List w.WInstr) (note : Note) → greatest nesting count ≡ 0 → greatest nesting fill ≤ 2 → greatest nesting (makes_cell s m count fill note) ≤ 2
  makes_nest m count fill note c f =
      let end : List w.WInstr = w.LocalGet (first_scratch s) ∷ w.LocalSet (deepest_place s note) ∷ [] in
      omega (
        arith,
        greatest-append count (w.Call (allocator m) ∷ w.LocalSet (first_scratch s) ∷ (fill ++ end)),
        greatest-append fill end,
        c,
        f,
        nesting-Call (allocator m),
        nesting-LocalSet (first_scratch s),
        nesting-LocalGet (first_scratch s),
        nesting-LocalSet (deepest_place s note),
      )

  flat-store_element : (k n word from : ℕ) → greatest nesting (store_element s k n word from) ≡ 0
  flat-store_element k zero word from = refl
  flat-store_element k (suc n) word from =
      omega (
        arith,
        nesting-LocalGet (first_scratch s),
        nesting-LocalGet (second_scratch s),
        nesting-I64Const (8 * k),
        nesting-number name.I64Mul,
        nesting-number name.I64Add,
        nesting-number name.I32WrapI64,
        nesting-LocalGet from,
        nesting-I64Store 3 (8 * (1 + word)),
        flat-store_element k n (suc word) (suc from),
      )

  fill_nests : (k from length : ℕ) → greatest nesting (fill_elements s k from length) ≤ 2
  fill_nests k from length =
      let end : List w.WInstr = w.LocalGet (second_scratch s) ∷ w.I64Const 1 ∷ w.I64Add ∷ w.LocalSet (second_scratch s) ∷ w.Br 0 ∷ [] in
      let inner : List w.WInstr = w.LocalGet (second_scratch s) ∷ w.LocalGet length ∷ w.I64GeU ∷ w.BrIf 1 ∷ (store_element s k k 0 from ++ end) in
      omega (
        arith,
        nesting-I64Const 0,
        nesting-I64Const 1,
        nesting-LocalSet (second_scratch s),
        nesting-LocalGet (second_scratch s),
        nesting-LocalGet length,
        nesting-number name.I64GeU,
        nesting-number name.I64Add,
        nesting-BrIf 1,
        nesting-Br 0,
        greatest-append (store_element s k k 0 from) end,
        flat-store_element k k 0 from,
        nesting-Block (w.Loop None inner ∷ []),
        nesting-Loop inner,
      )

  index_nests : (reference : ℕ) (rest : List w.WInstr) → greatest nesting rest ≡ 0 → greatest nesting (index_within reference ++ rest) ≤ 2
  index_nests reference rest h =
      omega (
        arith,
        h,
        nesting-LocalGet (suc reference),
        nesting-LocalGet reference,
        nesting-number name.I32WrapI64,
        nesting-I64Load 3 0,
        nesting-number name.I64GeU,
        nesting-If (w.I32Const 2 ∷ w.GlobalSet 0 ∷ w.Unreachable ∷ []),
        nesting-I32Const 2,
        nesting-GlobalSet 0,
        nesting-Unreachable,
      )

  flat-find_element : (k reference : ℕ) (rest : List w.WInstr) → greatest nesting rest ≡ 0 → greatest nesting (find_element s k reference ++ rest) ≡ 0
  flat-find_element k reference rest h =
      omega (arith, h, nesting-LocalGet reference, nesting-LocalGet (suc reference), nesting-I64Const (8 * k), nesting-number name.I64Mul, nesting-number name.I64Add, nesting-LocalSet (first_scratch s))

  flat-branches : (labels : List Label) (k index words : ℕ) (note : Note) → greatest nesting (branches s labels k index words note) ≡ 0
  flat-branches labels k index words note =
      let list = moves words (deepest_place s note) (operand_place s (label_height labels k)) in
      omega (arith, greatest-append list (w.Br index ∷ []), flat-moves words (deepest_place s note) (operand_place s (label_height labels k)), nesting-Br index)

  constant_nests : (n : ℕ) (note : Note) → greatest nesting (w.I64Const n ∷ w.LocalSet (deepest_place s note) ∷ []) ≤ 2
  constant_nests n note = omega (arith, nesting-I64Const n, nesting-LocalSet (deepest_place s note))

  free_nests : (note : Note) → greatest nesting (w.LocalGet (deepest_place s note) ∷ w.Call free_function ∷ []) ≤ 2
  free_nests note = omega (arith, nesting-LocalGet (deepest_place s note), nesting-Call free_function)

  erased_nests : greatest nesting (w.Nop ∷ []) ≤ 2
  erased_nests = omega (arith, nesting-Nop)

  flat_within : (l : List w.WInstr) → greatest nesting l ≡ 0 → greatest nesting l ≤ 2
  flat_within l h = omega (arith, h)

  flat-append : (xs ys : List w.WInstr) → greatest nesting xs ≡ 0 → greatest nesting ys ≡ 0 → greatest nesting (xs ++ ys) ≡ 0
  flat-append xs ys x y = omega (arith, x, y, greatest-append xs ys)

  br_if_nests : (labels : List Label) (k : ℕ) (note : Note) → greatest nesting (plain_row s labels (i.BrIf k) note) ≤ 2
  br_if_nests labels k note =
      omega (
        arith,
        nesting-LocalGet (operand_place s (top_height note)),
        nesting-number name.I32WrapI64,
        nesting-If (branches s labels k (suc (label_index labels k)) (words_under_top note) note),
        flat-branches labels k (suc (label_index labels k)) (words_under_top note) note,
      )

  call_nests : (labels : List Label) (n : ℕ) (note : Note) (arguments : _) → greatest nesting (plain_row s labels (i.Call n arguments) note) ≤ 2
  call_nests labels n note arguments =
      omega (
        arith,
        greatest-append (gets (taken_words note) (deepest_place s note)) (w.Call (functions_before + n) ∷ fetches (called_results s n) first_result (deepest_place s note)),
        flat-gets (taken_words note) (deepest_place s note),
        nesting-Call (functions_before + n),
        flat-fetches (called_results s n) first_result (deepest_place s note),
      )

  call_indirect_nests : (labels : List Label) (note : Note) → greatest nesting (plain_row s labels i.CallIndirect note) ≤ 2
  call_indirect_nests labels note =
      let words = code_results (scope_at note) (top_of note.taken) in
      let index = s.type_of (words_under_top note) in
      let place = operand_place s (top_height note) in
      omega (
        arith,
        greatest-append (gets (words_under_top note) (deepest_place s note)) (w.LocalGet place ∷ w.I32WrapI64 ∷ w.CallIndirect index ∷ fetches words first_result (deepest_place s note)),
        flat-gets (words_under_top note) (deepest_place s note),
        nesting-LocalGet place,
        nesting-number name.I32WrapI64,
        nesting-CallIndirect index,
        flat-fetches words first_result (deepest_place s note),
      )

  return_nests : (labels : List Label) (note : Note) → greatest nesting (plain_row s labels i.Return note) ≤ 2
  return_nests labels note =
      omega (arith, greatest-append (gives (taken_words note) (deepest_place s note) first_result) (w.Return ∷ []), flat-gives (taken_words note) (deepest_place s note) first_result, nesting-Return)

  variant_nests : (labels : List Label) (m : Mem) (k : ℕ) (cases : _) (note : Note) → greatest nesting (plain_row s labels (i.VariantMalloc m k cases) note) ≤ 2
  variant_nests labels m k cases note =
      let words = 1 + list_greatest (scope_at note) cases in
      let count : List w.WInstr = w.I64Const words ∷ [] in
      let value = stores (taken_words note) (first_scratch s) 1 (deepest_place s note) in
      let fill : List w.WInstr = w.LocalGet (first_scratch s) ∷ w.I32WrapI64 ∷ w.I64Const k ∷ w.I64Store 3 0 ∷ value in
      let c : greatest nesting count ≡ 0 = omega (arith, nesting-I64Const words) in
      let f : greatest nesting fill ≤ 2 = omega (
        arith,
        nesting-LocalGet (first_scratch s),
        nesting-number name.I32WrapI64,
        nesting-I64Const k,
        nesting-I64Store 3 0,
        flat-stores (taken_words note) (first_scratch s) 1 (deepest_place s note),
      ) in
      makes_nest m count fill note c f

  array_nests : (labels : List Label) (m : Mem) (note : Note) → greatest nesting (plain_row s labels (i.ArrayMalloc m) note) ≤ 2
  array_nests labels m note =
      let k = size_under (scope_at note) (deepest note.taken) in
      let length = operand_place s (top_height note) in
      let count : List w.WInstr = w.LocalGet length ∷ w.I64Const k ∷ w.I64Mul ∷ w.I64Const 1 ∷ w.I64Add ∷ [] in
      let fill : List w.WInstr = stores 1 (first_scratch s) 0 length ++ fill_elements s k (deepest_place s note) length in
      let c : greatest nesting count ≡ 0 = omega (arith, nesting-LocalGet length, nesting-I64Const k, nesting-I64Const 1, nesting-number name.I64Mul, nesting-number name.I64Add) in
      let f : greatest nesting fill ≤ 2 = omega (
        arith,
        greatest-append (stores 1 (first_scratch s) 0 length) (fill_elements s k (deepest_place s note) length),
        flat-stores 1 (first_scratch s) 0 length,
        fill_nests k (deepest_place s note) length,
      ) in
      makes_nest m count fill note c f

  struct_nests : (labels : List Label) (m : Mem) (sizes : List ℕ) (note : Note) → greatest nesting (plain_row s labels (i.StructMalloc m sizes) note) ≤ 2
  struct_nests labels m sizes note =
      let count : List w.WInstr = w.I64Const (sum sizes) ∷ [] in
      let fill = store_slots (first_scratch s) (deepest_place s note) (each_size (scope_at note) note.taken) (slot_offsets sizes) in
      let c : greatest nesting count ≡ 0 = omega (arith, nesting-I64Const (sum sizes)) in
      makes_nest m count fill note c (flat_within fill (flat-store_slots (first_scratch s) (deepest_place s note) (each_size (scope_at note) note.taken) (slot_offsets sizes)))

  package_nests : (labels : List Label) (m : Mem) (note : Note) → greatest nesting (makes_cell s m (w.I64Const (taken_words note) ∷ []) (stores (taken_words note) (first_scratch s) 0 (deepest_place s note)) note) ≤ 2
  package_nests labels m note =
      let count : List w.WInstr = w.I64Const (taken_words note) ∷ [] in
      let fill = stores (taken_words note) (first_scratch s) 0 (deepest_place s note) in
      let c : greatest nesting count ≡ 0 = omega (arith, nesting-I64Const (taken_words note)) in
      makes_nest m count fill note c (flat_within fill (flat-stores (taken_words note) (first_scratch s) 0 (deepest_place s note)))

  swap_nests : (labels : List Label) (k : ℕ) (note : Note) → greatest nesting (plain_row s labels (i.StructSwap k) note) ≤ 2
  swap_nests labels k note =
      let t = deepest note.taken in
      let old = slot_value_words (scope_at note) t k in
      let new = size_under (scope_at note) (second note.taken) in
      let above = suc (deepest_place s note) in
      flat_within _ (flat-append (loads old (deepest_place s note) (slot_offset t k) (above + new)) _ (flat-loads old (deepest_place s note) (slot_offset t k) (above + new))
      (flat-append (stores new (deepest_place s note) (slot_offset t k) above) _ (flat-stores new (deepest_place s note) (slot_offset t k) above)
      (flat-moves old (above + new) above)))

  element_nests : (note : Note) (rest : ℕ → List w.WInstr) → ((k : ℕ) → greatest nesting (rest k) ≡ 0) →
      greatest nesting (index_within (deepest_place s note) ++ (find_element s (element_words (scope_at note) (deepest note.taken)) (deepest_place s note) ++ rest (element_words (scope_at note) (deepest note.taken)))) ≤ 2
  element_nests note rest h =
      let k = element_words (scope_at note) (deepest note.taken) in
      index_nests (deepest_place s note) (find_element s k (deepest_place s note) ++ rest k) (flat-find_element k (deepest_place s note) (rest k) (h k))

  plain_nests : (labels : List Label) (instr : Instr) (note : Note) → greatest nesting (plain_row s labels instr note) ≤ 2
  plain_nests labels i.Unreachable note = omega (arith, nesting-I32Const 3, nesting-GlobalSet 0, nesting-Unreachable)
  plain_nests labels i.Print note = omega (arith, nesting-LocalGet (deepest_place s note), nesting-Call 0)
  plain_nests labels (i.I32Const n) note = constant_nests n note
  plain_nests labels (i.I64Const n) note = constant_nests n note
  plain_nests labels (i.Num n) note = flat_within _ (flat-number_code n (deepest_place s note))
  plain_nests labels (i.Br k) note = flat_within _ (flat-branches labels k (label_index labels k) (taken_words note) note)
  plain_nests labels (i.BrIf k) note = br_if_nests labels k note
  plain_nests labels i.Return note = return_nests labels note
  plain_nests labels (i.LocalGet n) note = flat_within _ (flat-moves (local_size (scope_at note) note.local) (local_place s n) (deepest_place s note))
  plain_nests labels (i.LocalTake n) note = flat_within _ (flat-moves (local_size (scope_at note) note.local) (local_place s n) (deepest_place s note))
  plain_nests labels (i.LocalSet n) note = flat_within _ (flat-moves (taken_words note) (deepest_place s note) (local_place s n))
  plain_nests labels (i.GlobalGet n) note = flat_within _ (flat-fetches (global_size s n) (global_place s n) (deepest_place s note))
  plain_nests labels (i.GlobalSet n) note = flat_within _ (flat-gives (taken_words note) (deepest_place s note) (global_place s n))
  plain_nests labels (i.Coderef n) note = constant_nests n note
  plain_nests labels (i.Call n arguments) note = call_nests labels n note arguments
  plain_nests labels i.CallIndirect note = call_indirect_nests labels note
  plain_nests labels (i.StructMalloc m sizes) note = struct_nests labels m sizes note
  plain_nests labels i.StructFree note = free_nests note
  plain_nests labels (i.StructGet k) note =
      flat_within _ (flat-loads (slot_value_words (scope_at note) (deepest note.taken) k) (deepest_place s note) (slot_offset (deepest note.taken) k) (suc (deepest_place s note)))
  plain_nests labels (i.StructSet k) note =
      flat_within _ (flat-stores (size_under (scope_at note) (second note.taken)) (deepest_place s note) (slot_offset (deepest note.taken) k) (suc (deepest_place s note)))
  plain_nests labels (i.StructSwap k) note = swap_nests labels k note
  plain_nests labels (i.VariantMalloc m k cases) note = variant_nests labels m k cases note
  plain_nests labels (i.ArrayMalloc m) note = array_nests labels m note
  plain_nests labels i.ArrayGet note = element_nests note (λ k. loads k (first_scratch s) 1 (suc (deepest_place s note))) (λ k. flat-loads k (first_scratch s) 1 (suc (deepest_place s note)))
  plain_nests labels i.ArraySet note = element_nests note (λ k. stores k (first_scratch s) 1 (suc (suc (deepest_place s note)))) (λ k. flat-stores k (first_scratch s) 1 (suc (suc (deepest_place s note))))
  plain_nests labels i.ArrayLen note = flat_within (loads 1 (deepest_place s note) 0 (suc (deepest_place s note))) (flat-loads 1 (deepest_place s note) 0 (suc (deepest_place s note)))
  plain_nests labels i.ArrayFree note = free_nests note
  plain_nests labels (i.ExistPack m q size t body) note = package_nests labels m note
  plain_nests labels i.Nop note = erased_nests
  plain_nests labels i.Drop note = erased_nests
  plain_nests labels i.Unit note = erased_nests
  plain_nests labels (i.Inst arguments) note = erased_nests
  plain_nests labels i.Qualify note = erased_nests
  plain_nests labels (i.RecFold t) note = erased_nests
  plain_nests labels i.RecUnfold note = erased_nests
  plain_nests labels (i.Group n q) note = erased_nests
  plain_nests labels i.Ungroup note = erased_nests
  plain_nests labels (i.MemPack l t) note = erased_nests
  plain_nests labels i.RefSplit note = erased_nests
  plain_nests labels i.RefJoin note = erased_nests
  plain_nests labels i.CapSplit note = erased_nests
  plain_nests labels i.CapJoin note = erased_nests
  plain_nests labels _ note = omega arith

  flat-freed : (linear : Bool) → greatest nesting (freed s linear) ≡ 0
  flat-freed true = omega (arith, nesting-LocalGet (first_scratch s), nesting-Call free_function)
  flat-freed false = refl

  flat-content : (words word : ℕ) (note : Note) → greatest nesting (takes_content s words word note) ≡ 0
  flat-content words word note =
      flat-append (loads words (first_scratch s) word (operand_place s (top_height note))) _ (flat-loads words (first_scratch s) word (operand_place s (top_height note)))
      (flat-freed (is_linear_reference (scope_at note) (top_of note.taken)))

  flat-reference : (note : Note) (rest : List w.WInstr) → greatest nesting (keeps_reference s note ++ rest) ≡ greatest nesting rest
  flat-reference note rest = omega (arith, nesting-LocalGet (operand_place s (top_height note)), nesting-LocalSet (first_scratch s))

  arm_nests : (k : ℕ) (note : Note) (arm : List w.WInstr) → greatest nesting (case_arm s k note arm) ≤ 1 + greatest nesting arm
  arm_nests k note arm =
      let words = case_words (scope_at note) (top_of note.taken) k in
      let end : List w.WInstr = arm ++ w.Br 1 ∷ [] in
      omega (
        arith,
        nesting-LocalGet (first_scratch s),
        nesting-number name.I32WrapI64,
        nesting-I64Load 3 0,
        nesting-I64Const k,
        nesting-number name.I64Eq,
        nesting-If (takes_content s words 1 note ++ end),
        greatest-append (takes_content s words 1 note) end,
        flat-content words 1 note,
        greatest-append arm (w.Br 1 ∷ []),
        nesting-Br 1,
      )

  mutual
    row_nests : (labels : List Label) (instr : Instr) (note : Note) (later : List Note) → greatest nesting (row s labels instr note later) ≤ 2 * depth instr + 2
    row_nests labels (Block' sig n body) note later =
        omega (arith, nesting-Block (row_code s (plain_label note.beneath ∷ labels) body later), row_code_nests (plain_label note.beneath ∷ labels) body later)
    row_nests labels (Loop' sig n body) note later =
        omega (arith, nesting-Loop (row_code s (plain_label note.beneath ∷ labels) body later), row_code_nests (plain_label note.beneath ∷ labels) body later)
    row_nests labels (If' sig n one m other) note later =
        let inner = plain_label note.beneath ∷ labels in
        omega (
          arith,
          nesting-LocalGet (operand_place s (top_height note)),
          nesting-number name.I32WrapI64,
          nesting-IfElse (row_code s inner one later) (row_code s inner other (drop (row_count one) later)),
          row_code_nests inner one later,
          row_code_nests inner other (drop (row_count one) later),
        )
    row_nests labels (MemUnpack' sig n body) note later =
        omega (arith, nesting-Block (row_code s (plain_label note.beneath ∷ labels) body later), row_code_nests (plain_label note.beneath ∷ labels) body later)
    row_nests labels (VariantCase' sig n arms) note later =
        let inner = case_label note.beneath ∷ labels in
        let block = w.Block None (arms_code s inner 0 arms note later) in
        omega (arith, flat-reference note (block ∷ []), nesting-Block (arms_code s inner 0 arms note later), arms_nest inner 0 arms note later)
    row_nests labels (ExistUnpack' sig n body) note later =
        let inner = plain_label note.beneath ∷ labels in
        let block = w.Block None (row_code s inner body later) in
        let words = body_words (scope_at note) (top_of note.taken) in
        omega (
          arith,
          flat-reference note (takes_content s words 0 note ++ block ∷ []),
          greatest-append (takes_content s words 0 note) (block ∷ []),
          flat-content words 0 note,
          nesting-Block (row_code s inner body later),
          row_code_nests inner body later,
        )
    row_nests labels instr note later = omega (arith, plain_nests labels instr note)

    row_code_nests : {n : _} (labels : List Label) (is : Row_of-Instr n) (notes : List Note) → greatest nesting (row_code s labels is notes) ≤ 2 * row_depth is + 2
    row_code_nests labels end_of-Instr notes = omega arith
    row_code_nests labels (more_of-Instr instr is) [] = omega arith
    row_code_nests labels (more_of-Instr instr is) (note ∷ later) =
        omega (
          arith,
          greatest-append (row s labels instr note later) (row_code s labels is (drop (nested_count instr) later)),
          row_nests labels instr note later,
          row_code_nests labels is (drop (nested_count instr) later),
        )

    arms_nest : {n : _} (labels : List Label) (k : ℕ) (arms : Row_of-Instr-VariantCase-1-1 n) (note : Note) (notes : List Note) →
        greatest nesting (arms_code s labels k arms note notes) ≤ 2 * rows_depth arms + 3
    arms_nest labels k end_of-Instr-VariantCase-1-1 note notes = omega (arith, nesting-Unreachable)
    arms_nest labels k (more_of-Instr-VariantCase-1-1 n arm arms) note notes =
        let code = row_code s labels arm notes in
        omega (
          arith,
          greatest-append (case_arm s k note code) (arms_code s labels (suc k) arms note (drop (row_count arm) notes)),
          arm_nests k note code,
          row_code_nests labels arm notes,
          arms_nest labels (suc k) arms note (drop (row_count arm) notes),
        )

pub lists_nest : ListsNest
lists_nest s labels [] notes = omega arith
lists_nest s labels (instr ∷ is) [] = omega arith
lists_nest s labels (instr ∷ is) (note ∷ later) =
    omega (
      arith,
      greatest-append (row s labels instr note later) (rows s labels is (drop (nested_count instr) later)),
      row_nests s labels instr note later,
      lists_nest s labels is (drop (nested_count instr) later),
    )

pub functions_nest : FunctionsNest
functions_nest p type_of f h =
    let s = in_function p type_of f in
    let end = gives (end_words f) s.places.operands first_result in
    omega (arith, h, greatest-append (rows s [] f.body f.notes) end, lists_nest s [] f.body f.notes, flat-gives (end_words f) s.places.operands first_result)

initialisers_nest : (s : Surroundings) (global : ℕ) (gs : List LinkedGlobal) → AreWithinDepth gs → greatest nesting (initialisers s global gs) ≤ 903
initialisers_nest s global [] h = omega arith
initialisers_nest s global (g ∷ gs) h =
    let words = gives (global_words g) s.places.operands global in
    let rest = initialisers s (global + global_words g) gs in
    omega (
      arith,
      h.0,
      nesting-Block (rows s [] g.body g.notes),
      lists_nest s [] g.body g.notes,
      greatest-append words rest,
      flat-gives (global_words g) s.places.operands global,
      initialisers_nest s (global + global_words g) gs h.1,
    )

pub starts_nest : StartsNest
starts_nest p type_of h =
    let s = in_initialiser p type_of in
    let end : List w.WInstr = w.Call (functions_before + p.main) ∷ w.GlobalGet first_result ∷ [] in
    omega (arith, greatest-append (initialisers s (first_global p) p.globals) end, initialisers_nest s (first_global p) p.globals h, nesting-Call (functions_before + p.main), nesting-GlobalGet first_result)
