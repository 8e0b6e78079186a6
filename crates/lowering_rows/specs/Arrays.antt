-- The code of instructions on arrays. This project's own.
use Rattle.std.specs.Prelude.{ℕ, zero, suc, ◌+◌, ◌*◌, List, [], ◌∷◌, ◌++◌, None}
use Rattle.wasm_ast.specs.declared.instructions.WInstr as w
use Rattle.rw_types.specs.declared.types.Mem.{Mem}
use Rattle.rich_types.specs.Sizes.{size_under}
use Rattle.rich_typing.specs.declared.notes.Note.{Note}
use Rattle.lowering_rows.specs.Moves.{address, load_word, loads, store_word, stores}
use Rattle.lowering_rows.specs.Surroundings.{Surroundings, first_scratch, second_scratch, operand_place}
use Rattle.lowering_rows.specs.Taken.{deepest, element_words, scope_at, top_height}
use Rattle.lowering_rows.specs.Cells.{deepest_place, makes_cell}

-- a number times so many words of 8 bytes, added to an address; both stand on the Wasm operands
abbrev pub add_elements : ℕ → List w.WInstr
add_elements k = w.I64Const (8 * k) ∷ w.I64Mul ∷ w.I64Add ∷ []

-- so many words from a local on go to the element whose number is in the second scratch word, of so many words, from this
-- word of it on; an array's length stands before its elements
abbrev pub store_element : Surroundings → ℕ → ℕ → ℕ → ℕ → List w.WInstr
store_element s k zero word from = []
store_element s k (suc n) word from =
    w.LocalGet (first_scratch s) ∷ w.LocalGet (second_scratch s)
    ∷ (add_elements k ++ w.I32WrapI64 ∷ w.LocalGet from ∷ store_word (1 + word) ∷ store_element s k n (suc word) (suc from))

-- each element is filled, and the second scratch word counts them up to the length in a local
abbrev pub fill_elements : Surroundings → ℕ → ℕ → ℕ → List w.WInstr
fill_elements s k from length =
    w.I64Const 0 ∷ w.LocalSet (second_scratch s)
    ∷ w.Block None (w.Loop None (
    w.LocalGet (second_scratch s) ∷ w.LocalGet length ∷ w.I64GeU ∷ w.BrIf 1
    ∷ (store_element s k k 0 from
    ++ w.LocalGet (second_scratch s) ∷ w.I64Const 1 ∷ w.I64Add ∷ w.LocalSet (second_scratch s) ∷ w.Br 0 ∷ [])) ∷ []) ∷ []

-- array.malloc: the length stands on top of the value that each element has at first
abbrev pub array_malloc_code : Surroundings → Mem → Note → List w.WInstr
array_malloc_code s m note =
    let k = size_under (scope_at note) (deepest note.taken) in
    let length = operand_place s (top_height note) in
    makes_cell s m (w.LocalGet length ∷ w.I64Const k ∷ w.I64Mul ∷ w.I64Const 1 ∷ w.I64Add ∷ [])
    (stores 1 (first_scratch s) 0 length ++ fill_elements s k (deepest_place s note) length) note

-- an index that is not less than the length traps; the reference stands in a local and the index in the next
abbrev pub index_within : ℕ → List w.WInstr
index_within reference =
    w.LocalGet (suc reference)
    ∷ (address reference ++ load_word 0 ∷ w.I64GeU ∷ w.If None (w.I32Const 2 ∷ w.GlobalSet 0 ∷ w.Unreachable ∷ []) ∷ [])

-- the first scratch word is so many elements' words behind the reference
abbrev pub find_element : Surroundings → ℕ → ℕ → List w.WInstr
find_element s k reference =
    w.LocalGet reference ∷ w.LocalGet (suc reference) ∷ (add_elements k ++ w.LocalSet (first_scratch s) ∷ [])

-- array.get
abbrev pub array_get_code : Surroundings → Note → List w.WInstr
array_get_code s note =
    let k = element_words (scope_at note) (deepest note.taken) in
    let reference = deepest_place s note in
    index_within reference ++ (find_element s k reference ++ loads k (first_scratch s) 1 (suc reference))

-- array.set
abbrev pub array_set_code : Surroundings → Note → List w.WInstr
array_set_code s note =
    let k = element_words (scope_at note) (deepest note.taken) in
    let reference = deepest_place s note in
    index_within reference ++ (find_element s k reference ++ stores k (first_scratch s) 1 (suc (suc reference)))

-- array.len
abbrev pub array_len_code : Surroundings → Note → List w.WInstr
array_len_code s note = loads 1 (deepest_place s note) 0 (suc (deepest_place s note))
