-- The code of instructions on cells, but for arrays and for those that enter lists. This project's own.
use Rattle.std.specs.Prelude.{ℕ, suc, ◌+◌, sum, List, [], ◌∷◌, ◌++◌}
use Rattle.wasm_ast.specs.declared.instructions.WInstr as w
use Rattle.rw_types.specs.declared.types.Mem.{Mem}
use Rattle.rw_types.specs.declared.types.Ty.{Ty}
use Rattle.rich_types.specs.Sizes.{list_greatest, size_under}
use Rattle.rich_typing.specs.declared.notes.Note.{Note}
use Rattle.layout.specs.Cells.{slot_offsets}
use Rattle.layout.specs.Frames.{taken_words}
use Rattle.lowering_rows.specs.Moves.{address, loads, moves, store_word, stores}
use Rattle.lowering_rows.specs.Surroundings.{Surroundings, allocator, first_scratch, free_function, operand_place}
use Rattle.lowering_rows.specs.Taken.{deepest, each_size, scope_at, second, slot_offset, slot_value_words}

-- The local of the deepest operand that an instruction takes.
abbrev pub deepest_place : Surroundings → Note → ℕ
deepest_place s note = operand_place s note.beneath

-- values of so many words each, side by side in locals from one on, go to the slots that begin at these words
abbrev pub store_slots : ℕ → ℕ → List ℕ → List ℕ → List w.WInstr
store_slots base from (n ∷ words) (offset ∷ offsets) = stores n base offset from ++ store_slots base (from + n) words offsets
store_slots base from _ _ = []

-- a new cell of so many words is filled by this code, and its address goes to the local of the deepest operand
abbrev pub makes_cell : Surroundings → Mem → List w.WInstr → List w.WInstr → Note → List w.WInstr
makes_cell s m count fill note =
    count ++ w.Call (allocator m) ∷ w.LocalSet (first_scratch s) ∷ (fill ++ w.LocalGet (first_scratch s) ∷ w.LocalSet (deepest_place s note) ∷ [])

-- struct.malloc
abbrev pub struct_malloc_code : Surroundings → Mem → List ℕ → Note → List w.WInstr
struct_malloc_code s m sizes note =
    makes_cell s m (w.I64Const (sum sizes) ∷ [])
    (store_slots (first_scratch s) (deepest_place s note) (each_size (scope_at note) note.taken) (slot_offsets sizes)) note

-- variant.malloc: the number of the case, and its value
abbrev pub variant_malloc_code : Surroundings → Mem → ℕ → List Ty → Note → List w.WInstr
variant_malloc_code s m k cases note =
    makes_cell s m (w.I64Const (1 + list_greatest (scope_at note) cases) ∷ [])
    (address (first_scratch s) ++ w.I64Const k ∷ store_word 0 ∷ stores (taken_words note) (first_scratch s) 1 (deepest_place s note)) note

-- exist.pack
abbrev pub exist_pack_code : Surroundings → Mem → Note → List w.WInstr
exist_pack_code s m note =
    makes_cell s m (w.I64Const (taken_words note) ∷ []) (stores (taken_words note) (first_scratch s) 0 (deepest_place s note)) note

-- struct.free and array.free
abbrev pub free_code : Surroundings → Note → List w.WInstr
free_code s note = w.LocalGet (deepest_place s note) ∷ w.Call free_function ∷ []

-- struct.get
abbrev pub struct_get_code : Surroundings → ℕ → Note → List w.WInstr
struct_get_code s k note =
    let t = deepest note.taken in
    loads (slot_value_words (scope_at note) t k) (deepest_place s note) (slot_offset t k) (suc (deepest_place s note))

-- struct.set
abbrev pub struct_set_code : Surroundings → ℕ → Note → List w.WInstr
struct_set_code s k note =
    stores (size_under (scope_at note) (second note.taken)) (deepest_place s note) (slot_offset (deepest note.taken) k) (suc (deepest_place s note))

-- struct.swap: the old words are loaded above the new ones, these are stored, and the old ones are moved down
abbrev pub struct_swap_code : Surroundings → ℕ → Note → List w.WInstr
struct_swap_code s k note =
    let t = deepest note.taken in
    let old = slot_value_words (scope_at note) t k in
    let new = size_under (scope_at note) (second note.taken) in
    let above = suc (deepest_place s note) in
    loads old (deepest_place s note) (slot_offset t k) (above + new)
    ++ (stores new (deepest_place s note) (slot_offset t k) above ++ moves old (above + new) above)
