-- The words of cells, and the words at which their slots begin. This project's own.
use Rattle.std.specs.Prelude.{ℕ, zero, suc, ◌+◌, ◌*◌, List, [], ◌∷◌}
use Rattle.rw_types.specs.declared.types.Heap.{Heap, Struct', Variant', Array', Exist', Row_of-Slot, end_of-Slot, more_of-Slot}
use Rattle.rw_types.specs.declared.types.Ty.{Row_of-Ty, end_of-Ty, more_of-Ty}
use Rattle.rich_types.specs.Scopes.{Scope, with_variable}
use Rattle.rich_types.specs.Sizes.{size_under, row_greatest, row_slot_words}

-- the first word of each part, where they lie side by side from this word on
abbrev pub offsets_from : ℕ → List ℕ → List ℕ
offsets_from at [] = []
offsets_from at (size ∷ sizes) = at ∷ offsets_from (at + size) sizes

-- the word at which each slot of a struct begins: the sizes of those before it together
abbrev pub slot_offsets : List ℕ → List ℕ
slot_offsets sizes = offsets_from 0 sizes

-- the words of a cell; the length counts for an array alone
abbrev pub cell_words : Scope → Heap → ℕ → ℕ
cell_words c (Struct' m slots) length = row_slot_words slots
cell_words c (Variant' m cases) length = 1 + row_greatest c cases
cell_words c (Array' a (more_of-Ty t end_of-Ty)) length = 1 + length * size_under c t
cell_words c (Exist' q s a (more_of-Ty t end_of-Ty)) length = size_under (with_variable q s c) t

-- the word at which the slot of this number begins
abbrev pub offset_in : {n : _} → Row_of-Slot n → ℕ → ℕ
offset_in end_of-Slot k = 0
offset_in (more_of-Slot t size slots) zero = 0
offset_in (more_of-Slot t size slots) (suc k) = size + offset_in slots k

-- the words of the value in the slot of this number
abbrev pub value_words_in : {n : _} → Scope → Row_of-Slot n → ℕ → ℕ
value_words_in c end_of-Slot k = 0
value_words_in c (more_of-Slot t size slots) zero = size_under c t
value_words_in c (more_of-Slot t size slots) (suc k) = value_words_in c slots k

-- the words of the value of the case of this number
abbrev pub case_words_in : {n : _} → Scope → Row_of-Ty n → ℕ → ℕ
case_words_in c end_of-Ty k = 0
case_words_in c (more_of-Ty t cases) zero = size_under c t
case_words_in c (more_of-Ty t cases) (suc k) = case_words_in c cases k
