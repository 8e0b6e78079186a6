-- What a note tells of the operands that an instruction takes: heights, words, and the cells to which they refer. This
-- project's own.
use Rattle.std.specs.Prelude.{ℕ, ◌+◌, List, [], ◌∷◌, Bool, true, false, Option, Some, None}
use Rattle.rw_types.specs.declared.types.Heap.{Struct', Variant', Array', Exist'}
use Rattle.rw_types.specs.declared.types.Mem.{Mem}
use Rattle.rw_types.specs.declared.types.Mem.TheVariants.{L, U}
use Rattle.rw_types.specs.declared.types.Pre.{Ref}
use Rattle.rw_types.specs.declared.types.Ty.{Ty, Of, end_of-Ty, more_of-Ty}
use Rattle.rich_types.specs.Scopes.{Scope, memory_of, scope_of, with_variable}
use Rattle.rich_types.specs.Sizes.{list_size, size_under}
use Rattle.rich_typing.specs.declared.notes.Note.{Note}
use Rattle.layout.specs.Calls.{no_type}
use Rattle.layout.specs.Cells.{case_words_in, offset_in, value_words_in}

-- the deepest operand, the one above it, and all but the top one
abbrev pub deepest : List Ty → Ty
deepest [] = no_type
deepest (t ∷ ts) = t

abbrev pub second : List Ty → Ty
second [] = no_type
second (t ∷ ts) = deepest ts

abbrev pub under_top : List Ty → List Ty
under_top [] = []
under_top (t ∷ []) = []
under_top (t ∷ u ∷ ts) = t ∷ under_top (u ∷ ts)

-- the scope of a point
abbrev pub scope_at : Note → Scope
scope_at note = scope_of note.binders

-- the words of what is taken beneath the top operand, and the height of that operand
abbrev pub words_under_top : Note → ℕ
words_under_top note = list_size (scope_at note) (under_top note.taken)

abbrev pub top_height : Note → ℕ
top_height note = note.beneath + words_under_top note

-- the words of each operand
abbrev pub each_size : Scope → List Ty → List ℕ
each_size c [] = []
each_size c (t ∷ ts) = size_under c t ∷ each_size c ts

-- the words of the local that the instruction names
abbrev pub local_size : Scope → Option Ty → ℕ
local_size c (Some t) = size_under c t
local_size c None = 0

-- of a reference to a struct, the word at which the slot of this number begins, and the words of its value
abbrev pub slot_offset : Ty → ℕ → ℕ
slot_offset (Of q (Ref p l (Struct' n slots))) k = offset_in slots k
slot_offset _ k = 0

abbrev pub slot_value_words : Scope → Ty → ℕ → ℕ
slot_value_words c (Of q (Ref p l (Struct' n slots))) k = value_words_in c slots k
slot_value_words c _ k = 0

-- of a reference to a variant, the words of the case of this number
abbrev pub case_words : Scope → Ty → ℕ → ℕ
case_words c (Of q (Ref p l (Variant' n cases))) k = case_words_in c cases k
case_words c _ k = 0

-- of a reference to an array, the words of an element
abbrev pub element_words : Scope → Ty → ℕ
element_words c (Of q (Ref p l (Array' a (more_of-Ty t end_of-Ty)))) = size_under c t
element_words c _ = 0

-- of a reference to a package, the words of its body
abbrev pub body_words : Scope → Ty → ℕ
body_words c (Of q (Ref p l (Exist' r s a (more_of-Ty t end_of-Ty)))) = size_under (with_variable r s c) t
body_words c _ = 0

-- whether a location is one of the linear memory
abbrev pub is_linear : Option Mem → Bool
is_linear (Some L) = true
is_linear (Some U) = false
is_linear None = false

-- whether a reference is to a cell of the linear memory
abbrev pub is_linear_reference : Scope → Ty → Bool
is_linear_reference c (Of q (Ref p l h)) = is_linear (memory_of c l)
is_linear_reference c _ = false
