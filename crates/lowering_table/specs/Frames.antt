-- The frame of a lowered function: Wasm locals of 64 bits for its parameter words, its slot words, its operand
-- words, and two scratch words. This project's own.
use Rattle.std.specs.Prelude.{ℕ, zero, suc, ◌+◌, max, List, [], ◌∷◌}
use Rattle.rw_types.specs.declared.instrs.Instr.{Instr, StructSwap}
use Rattle.rw_types.specs.declared.types.Binder.{Binder}
use Rattle.rw_types.specs.declared.types.Heap.{Struct', Row_of-Slot, end_of-Slot, more_of-Slot}
use Rattle.rw_types.specs.declared.types.Pre.{Ref}
use Rattle.rw_types.specs.declared.types.Ty.{Ty, Of}
use Rattle.rich_typing.specs.Kinds.{size, words_of}
use Rattle.rich_typing.specs.declared.notes.Note.{Note}

-- the words of the value in the slot of this number
abbrev pub slot_words : List Binder → {n : _} → Row_of-Slot n → ℕ → ℕ
slot_words binders end_of-Slot k = 0
slot_words binders (more_of-Slot t s slots) zero = size binders t
slot_words binders (more_of-Slot t s slots) (suc k) = slot_words binders slots k

-- the words of the value in a slot of the struct to which the first of these types refers
abbrev pub old_words : List Binder → List Ty → ℕ → ℕ
old_words binders (Of q (Ref p l (Struct' n slots)) ∷ ts) k = slot_words binders slots k
old_words binders _ k = 0

-- how many words stand in the frame's operands before an instruction
abbrev pub words_before : Note → ℕ
words_before note = note.beneath + words_of note.binders note.taken

-- how many words stand there at most: in a swap there is a moment at which the old value stands above the new one
abbrev pub height_of : Instr → Note → ℕ
height_of (StructSwap k) note = words_before note + old_words note.binders note.taken k
height_of _ note = words_before note

-- the greatest of the heights of these instructions, each with its note, and of the height at the end
abbrev pub room_of : List Instr → List Note → ℕ → ℕ
room_of [] notes end = end
room_of (i ∷ is) [] end = end
room_of (i ∷ is) (note ∷ notes) end = max (height_of i note) (room_of is notes end)

-- the words of a frame
pub record Frame : Type 0 where
  pub params : ℕ
  pub slots : ℕ
  pub operands : ℕ

-- the Wasm local of the first operand word
abbrev pub first_operand : Frame → ℕ
first_operand frame = frame.params + frame.slots

-- how many Wasm locals are declared: the slots, the operands and two scratch words
abbrev pub declared_locals : Frame → ℕ
declared_locals frame = frame.slots + frame.operands + 2
