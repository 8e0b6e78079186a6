-- Notes of instructions on numbers of 64 bits, up to a height in words. This project's own.
use Rattle.std.specs.Prelude.{◌≡◌, ℕ, ◌+◌, ◌≤◌, List, [], ◌∷◌, length, ⊤}
use Rattle.rich_typing.specs.declared.notes.Note.{Note}
use Rattle.rich_typing.specs.Kinds.{words_of}

-- each operand that the instruction takes is one word, and no more than so many words stand before it
pub record IsWithin (limit : ℕ) (note : Note) : Type 0 where
  pub words : words_of note.binders note.taken ≡ length note.taken
  pub height : note.beneath + length note.taken ≤ limit

abbrev pub AreWithin : ℕ → List Note → Type 0
AreWithin limit [] = ⊤
AreWithin limit (note ∷ notes) = IsWithin limit note × AreWithin limit notes
