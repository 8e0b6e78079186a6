-- The free list of a part of memory, read from its bytes: next words of 8 bytes lead from block to block, the first of them at the 8
-- bytes before the part, and 0 is the end. A block's address is that of its payload; its header, the 8 bytes before, has its words.
-- This project's own.
use Rattle.std.specs.Prelude.{ℕ, zero, suc, ◌+◌, ◌-◌, ◌/◌, ◌%◌, Bool, ◌&&◌, ◌==◌, nat_le, if◌then◌else◌, List, [], ◌∷◌, Result, Ok, Err}
use Rattle.memory_words.specs.Memories.{read}

-- a free block: its address, and its words
pub record Hole : Type 0 where
  pub at : ℕ
  pub words : ℕ

-- a next word that cannot be followed: where it stands, and its value
pub record BrokenList : Type 0 where
  pub at : ℕ
  pub word : ℕ

-- the 64-bit word at an address
abbrev pub word_at : List ℕ → ℕ → ℕ
word_at memory at = read 8 memory at

-- the free block of this address
abbrev pub hole_at : List ℕ → ℕ → Hole
hole_at memory at = record { at = at; words = word_at memory (at - 8) }

-- whether a next word is a multiple of 8 with a header and a word of payload in the part from base to end
abbrev pub is_inside : ℕ → ℕ → ℕ → Bool
is_inside base end word = word % 8 == 0 && (nat_le (base + 8) word && nat_le word (end - 8))

-- how many blocks the part can hold
abbrev pub most_holes : ℕ → ℕ → ℕ
most_holes base end = (end - base) / 16

-- a hole before those that follow it
abbrev pub before : Hole → Result (List Hole) BrokenList → Result (List Hole) BrokenList
before hole (Ok holes) = Ok (hole ∷ holes)
before hole (Err broken) = Err broken

-- the holes from the next word at an address on, where so many at most are named
abbrev pub holes_from : ℕ → ℕ → ℕ → List ℕ → ℕ → Result (List Hole) BrokenList
holes_from zero base end memory at = if word_at memory at == 0 then Ok [] else Err (record { at = at; word = word_at memory at })
holes_from (suc most) base end memory at =
    if word_at memory at == 0 then Ok []
    else (if is_inside base end (word_at memory at) then before (hole_at memory (word_at memory at)) (holes_from most base end memory (word_at memory at))
    else Err (record { at = at; word = word_at memory at }))

-- the free list of the part from base to end
abbrev pub free_view : ℕ → ℕ → List ℕ → Result (List Hole) BrokenList
free_view base end memory = holes_from (most_holes base end) base end memory (base - 8)
