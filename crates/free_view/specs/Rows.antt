-- Free lists of a part from byte 16 to byte 48, computed (this project's own rows).
use Rattle.std.specs.Prelude.{◌≡◌, ℕ, List, [], ◌∷◌, ◌++◌, Ok, Err}
use Rattle.memory_words.specs.Memories.{little_endian}
use Rattle.free_view.specs.Views.{free_view}

-- a memory of these words
abbrev pub memory_of : List ℕ → List ℕ
memory_of [] = []
memory_of (w ∷ ws) = little_endian 8 w ++ memory_of ws

-- no hole; one of 3 words; next words that are no multiple of 8, too high and too low; and one that comes round
pub record WorkedViews : Type 0 where
  pub none : free_view 16 48 (memory_of (0 ∷ 0 ∷ 0 ∷ 0 ∷ 0 ∷ 0 ∷ [])) ≡ Ok []
  pub one : free_view 16 48 (memory_of (0 ∷ 24 ∷ 3 ∷ 0 ∷ 0 ∷ 0 ∷ [])) ≡ Ok (record { at = 24; words = 3 } ∷ [])
  pub misaligned : free_view 16 48 (memory_of (0 ∷ 20 ∷ 0 ∷ 0 ∷ 0 ∷ 0 ∷ [])) ≡ Err (record { at = 8; word = 20 })
  pub high : free_view 16 48 (memory_of (0 ∷ 48 ∷ 0 ∷ 0 ∷ 0 ∷ 0 ∷ [])) ≡ Err (record { at = 8; word = 48 })
  pub low : free_view 16 48 (memory_of (0 ∷ 16 ∷ 0 ∷ 0 ∷ 0 ∷ 0 ∷ [])) ≡ Err (record { at = 8; word = 16 })
  pub round : free_view 16 48 (memory_of (0 ∷ 24 ∷ 3 ∷ 24 ∷ 0 ∷ 0 ∷ [])) ≡ Err (record { at = 24; word = 24 })
