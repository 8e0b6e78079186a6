-- Free lists that are read and requests that are met, computed (this project's own rows): a linear part of one page has 8,192
-- words.
use Rattle.std.specs.Prelude.{◌≡◌, ℕ, zero, suc, List, [], ◌∷◌, Some, None}
use Rattle.heap_blocks.specs.Blocks.{Block, Headed, address_of, words_of, first_blocks, header_walk}
use Rattle.heap_blocks.specs.FreeLists.{free_list}
use Rattle.heap_blocks.specs.Allocation.{first_fit}

-- a reader of these words, from word 1 on, and of zeros
abbrev pub reader : List ℕ → ℕ → ℕ
reader [] i = 0
reader (w ∷ ws) zero = 0
reader (w ∷ ws) (suc zero) = w
reader (w ∷ ws) (suc (suc i)) = reader ws (suc i)

-- a request for so many words is met by a block with this address and so many words, and this list is left
pub record Meets (asked : ℕ) (free : List Block) (at size : ℕ) (then : List Block) : Type 0 where
  pub block : Block
  pub fits : first_fit asked free ≡ Some (record { block = block; free = then })
  pub address : address_of block ≡ at
  pub words : words_of block ≡ size

-- two requests for a word, each with its release, leave a block of one word at 24 and one of 8,187 at 40
pub record TwoInTurn : Type 0 where
  pub first : Meets 1 (first_blocks 8192) 24 1 (Headed 4 8187 ∷ [])
  pub second : Meets 1 (Headed 2 1 ∷ Headed 4 8187 ∷ []) 24 1 (Headed 4 8187 ∷ [])
  pub read : free_list 8192 (reader (24 ∷ 1 ∷ 40 ∷ 8187 ∷ 0 ∷ [])) ≡ Some (Headed 2 1 ∷ Headed 4 8187 ∷ [])

-- requests for 2, 1 and 2 words; the first is released and asked for again; then the third and the second are released
pub record LastInFirstOut : Type 0 where
  pub first : Meets 2 (first_blocks 8192) 24 2 (Headed 5 8186 ∷ [])
  pub second : Meets 1 (Headed 5 8186 ∷ []) 48 1 (Headed 7 8184 ∷ [])
  pub third : Meets 2 (Headed 7 8184 ∷ []) 64 2 (Headed 10 8181 ∷ [])
  pub again : Meets 2 (Headed 2 2 ∷ Headed 10 8181 ∷ []) 24 2 (Headed 10 8181 ∷ [])
  pub read : free_list 8192 (reader (48 ∷ 2 ∷ 0 ∷ 0 ∷ 1 ∷ 64 ∷ 2 ∷ 88 ∷ 0 ∷ 8181 ∷ 0 ∷ [])) ≡ Some (Headed 5 1 ∷ Headed 7 2 ∷ Headed 10 8181 ∷ [])
  pub walk : header_walk (reader (48 ∷ 2 ∷ 0 ∷ 0 ∷ 1 ∷ 64 ∷ 2 ∷ 88 ∷ 0 ∷ 8181 ∷ 0 ∷ [])) 4 2 ≡ 8192

-- a rest of one word is given with the block, one of two words is a block of its own, and blocks that are too small are passed
pub record Splits : Type 0 where
  pub all : Meets 3 (Headed 2 3 ∷ []) 24 3 []
  pub one_more : Meets 3 (Headed 2 4 ∷ []) 24 4 []
  pub rest : Meets 3 (Headed 2 5 ∷ []) 24 3 (Headed 6 1 ∷ [])
  pub passed : Meets 3 (Headed 20 2 ∷ Headed 2 9 ∷ Headed 12 3 ∷ []) 24 3 (Headed 20 2 ∷ Headed 6 5 ∷ Headed 12 3 ∷ [])
  pub none : first_fit 4 (Headed 2 3 ∷ Headed 12 1 ∷ []) ≡ None

-- lists of a part of 16 words that cannot be read: a next word that is no multiple of 8, is too low or too high, or that comes
-- round
pub record Broken : Type 0 where
  pub misaligned : free_list 16 (reader (28 ∷ [])) ≡ None
  pub low : free_list 16 (reader (16 ∷ [])) ≡ None
  pub high : free_list 16 (reader (128 ∷ [])) ≡ None
  pub last : free_list 16 (reader (120 ∷ [])) ≡ Some (Headed 14 0 ∷ [])
  pub round : free_list 16 (reader (24 ∷ 1 ∷ 24 ∷ [])) ≡ None
  pub empty : free_list 16 (reader []) ≡ Some []
