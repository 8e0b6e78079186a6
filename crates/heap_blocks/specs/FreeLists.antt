-- The free list as one reads it: from the head word at byte 8 on, each next word is 0, which is the end, or the address of a
-- block. This project's own.
use Rattle.std.specs.Prelude.{ℕ, zero, suc, ◌-◌, ◌*◌, ◌/◌, ◌%◌, Bool, ◌&&◌, ◌==◌, nat_le, if◌then◌else◌, List, [], ◌∷◌, Option, Some, None, option_map}
use Rattle.heap_blocks.specs.Blocks.{Block, Headed}

-- a multiple of 8 from 24 to the last word of a linear part of so many words
abbrev pub is_link : ℕ → ℕ → Bool
is_link words a = a % 8 == 0 && (nat_le 24 a && nat_le a (8 * words - 8))

-- the block with this address, by its header
abbrev pub block_at : (ℕ → ℕ) → ℕ → Block
block_at r a = Headed (a / 8 - 1) (r (a / 8 - 1))

-- the blocks from this next word on, where each is 0 or a link and the end is met behind so many blocks
abbrev pub blocks_from : ℕ → ℕ → (ℕ → ℕ) → ℕ → Option (List Block)
blocks_from zero words r a = if a == 0 then Some [] else None
blocks_from (suc most) words r a = if a == 0 then Some [] else (if is_link words a then option_map (λ bs. block_at r a ∷ bs) (blocks_from most words r (r (a / 8))) else None)

-- as many blocks as a linear part of so many words can hold
abbrev pub most_blocks : ℕ → ℕ
most_blocks words = words / 2 - 1

abbrev pub free_list : ℕ → (ℕ → ℕ) → Option (List Block)
free_list words r = blocks_from (most_blocks words) words r (r 1)
