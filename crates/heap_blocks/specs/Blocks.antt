-- The blocks of the linear part of a lowered program's memory, and what the words of memory say of them. Words have 8 bytes,
-- and word i lies at byte 8 * i. A reader gives the word of each number. This project's own.
use Rattle.std.specs.Prelude.{◌≡◌, ℕ, zero, suc, ◌+◌, ◌-◌, ◌*◌, ◌≤◌, min, List, [], ◌∷◌}

-- a block: the number of its header's word, and how many words of payload follow it
pub data Block : Type 0 where
  Headed : (header words : ℕ) → Block

-- a block's address is that of its payload, in bytes
abbrev pub address_of : Block → ℕ
address_of (Headed j n) = 8 * suc j

abbrev pub words_of : Block → ℕ
words_of (Headed j n) = n

-- 1 where word w belongs to the block with this header and so many words of payload, its header among them, else 0
unfoldable pub covers : ℕ → ℕ → ℕ → ℕ
covers w j n = min 1 (min (suc w - j) (suc (j + n) - w))

-- how many of these blocks word w belongs to
abbrev pub covering : ℕ → List Block → ℕ
covering w [] = 0
covering w (Headed j n ∷ bs) = covers w j n + covering w bs

-- the words of these blocks, their headers among them
abbrev pub room_of : List Block → ℕ
room_of [] = 0
room_of (Headed j n ∷ bs) = suc n + room_of bs

-- each block has at least one word of payload
abbrev pub HavePayloads : List Block → Type 0
HavePayloads [] = Unit {0}
HavePayloads (Headed j n ∷ bs) = (1 ≤ n) × HavePayloads bs

-- the header of each block has its words
abbrev pub HaveHeaders : (ℕ → ℕ) → List Block → Type 0
HaveHeaders r [] = Unit {0}
HaveHeaders r (Headed j n ∷ bs) = (r j ≡ n) × HaveHeaders r bs

-- following next words from an address one meets these blocks, and then the end: a next word is the address of a block or 0,
-- and that of a block is its first word of payload
abbrev pub AreChained : (ℕ → ℕ) → ℕ → List Block → Type 0
AreChained r a [] = a ≡ 0
AreChained r a (Headed j n ∷ bs) = (a ≡ 8 * suc j) × (r j ≡ n) × AreChained r (r (suc j)) bs

-- 1 where word w lies in a linear part of so many words, behind its first two, else 0
abbrev pub is_tiled_word : ℕ → ℕ → ℕ
is_tiled_word words w = covers w 2 (words - 3)

-- the free list of a linear part of so many words can be read, and so can its blocks, from header to header: these are two lists
-- of their own, since between two stores of an allocator one of them may already have a block that the other has not
pub record IsReadable (words : ℕ) (r : ℕ → ℕ) : Type 0 where
  pub free : List Block
  pub chained : AreChained r (r 1) free
  pub payloads : HavePayloads free
  pub once : (w : ℕ) → covering w free ≤ is_tiled_word words w
  pub fits : room_of free + 2 ≤ words
  pub blocks : List Block
  pub headers : HaveHeaders r blocks
  pub payloads_of_blocks : HavePayloads blocks
  pub cover : (w : ℕ) → covering w blocks ≡ is_tiled_word words w

-- the live blocks, by their headers, and the blocks of the free list cover the words of a linear part behind the first two once
-- each
pub record IsTiled (words : ℕ) (r : ℕ → ℕ) (live free : List Block) : Type 0 where
  pub chained : AreChained r (r 1) free
  pub headers : HaveHeaders r live
  pub live_payloads : HavePayloads live
  pub free_payloads : HavePayloads free
  pub once : (w : ℕ) → covering w live + covering w free ≡ is_tiled_word words w
  pub whole : room_of live + room_of free + 2 ≡ words

-- the word that is come to from word p by so many steps, each from a header to the next
abbrev pub header_walk : (ℕ → ℕ) → ℕ → ℕ → ℕ
header_walk r zero p = p
header_walk r (suc n) p = header_walk r n (suc (p + r p))

-- at the start one free block has all words behind its header
abbrev pub first_blocks : ℕ → List Block
first_blocks words = Headed 2 (words - 3) ∷ []

-- the words that say so: the head of the free list, the block's header and its next word
pub record IsFresh (words : ℕ) (r : ℕ → ℕ) : Type 0 where
  pub head : r 1 ≡ 24
  pub header : r 2 ≡ words - 3
  pub next : r 3 ≡ 0
