-- Which block is given to a request, and what is left of the free list; and the unrestricted region, which has no blocks. This
-- project's own.
use Rattle.std.specs.Prelude.{◌≡◌, ℕ, suc, ◌+◌, ◌-◌, ◌*◌, ◌<◌, ◌≤◌, ◌⊎◌, max, nat_lt, nat_le, if◌then◌else◌, List, [], ◌∷◌, ◌++◌, Option, Some, None, option_map}
use Rattle.heap_blocks.specs.Blocks.{Block, Headed}

-- a request asks for one word at least
abbrev pub asked_of : ℕ → ℕ
asked_of x = max 1 x

-- how many words of a block of so many are given: the asked ones, or all where less than two would be left
abbrev pub given : ℕ → ℕ → ℕ
given asked n = if nat_lt (n - asked) 2 then n else asked

-- what is left of a block behind the asked words: a block of its own, where two words or more are left
abbrev pub left_behind : ℕ → ℕ → ℕ → List Block
left_behind asked j n = if nat_lt (n - asked) 2 then [] else Headed (suc (j + asked)) (n - asked - 1) ∷ []

-- the block that is given, and the free list then
pub record Taken : Type 0 where
  pub block : Block
  pub free : List Block

-- behind a block that is too small
abbrev pub behind : Block → Taken → Taken
behind b t = record { block = t.block; free = b ∷ t.free }

-- the front of the first block in the order of the list that holds the asked words; the rest takes its place
abbrev pub first_fit : ℕ → List Block → Option Taken
first_fit asked [] = None
first_fit asked (Headed j n ∷ bs) = if nat_le asked n then Some (record { block = Headed j (given asked n); free = left_behind asked j n ++ bs }) else option_map (behind (Headed j n)) (first_fit asked bs)

-- each of these blocks has fewer than the asked words
abbrev pub AreSmaller : ℕ → List Block → Type 0
AreSmaller asked [] = Unit {0}
AreSmaller asked (Headed j n ∷ bs) = (n < asked) × AreSmaller asked bs

-- the block given is the front of the first one that holds the asked words, and has these, or one more where exactly one would
-- be left
pub record IsFirstFit (asked : ℕ) (free : List Block) (t : Taken) : Type 0 where
  pub passed : List Block
  pub header : ℕ
  pub before : ℕ
  pub words : ℕ
  pub others : List Block
  pub order : free ≡ passed ++ (Headed header before ∷ others)
  pub smaller : AreSmaller asked passed
  pub holds : asked ≤ before
  pub block : t.block ≡ Headed header words
  pub sized : (words ≡ asked) ⊎ ((words ≡ suc asked) × (before ≡ suc asked))

-- the region's bytes from its next address on, up to the memory's end, hold so many words
abbrev pub HasRoom : ℕ → ℕ → ℕ → Type 0
HasRoom end next asked = next + 8 * asked ≤ end

-- they hold fewer
abbrev pub HasNoRoom : ℕ → ℕ → ℕ → Type 0
HasNoRoom end next asked = end < next + 8 * asked

-- the next address of the region behind a grant of so many words
abbrev pub next_behind : ℕ → ℕ → ℕ
next_behind next asked = next + 8 * asked
