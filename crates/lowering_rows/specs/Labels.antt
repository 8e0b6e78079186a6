-- Open lists of a body, as branches see them. This project's own.
use Rattle.std.specs.Prelude.{ℕ, zero, suc, ◌+◌, List, [], ◌∷◌}

-- an open list: the words beneath what its block takes, and how many Wasm blocks that are no labels stand open in the
-- block of its own, around what is written now
pub record Label : Type 0 where
  pub height : ℕ
  pub within : ℕ

-- the height of the label of this number, the innermost being 0
abbrev pub label_height : List Label → ℕ → ℕ
label_height [] k = 0
label_height (l ∷ ls) zero = l.height
label_height (l ∷ ls) (suc k) = label_height ls k

-- the index of its Wasm block
abbrev pub label_index : List Label → ℕ → ℕ
label_index [] k = 0
label_index (l ∷ ls) zero = l.within
label_index (l ∷ ls) (suc k) = suc (l.within + label_index ls k)

-- a list whose block is that of its label
abbrev pub plain_label : ℕ → Label
plain_label height = record { height = height; within = 0 }

-- the list of a case, which stands in an `if` within the block of its label
abbrev pub case_label : ℕ → Label
case_label height = record { height = height; within = 1 }
