-- Places in a text: lines and columns from 1, columns in bytes (this project's own).
use Rattle.std.specs.Prelude.{ℕ, ◌+◌, ◌==◌, if◌then◌else◌, List, [], ◌∷◌}

-- a line and a column
pub record Place : Type 0 where
  pub line : ℕ
  pub column : ℕ

abbrev pub the_start : Place
the_start = record { line = 1; column = 1 }

-- the place behind a byte
abbrev pub place_behind : ℕ → Place → Place
place_behind b at = if b == 10 then record { line = at.line + 1; column = 1 } else record { line = at.line; column = at.column + 1 }

-- the place behind bytes
abbrev pub place_after : List ℕ → Place → Place
place_after [] at = at
place_after (b ∷ bs) at = place_after bs (place_behind b at)
