-- The first line of a text.
use Rattle.std.specs.Prelude.{◌≡◌, ℕ, ◌<◌, ◌≤◌, List, ◌∷◌, length, take, drop}
use Rattle.rwc_reports.specs.Shows.{lines_of}

-- so many bytes are the first line, and those behind it are the others
pub record FirstLine (text : List ℕ) (n : ℕ) : Type 0 where
  pub lines : lines_of text ≡ take n text ∷ lines_of (drop n text)
  pub some : 0 < n
  pub within : n ≤ length text
