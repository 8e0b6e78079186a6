-- Numbers of words as they are told: one that is too great is told as the least such number. This project's own.
use Rattle.std.specs.Prelude.{ℕ, min}

-- the lesser of a number of words and 10,001
abbrev pub capped : ℕ → ℕ
capped n = min n 10001
