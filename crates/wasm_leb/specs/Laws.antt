-- Laws that a kind of number and its spellings may obey; this project's own words.
-- `Spells bytes n` says that the bytes spell `n`, and `least n` is its least spelling.
use Rattle.std.specs.Prelude.{◌≡◌, ℕ, ◌<◌, ◌≤◌, List, ◌++◌, length}

-- Each number of the kind has its least spelling.
abbrev pub LeastSpells : (List ℕ → ℕ → Type 0) → (ℕ → List ℕ) → ℕ → Type 0
LeastSpells Spells least limit = (n : ℕ) → n < limit → Spells (least n) n

-- No spelling is shorter than the least one.
abbrev pub NoneIsShorter : (List ℕ → ℕ → Type 0) → (ℕ → List ℕ) → Type 0
NoneIsShorter Spells least = (bytes : List ℕ) (n : ℕ) → Spells bytes n → length (least n) ≤ length bytes

-- No spelling begins another one, and each spells one number.
abbrev pub HasOneForm : (List ℕ → ℕ → Type 0) → Type 0
HasOneForm Spells = (a b x y : List ℕ) (m n : ℕ) → Spells a m → Spells b n → a ++ x ≡ b ++ y → (a ≡ b) × (m ≡ n)

-- What is spelled is a number of the kind.
abbrev pub IsInRange : (List ℕ → ℕ → Type 0) → ℕ → Type 0
IsInRange Spells limit = (bytes : List ℕ) (n : ℕ) → Spells bytes n → n < limit

-- No spelling has more bytes than so many.
abbrev pub HasAtMost : (List ℕ → ℕ → Type 0) → ℕ → Type 0
HasAtMost Spells most = (bytes : List ℕ) (n : ℕ) → Spells bytes n → length bytes ≤ most
