-- A text's first line ends at its first newline, or at its end; its other lines are those of what stands behind.
use Rattle.std.proofs.Common.{◌≡◌, ◌+◌, ◌<◌, ◌≤◌, ℕ, suc, Bool, true, false, not, cond, List, [], ◌∷◌, length, take, drop, refl, ap, sym, ◌∙◌, arith, nat_lt, ◌==◌, Some, None, position}
use Rattle.std.proofs.lemmas.Bool.Decides.{nat_tests}
use Rattle.std.specs.List.{position_or_len}
use Rattle.rwc_reports.specs.Shows.{before_lines, lines_of}
use Rattle.rwc_shows.specs.Lines.{FirstLine}

-- the length of the first line, its end counted
abbrev pub line_length : List ℕ → ℕ
line_length [] = 0
line_length (b ∷ bs) = cond (b == 10) 1 (suc (line_length bs))

abbrev Stepped : Bool → ℕ → List ℕ → ℕ → Type 0
Stepped t b bs n =
    (cond t ((b ∷ []) ∷ lines_of bs) (before_lines b (lines_of bs)) ≡ take (cond t 1 (suc n)) (b ∷ bs) ∷ lines_of (drop (cond t 1 (suc n)) (b ∷ bs)))
    × (0 < cond t 1 (suc n)) × (cond t 1 (suc n) ≤ suc (length bs))

last_line : (t : Bool) (b : ℕ) → Stepped t b [] 0
last_line true b = (refl, omega arith, omega arith)
last_line false b = (refl, omega arith, omega arith)

longer_line : (t : Bool) (b : ℕ) (bs : List ℕ) (n : ℕ) → FirstLine bs n → Stepped t b bs n
longer_line true b bs n f = (refl, omega arith, omega arith)
longer_line false b bs n f = (ap (before_lines b) f.lines, omega arith, omega (arith, f.within))

pub first_line : (text : List ℕ) → 0 < length text → FirstLine text (line_length text)
first_line [] h = absurd (omega (arith, h))
first_line (b ∷ []) h = let s = last_line (b == 10) b in record { lines = s.0; some = s.1; within = s.2 }
first_line (b ∷ c ∷ cs) h =
    let s = longer_line (b == 10) b (c ∷ cs) (line_length (c ∷ cs)) (first_line (c ∷ cs) (omega arith)) in record { lines = s.0; some = s.1; within = s.2 }

abbrev pub is_newline : ℕ → Bool
is_newline b = b == 10

found_step : (t : Bool) (n m k : ℕ) → cond (not t) (1 + n) 0 < suc m → (n < m → k ≡ n + 1) → cond t 1 (suc k) ≡ cond (not t) (1 + n) 0 + 1
found_step true n m k h f = refl
found_step false n m k h f = let e : k ≡ n + 1 = f (omega (arith, h)) in omega (arith, e)

length_found : (text : List ℕ) → position_or_len is_newline text < length text → line_length text ≡ position_or_len is_newline text + 1
length_found [] h = absurd (omega (arith, h))
length_found (b ∷ bs) h = found_step (b == 10) (position_or_len is_newline bs) (length bs) (line_length bs) h (length_found bs)

missed_step : (t : Bool) (n m k : ℕ) → suc m ≤ cond (not t) (1 + n) 0 → (m ≤ n → k ≡ m) → cond t 1 (suc k) ≡ suc m
missed_step true n m k h f = absurd (omega (arith, h))
missed_step false n m k h f = let e : k ≡ m = f (omega (arith, h)) in omega (arith, e)

length_missed : (text : List ℕ) → length text ≤ position_or_len is_newline text → line_length text ≡ length text
length_missed [] h = refl
length_missed (b ∷ bs) h = missed_step (b == 10) (position_or_len is_newline bs) (length bs) (line_length bs) h (length_missed bs)

some_step : (n m : ℕ) (b : Bool) (at : ℕ) → nat_lt n m ≡ b → cond b (Some n) None ≡ Some at → (n < m) × (n ≡ at)
some_step n m true at e h = (grind (arith, nat_tests), cc)
some_step n m false at e h = absurd cc

-- the newline that is found ends the first line
pub found_length : (text : List ℕ) (at : ℕ) → Some at ≡ position is_newline text → line_length text ≡ at + 1
found_length text at h =
    let f = some_step (position_or_len is_newline text) (length text) (nat_lt (position_or_len is_newline text) (length text)) at refl (sym h) in
    length_found text f.0 ∙ ap (λ (n : ℕ). n + 1) f.1

none_step : (n m : ℕ) (b : Bool) → nat_lt n m ≡ b → cond b (Some n) None ≡ None → m ≤ n
none_step n m true e h = absurd cc
none_step n m false e h = grind (arith, nat_tests)

-- where none is found, all of the text is one line
pub missed_length : (text : List ℕ) → None ≡ position is_newline text → line_length text ≡ length text
missed_length text h = length_missed text (none_step (position_or_len is_newline text) (length text) (nat_lt (position_or_len is_newline text) (length text)) refl (sym h))
