-- Lines that are put one after another.
use Rattle.std.proofs.Common.{◌≡◌, ◌+◌, ◌<◌, ◌≤◌, ℕ, zero, suc, List, [], ◌∷◌, ◌++◌, map, take, drop, get_or, length, refl, ap, sym, ◌∙◌, arith, string_bytes}
use Rattle.std.specs.declared.alloc.Global.{Global}
use Rattle.std.specs.declared.string.String.{String}
use Rattle.rwc_reports.specs.Acts.{Act, put}
use Rattle.rwc_reports.specs.Jobs.{lines_job}

abbrev pub put_line : String Global → Act
put_line line = put (string_bytes line)

pub acts_of : (lines : List (String Global)) → (lines_job (map string_bytes lines) 0).acts ≡ map put_line lines
acts_of [] = refl
acts_of (line ∷ lines) = ap (λ (acts : List Act). put_line line ∷ acts) (acts_of lines)

-- the lines before one, that one, and those behind it
pub split_at : (lines : List (String Global)) (i : ℕ) (line : String Global) → i < length lines → line ≡ get_or lines i line →
    map put_line lines ≡ map put_line (take i lines) ++ (put_line line ∷ map put_line (drop (suc i) lines))
split_at [] i line lt is = absurd (omega (arith, lt))
split_at (x ∷ xs) zero line lt is = ap (λ (y : String Global). put_line y ∷ map put_line xs) (sym is)
split_at (x ∷ xs) (suc i) line lt is = ap (λ (acts : List Act). put_line x ∷ acts) (split_at xs i line (omega (arith, lt)) is)

line_more : (lines : List (String Global)) (i : ℕ) (line : String Global) → i < length lines → line ≡ get_or lines i line →
    map put_line (take (suc i) lines) ≡ map put_line (take i lines) ++ (put_line line ∷ [])
line_more [] i line lt is = absurd (omega (arith, lt))
line_more (x ∷ xs) zero line lt is = ap (λ (y : String Global). put_line y ∷ []) (sym is)
line_more (x ∷ xs) (suc i) line lt is = ap (λ (acts : List Act). put_line x ∷ acts) (line_more xs i line (omega (arith, lt)) is)

pub one_more : (lines : List (String Global)) (i : ℕ) (line : String Global) → i < length lines → line ≡ get_or lines i line →
    map put_line (take (i + 1) lines) ≡ map put_line (take i lines) ++ (put_line line ∷ [])
one_more lines i line lt is = let same : i + 1 ≡ suc i = omega arith in ap (λ (n : ℕ). map put_line (take n lines)) same ∙ line_more lines i line lt is

pub all_lines : (lines : List (String Global)) (i : ℕ) → length lines ≤ i → map put_line (take i lines) ≡ map put_line lines
all_lines [] zero le = refl
all_lines [] (suc i) le = refl
all_lines (x ∷ xs) zero le = absurd (omega (arith, le))
all_lines (x ∷ xs) (suc i) le = ap (λ (acts : List Act). put_line x ∷ acts) (all_lines xs i (omega (arith, le)))
