-- Digits before newlines, and one newline more than digits of them.
use Rattle.std.proofs.Common.{◌≡◌, ◌∙◌, ℕ, suc, ◌+◌, ◌-◌, ◌≤◌, List, [], ◌∷◌, ◌++◌, length, take, drop, ap, arith}
use Rattle.std.specs.Prelude.{replicate}
use Rattle.std.proofs.lemmas.List.{drop-replicate}
use Rattle.std.proofs.Math.Seq.{take-append-add}

newlines : (n : ℕ) → n ≤ 40 → take {A = ℕ} 1 (drop {A = ℕ} n (replicate 41 10)) ≡ 10 ∷ []
newlines n le =
    let some : 41 - n ≡ suc (40 - n) = omega (arith, le) in
    ap (take {A = ℕ} 1) (drop-replicate {X = ℕ} n 41 10 ∙ ap (λ (k : ℕ). replicate k 10) some)

pub line_is : (line digits : List ℕ) → line ≡ digits → length digits ≤ 40 → take (length digits + 1) (line ++ drop (length digits) (replicate 41 10)) ≡ digits ++ 10 ∷ []
line_is line digits e le =
    ap (λ (l : List ℕ). take (length digits + 1) (l ++ drop (length digits) (replicate 41 10))) e
    ∙ take-append-add digits (drop (length digits) (replicate 41 10)) 1
    ∙ ap (λ (l : List ℕ). digits ++ l) (newlines (length digits) le)
