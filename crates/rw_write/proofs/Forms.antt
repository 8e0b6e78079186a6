-- What was appended of a field, as its text.
use Rattle.std.proofs.Common.{◌≡◌, ◌∙◌, ℕ, List, [], ◌++◌, sym, ap, append-nil}

-- the last form of a list
pub last : (o n a : List ℕ) → n ≡ o ++ a → n ≡ o ++ (a ++ [])
last o n a e = e ∙ ap (λ (z : List ℕ). o ++ z) (sym (append-nil a))
