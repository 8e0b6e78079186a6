-- What stands after the last slash, one slash at a time.
use Rattle.std.proofs.Common.{◌≡◌, ℕ, suc, ◌+◌, ◌<◌, Bool, true, false, not, ◌||◌, List, [], ◌∷◌, length, drop, cond, refl, ap, sym, ◌∙◌, arith, ◌==◌, ◌≤◌, nat_lt, Some, None, position}
use Rattle.std.proofs.lemmas.Bool.Decides.{nat_tests}
use Rattle.std.specs.List.{list_any, after_first, position_or_len}
use Rattle.words.specs.Files.{after_last_slash}

abbrev pub is_slash : ℕ → Bool
is_slash b = b == 47

no_slash_step : (t any : Bool) (b : ℕ) (bs rest : List ℕ) → (t || any) ≡ false → cond any rest (cond t bs (b ∷ bs)) ≡ b ∷ bs
no_slash_step true any b bs rest h = absurd cc
no_slash_step false true b bs rest h = absurd cc
no_slash_step false false b bs rest h = refl

-- where there is no slash, all of it
pub no_slash : (s : List ℕ) → list_any is_slash s ≡ false → after_last_slash s ≡ s
no_slash [] h = refl
no_slash (b ∷ bs) h = no_slash_step (b == 47) (list_any is_slash bs) b bs (after_last_slash bs) h

has_slash_step : (t any : Bool) (n m : ℕ) → cond (not t) (1 + n) 0 < suc m → (n < m → any ≡ true) → (t || any) ≡ true
has_slash_step true any n m h f = refl
has_slash_step false any n m h f = f (omega arith)

has_slash : (s : List ℕ) → position_or_len is_slash s < length s → list_any is_slash s ≡ true
has_slash [] h = absurd (omega arith)
has_slash (b ∷ bs) h = has_slash_step (b == 47) (list_any is_slash bs) (position_or_len is_slash bs) (length bs) (omega arith) (has_slash bs)

none_step : (t any : Bool) (n m : ℕ) → cond (not t) (1 + n) 0 ≡ suc m → (n ≡ m → any ≡ false) → (t || any) ≡ false
none_step true any n m h f = absurd (omega arith)
none_step false any n m h f = f (omega arith)

no_place : (s : List ℕ) → position_or_len is_slash s ≡ length s → list_any is_slash s ≡ false
no_place [] h = refl
no_place (b ∷ bs) h = none_step (b == 47) (list_any is_slash bs) (position_or_len is_slash bs) (length bs) (omega arith) (no_place bs)

-- the last part is all, where a search finds no slash
pub last_is_all : (s : List ℕ) → position_or_len is_slash s ≡ length s → after_last_slash s ≡ s
last_is_all s h = no_slash s (no_place s h)

either : (any : Bool) (bs : List ℕ) → list_any is_slash bs ≡ any → cond any (after_last_slash bs) bs ≡ after_last_slash bs
either true bs e = refl
either false bs e = sym (no_slash bs e)

past : (n : ℕ) (b : ℕ) (bs : List ℕ) → drop (1 + n + 1) (b ∷ bs) ≡ drop (n + 1) bs
past n b bs = let e : 1 + n + 1 ≡ suc (n + 1) = omega arith in ap (λ (k : ℕ). drop k (b ∷ bs)) e

step : (t : Bool) (b : ℕ) (bs : List ℕ) → cond (not t) (1 + position_or_len is_slash bs) 0 < suc (length bs) →
    (position_or_len is_slash bs < length bs → after_last_slash bs ≡ after_last_slash (after_first is_slash bs)) →
    cond (list_any is_slash bs) (after_last_slash bs) (cond t bs (b ∷ bs)) ≡ after_last_slash (drop (cond (not t) (1 + position_or_len is_slash bs) 0 + 1) (b ∷ bs))
step true b bs h f = either (list_any is_slash bs) bs refl
step false b bs h f =
    let lt : position_or_len is_slash bs < length bs = omega arith in
    ap (λ (any : Bool). cond any (after_last_slash bs) (b ∷ bs)) (has_slash bs lt) ∙ f lt ∙ ap after_last_slash (sym (past (position_or_len is_slash bs) b bs))

-- the last part is that of what stands after the first slash
pub last_after_first : (s : List ℕ) → position_or_len is_slash s < length s → after_last_slash s ≡ after_last_slash (after_first is_slash s)
last_after_first [] h = absurd (omega arith)
last_after_first (b ∷ bs) h = step (b == 47) b bs (omega arith) (last_after_first bs)

at_most : (s : List ℕ) → position_or_len is_slash s ≤ length s
at_most [] = omega arith
at_most (b ∷ bs) = at_most_step (b == 47) (position_or_len is_slash bs) (length bs) (at_most bs)
  where
    at_most_step : (t : Bool) (n m : ℕ) → n ≤ m → cond (not t) (1 + n) 0 ≤ suc m
    at_most_step true n m h = omega arith
    at_most_step false n m h = omega arith

found_step : (n m : ℕ) (b : Bool) (at : ℕ) → nat_lt n m ≡ b → cond b (Some n) None ≡ Some at → (n < m) × (n ≡ at)
found_step n m true at e h = (grind (arith, nat_tests), cc)
found_step n m false at e h = absurd cc

-- what is found is the first slash
pub found : (s : List ℕ) (at : ℕ) → Some at ≡ position is_slash s → (position_or_len is_slash s < length s) × (position_or_len is_slash s ≡ at)
found s at h = found_step (position_or_len is_slash s) (length s) (nat_lt (position_or_len is_slash s) (length s)) at refl (sym h)

missed_step : (n m : ℕ) (b : Bool) → nat_lt n m ≡ b → cond b (Some n) None ≡ None → m ≤ n
missed_step n m true e h = absurd cc
missed_step n m false e h = grind (arith, nat_tests)

-- where none is found there is none
pub missed : (s : List ℕ) → None ≡ position is_slash s → position_or_len is_slash s ≡ length s
missed s h = omega (arith, at_most s, missed_step (position_or_len is_slash s) (length s) (nat_lt (position_or_len is_slash s) (length s)) refl (sym h))
