-- Entries of a vector one after another: none, and one before the others. By the laws of readers.
use Rattle.std.proofs.Common.{◌≡◌, ◌∙◌, ℕ, zero, suc, ◌-◌, ◌≢◌, List, [], ◌∷◌, ◌++◌, ap, sym, arith, append_assoc, append-nil}
use Rattle.wasm_reading.specs.Readers.{Reader, ◌>>=◌, give, each_at}
use Rattle.wasm_items.specs.Vectors.{more_at}
use Rattle.wasm_items.proofs.ReaderLaws.{then_give, then_then, then_same}

-- There are no more entries.
pub more_none : {A : Type 0} (item : Reader A) (before : List A) → more_at item before 0 ≡ give before
more_none item before = ap give (append-nil before)

-- All entries are still to be read.
pub more_all : {A : Type 0} (item : Reader A) (n : ℕ) → more_at item [] n ≡ each_at item n
more_all item n = then_give (each_at item n)

joined : {A : Type 0} (item : Reader A) (before : List A) (n : ℕ) (x : A) → (each_at item n >>= (λ xs. give (x ∷ xs))) >>= (λ xs. give (before ++ xs)) ≡ more_at item (before ++ x ∷ []) n
joined item before n x =
    then_then (each_at item n) (λ xs. give (x ∷ xs)) (λ xs. give (before ++ xs))
    ∙ then_same (each_at item n) (λ xs. give (before ++ x ∷ xs)) (λ xs. give ((before ++ x ∷ []) ++ xs)) (λ xs. ap give (sym (append_assoc before (x ∷ []) xs)))

-- An entry, and the others behind it.
pub more_more : {A : Type 0} (item : Reader A) (before : List A) (n : ℕ) → more_at item before (suc n) ≡ item >>= (λ x. more_at item (before ++ x ∷ []) n)
more_more {A} item before n =
    then_then item (λ x. each_at item n >>= (λ xs. give (x ∷ xs))) (λ xs. give (before ++ xs))
    ∙ then_same item (λ (x : A). (each_at item n >>= (λ xs. give (x ∷ xs))) >>= (λ xs. give (before ++ xs))) (λ x. more_at item (before ++ x ∷ []) n) (joined item before n)

-- The state that reads the next entry of so many.
pub next_entry : {A : Type 0} (item entry : Reader A) (before : List A) (n : ℕ) → entry ≡ item → n ≢ 0 → entry >>= (λ x. more_at item (before ++ x ∷ []) (n - 1)) ≡ more_at item before n
next_entry item entry before zero e some = absurd (some (omega arith))
next_entry item entry before (suc n) e some =
    let m : suc n - 1 ≡ n = omega arith in
    rw (e, m) (sym (more_more item before n))
