-- Words that are written, words that are kept, and words side by side.
use Rattle.std.proofs.Common.{◌≡◌, ◌∙◌, ◌≤◌, ◌<◌, ◌⊎◌, inl, inr, ℕ, zero, suc, ◌+◌, List, [], ◌∷◌, ◌++◌, Some, length, refl, ap, subst, arith}
use Rattle.std.specs.Prelude.{slice_get, slice_set}
use Rattle.std.proofs.lemmas.List.{length-append}
use Rattle.rw_types.specs.declared.types.Ty.{Ty}
use Rattle.rich_types.specs.Scopes.{Scope}
use Rattle.rich_types.specs.Sizes.{list_size}
use Rattle.rich_reduction.specs.Configurations.{Val}
use Rattle.lowering_runs.specs.Laws.{written}
use Rattle.simulation_relation.specs.Words.{AreSpelled, Book, Holds}
use Rattle.simulation_frames.specs.Laws.{AreKept, WordsAreWritten}

set_length : (locals : List ℕ) (n v : ℕ) → length (slice_set locals n v) ≡ length locals
set_length [] n v = refl
set_length (x ∷ locals) zero v = refl
set_length (x ∷ locals) (suc n) v = ap suc (set_length locals n v)

set_there : (locals : List ℕ) (n v : ℕ) → n < length locals → slice_get (slice_set locals n v) n ≡ Some v
set_there [] n v h = absurd (omega (arith, h))
set_there (x ∷ locals) zero v h = refl
set_there (x ∷ locals) (suc n) v h = set_there locals n v (omega (arith, h))

set_elsewhere : (locals : List ℕ) (m n v : ℕ) → (m < n) ⊎ (n < m) → slice_get (slice_set locals n v) m ≡ slice_get locals m
set_elsewhere [] m n v h = refl
set_elsewhere (x ∷ locals) zero zero v (inl h) = absurd (omega (arith, h))
set_elsewhere (x ∷ locals) zero zero v (inr h) = absurd (omega (arith, h))
set_elsewhere (x ∷ locals) zero (suc n) v h = refl
set_elsewhere (x ∷ locals) (suc m) zero v h = refl
set_elsewhere (x ∷ locals) (suc m) (suc n) v (inl h) = set_elsewhere locals m n v (inl (omega (arith, h)))
set_elsewhere (x ∷ locals) (suc m) (suc n) v (inr h) = set_elsewhere locals m n v (inr (omega (arith, h)))

pub written_length : (to : ℕ) (ws locals : List ℕ) → length (written to ws locals) ≡ length locals
written_length to [] locals = refl
written_length to (v ∷ ws) locals = written_length (suc to) ws (slice_set locals to v) ∙ set_length locals to v

pub written_elsewhere : (to : ℕ) (ws locals : List ℕ) (n : ℕ) → (n < to) ⊎ (to + length ws ≤ n) → slice_get (written to ws locals) n ≡ slice_get locals n
written_elsewhere to [] locals n h = refl
written_elsewhere to (v ∷ ws) locals n (inl h) = written_elsewhere (suc to) ws (slice_set locals to v) n (inl (omega (arith, h))) ∙ set_elsewhere locals n to v (inl h)
written_elsewhere to (v ∷ ws) locals n (inr h) = written_elsewhere (suc to) ws (slice_set locals to v) n (inr (omega (arith, h))) ∙ set_elsewhere locals n to v (inr (omega (arith, h)))

pub written_held : (to : ℕ) (ws locals : List ℕ) → to + length ws ≤ length locals → Holds (written to ws locals) to ws
written_held to [] locals h = tt
written_held to (v ∷ ws) locals h =
    (written_elsewhere (suc to) ws (slice_set locals to v) to (inl (omega arith)) ∙ set_there locals to v (omega (arith, h)), written_held (suc to) ws (slice_set locals to v) (omega (arith, h, set_length locals to v)))

-- words beneath or above those that are written are kept
pub kept_below : (to : ℕ) (ws locals : List ℕ) (from up : ℕ) → up ≤ to → AreKept from up locals (written to ws locals)
kept_below to ws locals from up h = λ n l u. written_elsewhere to ws locals n (inl (omega (arith, h, u)))

pub kept_above : (to : ℕ) (ws locals : List ℕ) (from up : ℕ) → to + length ws ≤ from → AreKept from up locals (written to ws locals)
kept_above to ws locals from up h = λ n l u. written_elsewhere to ws locals n (inr (omega (arith, h, l)))

pub kept_held : (before after : List ℕ) (from to : ℕ) → AreKept from to before after → (at : ℕ) (ws : List ℕ) → from ≤ at → at + length ws ≤ to → Holds before at ws → Holds after at ws
kept_held before after from to k at [] l u h = tt
kept_held before after from to k at (v ∷ ws) l u h = (k at l (omega (arith, u)) ∙ h.0, kept_held before after from to k (suc at) ws (omega (arith, l)) (omega (arith, u)) h.1)

pub held_front : (locals : List ℕ) (at : ℕ) (xs ys : List ℕ) → Holds locals at (xs ++ ys) → Holds locals at xs
held_front locals at [] ys h = tt
held_front locals at (x ∷ xs) ys h = (h.0, held_front locals (suc at) xs ys h.1)

pub held_back : (locals : List ℕ) (at : ℕ) (xs ys : List ℕ) → Holds locals at (xs ++ ys) → Holds locals (at + length xs) ys
held_back locals at [] ys h = let same : at ≡ at + 0 = omega arith in subst (λ (n : ℕ). Holds locals n ys) same h
held_back locals at (x ∷ xs) ys h = let same : suc at + length xs ≡ at + suc (length xs) = omega arith in subst (λ (n : ℕ). Holds locals n ys) same (held_back locals (suc at) xs ys h.1)

pub held_joined : (locals : List ℕ) (at : ℕ) (xs ys : List ℕ) → Holds locals at xs → Holds locals (at + length xs) ys → Holds locals at (xs ++ ys)
held_joined locals at [] ys h g = let same : at + 0 ≡ at = omega arith in subst (λ (n : ℕ). Holds locals n ys) same g
held_joined locals at (x ∷ xs) ys h g = let same : at + suc (length xs) ≡ suc at + length xs = omega arith in (h.0, held_joined locals (suc at) xs ys h.1 (subst (λ (n : ℕ). Holds locals n ys) same g))

-- operands have as many words as their types
pub spelled_size : (book : Book) (c : Scope) (ts : List Ty) (vs : List Val) (ws : List ℕ) → AreSpelled book c ts vs ws → length ws ≡ list_size c ts
spelled_size book c [] [] ws h = ap (λ (l : List ℕ). length l) h
spelled_size book c [] (v ∷ vs) ws h = absurd h
spelled_size book c (t ∷ ts) [] ws h = absurd h
spelled_size book c (t ∷ ts) (v ∷ vs) ws h = omega (arith, ap (λ (l : List ℕ). length l) h.2, length-append h.0 h.1, h.3.sized, spelled_size book c ts vs h.0 h.4)

pub words_written : WordsAreWritten
words_written to ws locals = (written_held to ws locals, written_length to ws locals, written_elsewhere to ws locals)
