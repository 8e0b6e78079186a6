-- Places of one text stand in its order: none is behind itself.
use Rattle.std.proofs.Common.{◌≡◌, ℕ, ◌+◌, ◌<◌, Bool, true, false, List, [], ◌∷◌, refl, sym, subst, inl, inr, arith}
use Rattle.std.specs.Prelude.{◌⊎◌, ◌==◌, if◌then◌else◌}
use Rattle.rich_text.specs.Places.{Place, place_behind, place_after}

-- a place and one that stands behind it
abbrev pub Earlier : Place → Place → Type 0
Earlier p q = (p.line < q.line) ⊎ ((p.line ≡ q.line) × (p.column < q.column))

-- two places
abbrev pub Apart : Place → Place → Type 0
Apart p q = p ≡ q → ⊥

line_or_column : (b : Bool) (at : Place) → Earlier at (if b then record { line = at.line + 1; column = 1 } else record { line = at.line; column = at.column + 1 })
line_or_column true at = inl (omega arith)
line_or_column false at = inr (refl, omega arith)

pub one_behind : (b : ℕ) (at : Place) → Earlier at (place_behind b at)
one_behind b at = line_or_column (b == 10) at

pub earlier_trans : (p q r : Place) → Earlier p q → Earlier q r → Earlier p r
earlier_trans p q r (inl h) (inl g) = inl (omega (arith, h, g))
earlier_trans p q r (inl h) (inr g) = inl (omega (arith, h, g.0))
earlier_trans p q r (inr h) (inl g) = inl (omega (arith, h.0, g))
earlier_trans p q r (inr h) (inr g) = inr (let e : p.line ≡ r.line = omega (arith, h.0, g.0) in e, omega (arith, h.1, g.1))

never_self : (p : Place) → Earlier p p → ⊥
never_self p (inl h) = absurd (omega (arith, h))
never_self p (inr h) = absurd (omega (arith, h.1))

pub earlier_apart : (p q : Place) → Earlier p q → Apart p q
earlier_apart p q h e = never_self p (subst (λ r. Earlier p r) (sym e) h)

pub later_apart : (p q : Place) → Earlier p q → Apart q p
later_apart p q h e = never_self p (subst (λ r. Earlier p r) e h)

-- behind one byte and more
pub all_behind : (b : ℕ) (bs : List ℕ) (at : Place) → Earlier at (place_after (b ∷ bs) at)
all_behind b [] at = one_behind b at
all_behind b (c ∷ bs) at = earlier_trans at (place_behind b at) (place_after (c ∷ bs) (place_behind b at)) (one_behind b at) (all_behind c bs (place_behind b at))
