-- Well-formed UTF-8 (The Unicode Standard, section 3.9, table 3-7), and the first byte that begins no such sequence.
use Rattle.std.specs.Prelude.{ℕ, zero, suc, ◌==◌, ◌&&◌, ◌||◌, nat_le, Bool, true, false, if◌then◌else◌, List, [], ◌∷◌, Option, None, Some}
use Rattle.rich_text.specs.Places.{Place, the_start, place_behind}

-- a byte in a range
abbrev pub between : ℕ → ℕ → ℕ → Bool
between low high b = nat_le low b && nat_le b high

-- bytes that begin with so many continuation bytes
abbrev pub continue : ℕ → List ℕ → Bool
continue zero bs = true
continue (suc n) [] = false
continue (suc n) (b ∷ bs) = between 0x80 0xBF b && continue n bs

-- bytes that begin with one in a range, and so many continuation bytes behind it
abbrev pub second_in : ℕ → ℕ → ℕ → List ℕ → Bool
second_in low high n [] = false
second_in low high n (b ∷ bs) = between low high b && continue n bs

-- how many bytes of a sequence follow its first byte, of those that stand behind it, where they make one
abbrev pub more_of : ℕ → List ℕ → Option ℕ
more_of b bs =
    if nat_le b 0x7F then Some 0
    else (if between 0xC2 0xDF b && continue 1 bs then Some 1
    else (if (b == 0xE0 && second_in 0xA0 0xBF 1 bs) || (b == 0xED && second_in 0x80 0x9F 1 bs) then Some 2
    else (if (between 0xE1 0xEC b || between 0xEE 0xEF b) && continue 2 bs then Some 2
    else (if (b == 0xF0 && second_in 0x90 0xBF 2 bs) || (b == 0xF4 && second_in 0x80 0x8F 2 bs) then Some 3
    else (if between 0xF1 0xF3 b && continue 3 bs then Some 3
    else None)))))

-- what follows a byte, at a place, where it begins a sequence
abbrev pub at_sequence : Place → Option ℕ → (ℕ → Option Place) → Option Place
at_sequence at None go = Some at
at_sequence at (Some more) go = go more

-- the place of the first byte that begins no sequence, where so many bytes of one are still to come
abbrev pub ill_formed_from : ℕ → Place → List ℕ → Option Place
ill_formed_from more at [] = None
ill_formed_from (suc more) at (b ∷ bs) = ill_formed_from more (place_behind b at) bs
ill_formed_from zero at (b ∷ bs) = at_sequence at (more_of b bs) (λ more. ill_formed_from more (place_behind b at) bs)

-- the first ill-formed sequence of a text
abbrev pub ill_formed : List ℕ → Option Place
ill_formed bytes = ill_formed_from 0 the_start bytes
