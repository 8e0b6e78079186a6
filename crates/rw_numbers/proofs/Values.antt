-- The value of decimal digits, read one after another: further digits lessen no value.
use Rattle.std.proofs.Common.{◌≡◌, ◌∙◌, ℕ, suc, ◌+◌, ◌-◌, ◌*◌, ◌^◌, ◌<◌, ◌≤◌, List, [], ◌∷◌, length, drop, get_or, ap, arith, drop-cons}
use Rattle.rich_text.specs.Numbers.{value_after}

value_after-ge : (digits : List ℕ) (v : ℕ) → v ≤ value_after v digits
value_after-ge [] v = omega arith
value_after-ge (d ∷ ds) v = omega (arith, value_after-ge ds (10 * v + (d - 48)))

-- digits of which the first ones have the value v, and which are too great with the next one
pub too_great : (digits : List ℕ) (v i : ℕ) → i < length digits → value_after 0 digits ≡ value_after v (drop i digits) → 2 ^ 64 ≤ 10 * v + (get_or digits i 0 - 48) → 2 ^ 64 ≤ value_after 0 digits
too_great digits v i within so_far great =
    let next : value_after 0 digits ≡ value_after (10 * v + (get_or digits i 0 - 48)) (drop (suc i) digits) = so_far ∙ ap (value_after v) (drop-cons digits i 0 within) in
    omega (arith, value_after-ge (drop (suc i) digits) (10 * v + (get_or digits i 0 - 48)))
