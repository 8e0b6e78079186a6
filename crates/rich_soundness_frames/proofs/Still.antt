-- Where nothing turns, and where no location is live yet.
use Rattle.std.proofs.Common.{◌≡◌, ◌≤◌, ℕ, List, [], ◌∷◌, length, Option, Some, None, refl, ap, arith}
use Rattle.std.specs.Prelude.{slice_get}
use Rattle.rich_reduction.specs.Configurations.{Cell}
use Rattle.rich_rights.specs.Rights.{is_live}
use Rattle.rich_soundness_values.specs.Heaps.{Heaps}
use Rattle.rich_soundness_values.specs.Laws.{Keeps}

pub nothing_turns : (n : ℕ) (hs : Heaps) → Keeps n hs hs
nothing_turns n hs = record { stands = λ l h z s. s; functions = refl }

get-past : {A : Type 0} (xs : List A) → slice_get xs (length xs) ≡ None
get-past [] = refl
get-past (x ∷ xs) = get-past xs

pub not_yet : (os : List (Option Cell)) → is_live (slice_get os (length os)) ≡ 0
not_yet os = ap is_live (get-past os)

pub live_most : (o : Option (Option Cell)) → is_live o ≤ 1
live_most (Some (Some cell)) = omega arith
live_most (Some None) = omega arith
live_most None = omega arith
