-- One piece after another is the two joined.
use Rattle.std.proofs.Common.{◌≡◌, ℕ, ◌+◌, List, ◌++◌, take, drop, refl, ap, sym, ◌∙◌, append_assoc, ◌-◌, length, arith, length-drop}
use Rattle.std.proofs.Math.Seq.{take-add}
use Rattle.std.proofs.lemmas.List.{take_all}
use Rattle.std.specs.declared.option.Option.{Option}
use Rattle.std.specs.declared.option.Option.TheVariants.{None, Some}
use Rattle.std.specs.Io.KnownBytes.{append_known}
use Rattle.rw_io.specs.Files.{NamedFile}
use Rattle.rw_io.specs.Pieces.{append_created}
use Rattle.rw_io.specs.States.{Holding, appended}

append_known_twice : (known : Option (List ℕ)) (xs ys : List ℕ) → append_known (append_known known xs) ys ≡ append_known known (xs ++ ys)
append_known_twice None xs ys = refl
append_known_twice (Some bytes) xs ys = ap (λ (b : List ℕ). Some b) (append_assoc bytes xs ys)

append_created_twice : (created : Option NamedFile) (xs ys : List ℕ) → append_created (append_created created xs) ys ≡ append_created created (xs ++ ys)
append_created_twice None xs ys = refl
append_created_twice (Some file) xs ys = ap (λ (b : List ℕ). Some (file.0, b)) (append_assoc file.1 xs ys)

appended_twice : (holding : Holding) (xs ys : List ℕ) → appended ys (appended xs holding) ≡ appended (xs ++ ys) holding
appended_twice holding xs ys = ap (λ (c : Option NamedFile). record { files = holding.files; created = c; has_created = holding.has_created }) (append_created_twice holding.created xs ys)

-- `&piece[at..]`
rest_of : (piece : List ℕ) (at : ℕ) → take (length piece - at) (drop at piece) ≡ drop at piece
rest_of piece at = take_all (length piece - at) (drop at piece) (omega (arith, length-drop at piece))

-- what was put so far, and then the front of the rest
pub next_known : (first known next : Option (List ℕ)) (piece : List ℕ) (at n : ℕ) → known ≡ append_known first (take at piece) → next ≡ append_known known (take n (take (length piece - at) (drop at piece))) → next ≡ append_known first (take (at + n) piece)
next_known first known next piece at n before now =
    now ∙ ap (λ (b : Option (List ℕ)). append_known b (take n (take (length piece - at) (drop at piece)))) before
    ∙ append_known_twice first (take at piece) (take n (take (length piece - at) (drop at piece)))
    ∙ ap (λ (b : List ℕ). append_known first (take at piece ++ take n b)) (rest_of piece at)
    ∙ ap (λ (b : List ℕ). append_known first b) (sym (take-add at n piece))

pub next_appended : (first holding next : Holding) (piece : List ℕ) (at n : ℕ) → holding ≡ appended (take at piece) first → next ≡ appended (take n (take (length piece - at) (drop at piece))) holding → next ≡ appended (take (at + n) piece) first
next_appended first holding next piece at n before now =
    now ∙ ap (λ (h : Holding). appended (take n (take (length piece - at) (drop at piece))) h) before
    ∙ appended_twice first (take at piece) (take n (take (length piece - at) (drop at piece)))
    ∙ ap (λ (b : List ℕ). appended (take at piece ++ take n b) first) (rest_of piece at)
    ∙ ap (λ (b : List ℕ). appended b first) (sym (take-add at n piece))
