-- Lines that were put one after another, and what that leaves outside.
use Rattle.std.proofs.Common.{◌≡◌, ◌∙◌, ℕ, List, [], ◌∷◌, ◌++◌, map, refl, ap, sym, append_assoc, None, Some}
use Rattle.std.proofs.lemmas.List.{append-nil}
use Rattle.std.specs.Io.KnownBytes.{append_known}
use Rattle.std.specs.declared.option.Option.{Option}
use Rattle.machine_runs.specs.Lines as machine
use Rattle.rw_io.specs.States.{ShelfState, SinkState}
use Rattle.rwc_reports.specs.Acts.{Act, put, Outside, after_acts, outside_of}
use Rattle.rwc_reports.specs.Runs.{printed_line}

abbrev pub put_number : ℕ → Act
put_number n = put (printed_line n)

-- the acts that put numbers
abbrev pub puts : List ℕ → List Act
puts ns = map put_number ns

pub puts_of_lines : (ns : List ℕ) → map put (map printed_line ns) ≡ puts ns
puts_of_lines [] = refl
puts_of_lines (n ∷ ns) = ap (λ (acts : List Act). put_number n ∷ acts) (puts_of_lines ns)

pub puts_append : (ms ns : List ℕ) → puts (ms ++ ns) ≡ puts ms ++ puts ns
puts_append [] ns = refl
puts_append (m ∷ ms) ns = ap (λ (acts : List Act). put_number m ∷ acts) (puts_append ms ns)

pub append_nothing : (known : Option (List ℕ)) → append_known known [] ≡ known
append_nothing None = refl
append_nothing (Some bytes) = ap (λ (b : List ℕ). Some b) (append-nil bytes)

pub append_twice : (known : Option (List ℕ)) (xs ys : List ℕ) → append_known (append_known known xs) ys ≡ append_known known (xs ++ ys)
append_twice None xs ys = refl
append_twice (Some bytes) xs ys = ap (λ (b : List ℕ). Some b) (append_assoc bytes xs ys)

-- what numbers that were put leave
pub after_puts : (ns : List ℕ) (o : Outside) → after_acts (puts ns) o ≡ record { holding = o.holding; out = append_known o.out (machine.text_of ns) }
after_puts [] o = ap (λ (known : Option (List ℕ)). let p : Outside = record { holding = o.holding; out = known } in p) (sym (append_nothing o.out))
after_puts (n ∷ ns) o =
    after_puts ns (record { holding = o.holding; out = append_known o.out (printed_line n) })
    ∙ ap (λ (known : Option (List ℕ)). let p : Outside = record { holding = o.holding; out = known } in p) (append_twice o.out (printed_line n) (machine.text_of ns))

-- a sink to which these bytes were added
pub outside_more : (shelf : ShelfState) (out out' : SinkState) (bytes : List ℕ) → out'.bytes ≡ append_known out.bytes bytes → outside_of shelf out' ≡ record { holding = shelf.holding; out = append_known out.bytes bytes }
outside_more shelf out out' bytes e = ap (λ (known : Option (List ℕ)). let p : Outside = record { holding = shelf.holding; out = known } in p) e

-- a sink to which the lines of these numbers were added
pub outside_puts : (shelf : ShelfState) (out out' : SinkState) (ns : List ℕ) → out'.bytes ≡ append_known out.bytes (machine.text_of ns) → outside_of shelf out' ≡ after_acts (puts ns) (outside_of shelf out)
outside_puts shelf out out' ns e = outside_more shelf out out' (machine.text_of ns) e ∙ sym (after_puts ns (outside_of shelf out))
