-- A derivation is one of the list with new numbers, by induction on it.
use Rattle.std.proofs.Common.{◌∙◌, ℕ, List, [], ◌∷◌, ap, sym, subst}
use Rattle.rw_types.specs.declared.instrs.Instr.{Instr}
use Rattle.rich_typing.specs.declared.notes.Note.{Note}
use Rattle.rich_rules.specs.Points.{Breaks, Demand, Ends, Enters, Entry, Frame, Gives, Outcome, Point}
use Rattle.rich_rules.specs.Table.{arms_of}
use Rattle.rich_rules.specs.Derivations.{Derives, DerivesArms, Follows, arm, at_end, ends, enters, goes_on, no_arm, step}
use Rattle.rich_linking.specs.Numbers.{NewNumbers, renumbered, renumbered_list}
use Rattle.rich_linking_laws.specs.Laws.{FramesAgree}
use Rattle.rich_linking_laws.proofs.Rows.{Goes, arms-renumbered, note-renumbered, renumbered_lists, row-renumbered}

module _ (k : NewNumbers) (f g : Frame) (same : FramesAgree k f g) where
  goes : {d : Demand} {p : Point} {i : Instr} {is : List Instr} (o : Outcome) {notes : List Note} → Follows f d p i is o notes → Goes o
  goes Ends x = tt
  goes (Gives operands change) x = tt
  goes (Enters e) x = tt
  goes (Breaks b) x = elim x [ ]

  mutual
    pub kept : {d : Demand} {p : Point} (is : List Instr) {notes : List Note} → Derives f d p is notes → Derives g d p (renumbered_list k is) notes
    kept [] (at_end e n) = at_end e n
    kept {p = p} (i ∷ is) (step o ns r n x) = step o ns (row-renumbered k f g same p i o r (goes o x)) (n ∙ ap (λ (m : Note). m ∷ ns) (sym (note-renumbered k f g same p i o r (goes o x)))) (kept_after i is x)

    kept_after : {d : Demand} {p : Point} (i : Instr) (is : List Instr) {o : Outcome} {notes : List Note} → Follows f d p i is o notes → Follows g d p (renumbered k i) (renumbered_list k is) o notes
    kept_after i is (ends e n) = ends (ap (renumbered_list k) e) n
    kept_after i is (goes_on x) = goes_on (kept is x)
    kept_after i is (enters {e = e} inner ns n a x) = enters inner ns n (subst (λ (arms : List (List Instr)). DerivesArms g e 0 arms inner) (sym (arms-renumbered k i)) (kept_arms (arms_of i) a)) (kept is x)

    kept_arms : {e : Entry} {j : ℕ} (arms : List (List Instr)) {notes : List Note} → DerivesArms f e j arms notes → DerivesArms g e j (renumbered_lists k arms) notes
    kept_arms [] (no_arm n) = no_arm n
    kept_arms (is ∷ arms) (arm inner ns n x xs) = arm inner ns n (kept is x) (kept_arms arms xs)
