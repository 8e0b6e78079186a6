-- One derivation, one first violation, and not both, by induction on the derivations; and of modules part by part.
use Rattle.std.proofs.Common.{◌≡◌, ℕ, List, [], ◌∷◌, Option, sym, ap, ◌∙◌, subst}
use Rattle.rw_types.specs.declared.instrs.Instr.{Instr}
use Rattle.rw_types.specs.declared.types.Ty.{Ty}
use Rattle.rich_typing.specs.declared.notes.Note.{Note}
use Rattle.rich_typing.specs.declared.notes.Place.{Place}
use Rattle.rich_typing.specs.declared.rules.Rule.{Rule}
use Rattle.rich_rules.specs.Points.{Frame, Point, Broken, Broke, Outcome, Entry, Demand}
use Rattle.rich_rules.specs.Table.{note_of, arms_of}
use Rattle.rich_rules.specs.Derivations.{Derives, Follows, DerivesArms, at_end, step, ends, goes_on, enters, no_arm, arm}
use Rattle.rich_rules.specs.Violations.{Violates, Meets, ViolatesArm, in_end, in_step, here, dead, later, inside, beyond, in_arm, in_later_arm}
use Rattle.rich_rules.specs.Modules.{Part, Field, Body, AreTyped, AreViolated, no_part, field, body, in_field, after_field, in_body, after_body}

module _ (f : Frame) where
  follows_at : {d : Demand} {p : Point} {i : Instr} {is : List Instr} {o o' : Outcome} {notes : List Note} → o ≡ o' → Follows f d p i is o notes → Follows f d p i is o' notes
  follows_at {d} {p} {i} {is} {notes = notes} e x = subst (λ (o : Outcome). Follows f d p i is o notes) e x

  meets_at : {d : Demand} {p : Point} {at : ℕ} {i : Instr} {is : List Instr} {o o' : Outcome} {path : List ℕ} {b : Broken} → o ≡ o' → Meets f d p at i is o path b → Meets f d p at i is o' path b
  meets_at {d} {p} {at} {i} {is} {path = path} {b = b} e x = subst (λ (o : Outcome). Meets f d p at i is o path b) e x

  mutual
    pub one_derivation : {d : Demand} {p : Point} (is : List Instr) {notes notes' : List Note} → Derives f d p is notes → Derives f d p is notes' → notes ≡ notes'
    one_derivation [] (at_end e n) (at_end e' n') = n ∙ sym n'
    one_derivation {p = p} (i ∷ is) (step o ns r n x) (step o' ns' r' n' x') = n ∙ ap (λ (l : List Note). note_of f p i ∷ l) (one_following i is x (follows_at (sym r' ∙ r) x')) ∙ sym n'

    one_following : {d : Demand} {p : Point} (i : Instr) (is : List Instr) {o : Outcome} {notes notes' : List Note} → Follows f d p i is o notes → Follows f d p i is o notes' → notes ≡ notes'
    one_following i is (ends e n) (ends e' n') = n ∙ sym n'
    one_following i is (goes_on x) (goes_on x') = one_derivation is x x'
    one_following i is (enters inner ns n a x) (enters inner' ns' n' a' x') = let first : inner ≡ inner' = one_of_arms (arms_of i) a a' in let same : ns ≡ ns' = one_derivation is x x' in cc

    one_of_arms : {e : Entry} {j : ℕ} (arms : List (List Instr)) {notes notes' : List Note} → DerivesArms f e j arms notes → DerivesArms f e j arms notes' → notes ≡ notes'
    one_of_arms [] (no_arm n) (no_arm n') = n ∙ sym n'
    one_of_arms (is ∷ arms) (arm first ns n x xs) (arm first' ns' n' x' xs') = let one : first ≡ first' = one_derivation is x x' in let same : ns ≡ ns' = one_of_arms arms xs xs' in cc

  mutual
    pub never_both : {d : Demand} {p : Point} {at : ℕ} (is : List Instr) {notes : List Note} {path : List ℕ} {b : Broken} → Derives f d p is notes → Violates f d p at is path b → ⊥
    never_both [] (at_end e n) (in_end e' q) = cc
    never_both (i ∷ is) (step o ns r n x) (in_step o' r' x') = never_meets i is x (meets_at (sym r' ∙ r) x')

    never_meets : {d : Demand} {p : Point} {at : ℕ} (i : Instr) (is : List Instr) {o : Outcome} {notes : List Note} {path : List ℕ} {b : Broken} → Follows f d p i is o notes → Meets f d p at i is o path b → ⊥
    never_meets i is (ends e n) (dead j js e' q b) = cc
    never_meets i is (goes_on x) (later x') = never_both is x x'
    never_meets i is (enters inner l n a x) (inside q e a') = never_arm (arms_of i) a a'
    never_meets i is (enters inner l n a x) (beyond notes a' x') = never_both is x x'

    never_arm : {e : Entry} {j : ℕ} (arms : List (List Instr)) {notes : List Note} {path : List ℕ} {b : Broken} → DerivesArms f e j arms notes → ViolatesArm f e j arms path b → ⊥
    never_arm [] x y = elim y [ ]
    never_arm (is ∷ arms) (arm first l n x xs) (in_arm q e x') = never_both is x x'
    never_arm (is ∷ arms) (arm first l n x xs) (in_later_arm notes x' xs') = never_arm arms xs xs'

  mutual
    pub one_violation : {d : Demand} {p : Point} {at : ℕ} (is : List Instr) {path path' : List ℕ} {b b' : Broken} → Violates f d p at is path b → Violates f d p at is path' b' → (path ≡ path') × (b ≡ b')
    one_violation [] (in_end e q) (in_end e' q') = (q ∙ sym q', cc)
    one_violation (i ∷ is) (in_step o r x) (in_step o' r' x') = one_meeting i is x (meets_at (sym r' ∙ r) x')

    one_meeting : {d : Demand} {p : Point} {at : ℕ} (i : Instr) (is : List Instr) {o : Outcome} {path path' : List ℕ} {b b' : Broken} → Meets f d p at i is o path b → Meets f d p at i is o path' b' → (path ≡ path') × (b ≡ b')
    one_meeting i is (here q e) (here q' e') = (q ∙ sym q', e ∙ sym e')
    one_meeting i is (dead j js e q b) (dead j' js' e' q' b') = (q ∙ sym q', b ∙ sym b')
    one_meeting i is (later x) (later x') = one_violation is x x'
    one_meeting {at = at} i is (inside inner q a) (inside inner' q' a') = let same : (inner ≡ inner') × (_ ≡ _) = one_in_arms (arms_of i) a a' in (q ∙ ap (λ (l : List ℕ). at ∷ l) same.0 ∙ sym q', same.1)
    one_meeting i is (inside inner q a) (beyond notes a' x') = absurd (never_arm (arms_of i) a' a)
    one_meeting i is (beyond notes a x) (inside inner q a') = absurd (never_arm (arms_of i) a a')
    one_meeting i is (beyond notes a x) (beyond notes' a' x') = one_violation is x x'

    one_in_arms : {e : Entry} {j : ℕ} (arms : List (List Instr)) {path path' : List ℕ} {b b' : Broken} → ViolatesArm f e j arms path b → ViolatesArm f e j arms path' b' → (path ≡ path') × (b ≡ b')
    one_in_arms [] x y = elim x [ ]
    one_in_arms {j = j} (is ∷ arms) (in_arm inner q x) (in_arm inner' q' x') = let same : (inner ≡ inner') × (_ ≡ _) = one_violation is x x' in (q ∙ ap (λ (l : List ℕ). j ∷ l) same.0 ∙ sym q', same.1)
    one_in_arms (is ∷ arms) (in_arm inner q x) (in_later_arm notes x' xs') = absurd (never_both is x' x)
    one_in_arms (is ∷ arms) (in_later_arm notes x xs) (in_arm inner q x') = absurd (never_both is x x')
    one_in_arms (is ∷ arms) (in_later_arm notes x xs) (in_later_arm notes' x' xs') = one_in_arms arms xs xs'

pub one_typing : (ps : List Part) {notes notes' : List (List Note)} → AreTyped ps notes → AreTyped ps notes' → notes ≡ notes'
one_typing [] (no_part n) (no_part n') = n ∙ sym n'
one_typing (Field at o ∷ ps) (field e x) (field e' x') = one_typing ps x x'
one_typing (Body at f d p is ∷ ps) (body own ns n y x) (body own' ns' n' y' x') = let first : own ≡ own' = one_derivation f is y y' in let same : ns ≡ ns' = one_typing ps x x' in cc

pub typed_never_violated : (ps : List Part) {notes : List (List Note)} {place : Place} {b : Broken} → AreTyped ps notes → AreViolated ps place b → ⊥
typed_never_violated [] x y = elim y [ ]
typed_never_violated (Field at o ∷ ps) (field e x) (in_field e' q) = cc
typed_never_violated (Field at o ∷ ps) (field e x) (after_field e' x') = typed_never_violated ps x x'
typed_never_violated (Body at f d p is ∷ ps) (body own ns n y x) (in_body path q y') = never_both f is y y'
typed_never_violated (Body at f d p is ∷ ps) (body own ns n y x) (after_body own' y' x') = typed_never_violated ps x x'

pub one_violated : (ps : List Part) {place place' : Place} {b b' : Broken} → AreViolated ps place b → AreViolated ps place' b' → (place ≡ place') × (b ≡ b')
one_violated [] x y = elim x [ ]
one_violated (Field at o ∷ ps) (in_field e q) (in_field e' q') = (q ∙ sym q', cc)
one_violated (Field at o ∷ ps) (in_field e q) (after_field e' x') = cc
one_violated (Field at o ∷ ps) (after_field e x) (in_field e' q') = cc
one_violated (Field at o ∷ ps) (after_field e x) (after_field e' x') = one_violated ps x x'
one_violated (Body at f d p is ∷ ps) (in_body path q y) (in_body path' q' y') = let same : (path ≡ path') × (_ ≡ _) = one_violation f is y y' in (q ∙ ap at same.0 ∙ sym q', same.1)
one_violated (Body at f d p is ∷ ps) (in_body path q y) (after_body own y' x') = absurd (never_both f is y' y)
one_violated (Body at f d p is ∷ ps) (after_body own y x) (in_body path q y') = absurd (never_both f is y y')
one_violated (Body at f d p is ∷ ps) (after_body own y x) (after_body own' y' x') = one_violated ps x x'

-- the three parts of what is broken
broken_of : Broken → Rule
broken_of (Broke broken found expected) = broken

found_of : Broken → Option Ty
found_of (Broke broken found expected) = found

expected_of : Broken → Option Ty
expected_of (Broke broken found expected) = expected

pub same_parts : (broken breaks : Rule) (found expected finds expects : Option Ty) → Broke broken found expected ≡ Broke breaks finds expects → (broken ≡ breaks) × (found ≡ finds) × (expected ≡ expects)
unfolding broken_of found_of expected_of
same_parts broken breaks found expected finds expects e = (ap broken_of e, ap found_of e, ap expected_of e)
