-- Each point that stands in a list has well-formed types, and each note of a derivation is that of such a point: by induction
-- on the two.
use Rattle.std.proofs.Common.{◌≡◌, ◌∙◌, ℕ, zero, suc, ◌+◌, List, [], ◌∷◌, ◌++◌, Some, refl, ap, sym, subst, take, arith, ◌⊎◌, inl, inr}
use Rattle.std.specs.Prelude.{slice_get}
use Rattle.std.proofs.Math.Path.{subst⁻¹}
use Rattle.rw_types.specs.declared.instrs.Instr.{Instr, LocalGet, LocalSet, LocalTake}
use Rattle.rw_types.specs.declared.types.Ty.{Ty}
use Rattle.rich_types.specs.Scopes.{scope_of}
use Rattle.rich_types.specs.WellFormed.{IsWellFormed}
use Rattle.rich_typing.specs.declared.notes.Note.{Note}
use Rattle.rich_rules.specs.Points.{Demand, Entry, Frame, Outcome, Point, start}
use Rattle.rich_rules.specs.Table.{arms_of, local_of, note_of, row, takes}
use Rattle.rich_rules.specs.Derivations.{Derives, DerivesArms, Follows, arm, at_end, ends, enters, goes_on, no_arm, step}
use Rattle.rich_rules_formed.specs.Formed.{IsFormedNote, IsFormedOutcome, IsFormedPoint}
use Rattle.rich_rules_formed.specs.Standing.{Stands, beyond, here, inside, later}
use Rattle.rich_rules_formed.specs.Laws.{NotesFormed, NotesStand, PointsFormed}
use Rattle.rich_rules_formed.proofs.Lists.{found, reversed, taken}
use Rattle.rich_rules_formed.proofs.Rows.{row_formed}

module _ (f : Frame) where
  pub points_formed : {p q : Point} (is : List Instr) → IsFormedPoint p → Stands f p is q → IsFormedPoint q
  points_formed is w (here e) = subst⁻¹ IsFormedPoint e w
  points_formed {p} (i ∷ is) w (later operands change e x) = points_formed is (subst (IsFormedOutcome p) e (row_formed f p w i)) x
  points_formed {p} (i ∷ is) w (inside en j a e g x) = points_formed a ((subst (IsFormedOutcome p) e (row_formed f p w i)).0 j) x
  points_formed {p} (i ∷ is) w (beyond en e x) = points_formed is (subst (IsFormedOutcome p) e (row_formed f p w i)).1 x

-- a note of a point that stands in a list
abbrev Noted : Frame → Point → List Instr → Note → Type 0
Noted f p is note = (q : Point) × (i : Instr) × Stands f p is q × (note ≡ note_of f q i)

-- an element of two lists is in one of them
split : {A : Type 0} (xs ys : List A) (n : ℕ) (x : A) → slice_get (xs ++ ys) n ≡ Some x → ((k : ℕ) × (slice_get xs k ≡ Some x)) ⊎ ((k : ℕ) × (slice_get ys k ≡ Some x))
split [] ys n x e = inr (n, e)
split (y ∷ xs) ys zero x e = inl (0, e)
split (y ∷ xs) ys (suc n) x e = elim (split xs ys n x e) [ inl a ↦ inl (suc a.0, a.1) | inr a ↦ inr a ]

first_note : {a b : Note} {xs ys : List Note} → xs ≡ a ∷ ys → slice_get xs 0 ≡ Some b → b ≡ a
first_note {a} {b} e g = let h : Some a ≡ Some b = sym (ap (λ (l : List Note). slice_get l 0) e) ∙ g in cc

none_there : {A B : Type 0} (xs : List A) (n : ℕ) (x : A) → xs ≡ [] → slice_get xs n ≡ Some x → B
none_there [] n x e g = cc
none_there (y ∷ xs) n x e g = cc

module _ (f : Frame) where
  mutual
    noted : {d : Demand} {p : Point} (is : List Instr) {notes : List Note} (n : ℕ) (note : Note) → Derives f d p is notes → slice_get notes n ≡ Some note → Noted f p is note
    noted [] {notes} n note (at_end e nn) g = none_there notes n note nn g
    noted {p = p} (i ∷ is) zero note (step o ns r nn x) g = (p, i, here refl, first_note nn g)
    noted (i ∷ is) (suc n) note (step o ns r nn x) g = noted_after i is n note ns r x (subst (λ (l : List Note). slice_get l (suc n) ≡ Some note) nn g)

    noted_after : {d : Demand} {p : Point} (i : Instr) (is : List Instr) {o : Outcome} (n : ℕ) (note : Note) (ns : List Note) → row f p i ≡ o → Follows f d p i is o ns → slice_get ns n ≡ Some note → Noted f p (i ∷ is) note
    noted_after i is n note ns r (ends e nn) g = none_there ns n note nn g
    noted_after i is n note ns r (goes_on {operands = operands} {change = change} x) g = let y = noted is n note x g in (y.0, y.1, later operands change r y.2, y.3)
    noted_after i is n note ns r (enters {e = e} inner outer nn a x) g = elim (split inner outer n note (subst (λ (l : List Note). slice_get l n ≡ Some note) nn g)) [
      | inl k ↦ (let y = noted_arms (arms_of i) k.0 note a k.1 in
          let same : y.1 ≡ y.0 = omega (arith, y.2) in
          let z = subst (λ (j : ℕ). Noted f (start e j) y.3 note) same y.5 in
          (z.0, z.1, inside e y.0 y.3 r y.4 z.2, z.3))
      | inr k ↦ (let y = noted is k.0 note x k.1 in (y.0, y.1, beyond e r y.2, y.3))
    ]

    -- of the list with this number, counted from the first that is left and from the first of all
    noted_arms : {e : Entry} {j : ℕ} (arms : List (List Instr)) {notes : List Note} (n : ℕ) (note : Note) → DerivesArms f e j arms notes → slice_get notes n ≡ Some note →
        (k : ℕ) × (m : ℕ) × (m ≡ j + k) × (is : List Instr) × (slice_get arms k ≡ Some is) × Noted f (start e m) is note
    noted_arms [] {notes} n note (no_arm nn) g = none_there notes n note nn g
    noted_arms {e} {j} (is ∷ arms) n note (arm inner outer nn x xs) g = elim (split inner outer n note (subst (λ (l : List Note). slice_get l n ≡ Some note) nn g)) [
      | inl k ↦ (let none : j ≡ j + 0 = omega arith in (0, j, none, is, refl, noted is k.0 note x k.1))
      | inr k ↦ (let y = noted_arms arms k.0 note xs k.1 in let one_more : y.1 ≡ j + suc y.0 = omega (arith, y.2) in (suc y.0, y.1, one_more, y.3, y.4, y.5))
    ]

module _ (f : Frame) (p : Point) (w : IsFormedPoint p) where
  local_formed : (i : Instr) (t : Ty) → local_of i p.locals ≡ Some t → IsWellFormed (scope_of p.binders) t
  local_formed (LocalGet n) t e = found (scope_of p.binders) p.locals n t e w.locals
  local_formed (LocalTake n) t e = found (scope_of p.binders) p.locals n t e w.locals
  local_formed (LocalSet n) t e = found (scope_of p.binders) p.locals n t e w.locals
  local_formed _ t e = cc

  note_formed : (i : Instr) → IsFormedNote (note_of f p i)
  note_formed i = record {
    taken = reversed (scope_of p.binders) (take (takes f p i) p.operands) (taken (scope_of p.binders) (takes f p i) p.operands w.operands);
    local = local_formed i;
  }

pub every_point : PointsFormed
every_point f p is q w x = points_formed f is w x

pub notes_stand : NotesStand
notes_stand f d p is notes n note x g = noted f is n note x g

pub notes_formed : NotesFormed
notes_formed f d p is notes n note w x g = let y = noted f is n note x g in subst⁻¹ IsFormedNote y.3 (note_formed f y.0 (points_formed f is w y.2) y.1)
