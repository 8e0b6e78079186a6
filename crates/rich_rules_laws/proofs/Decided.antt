-- A list has a derivation or a first violation, by induction on the trees; and so has a module, part by part. These compute, so
-- that rows can be read off.
use Rattle.std.proofs.Common.{◌≡◌, ◌⊎◌, inl, inr, ◌++◌, ℕ, suc, List, [], ◌∷◌, Option, Some, None, refl}
use Rattle.rw_types.specs.declared.instrs.Instr.{Instr, Block', Loop', If', MemUnpack', VariantCase', ExistUnpack', Row_of-Instr, end_of-Instr, more_of-Instr, items-the_row-Instr, Row_of-Instr-VariantCase-1-1, end_of-Instr-VariantCase-1-1, more_of-Instr-VariantCase-1-1}
use Rattle.rw_types.specs.declared.modules.Module.{Module}
use Rattle.rw_types.specs.declared.types.Ty.{Ty}
use Rattle.rich_typing.specs.declared.notes.Note.{Note}
use Rattle.rich_typing.specs.declared.notes.Place.{Place}
use Rattle.rich_typing.specs.declared.rules.Rule.{Rule}
use Rattle.rich_typing.specs.declared.rules.Rule.TheVariants as rule
use Rattle.rich_rules.specs.Points.{Frame, Point, Broken, Broke, Change, Outcome, Gives, Ends, Enters, Breaks, Entry, Demand, moved, start, after}
use Rattle.rich_rules.specs.Table.{row, note_of, arms_of, lists_of}
use Rattle.rich_rules.specs.Derivations.{end_broken, Derives, Follows, DerivesArms, at_end, step, ends, goes_on, enters, no_arm, arm}
use Rattle.rich_rules.specs.Violations.{Violates, Meets, ViolatesArm, in_end, in_step, here, dead, later, inside, beyond, in_arm, in_later_arm}
use Rattle.rich_rules.specs.Modules.{Part, Field, Body, AreTyped, AreViolated, no_part, field, body, in_field, after_field, in_body, after_body, parts_of, IsWellTyped, IsFirstViolation}

abbrev pub Decided : Frame → Demand → Point → ℕ → List Instr → Type 0
Decided f d p at is = ((notes : List Note) × Derives f d p is notes) ⊎ ((path : List ℕ) × (b : Broken) × Violates f d p at is path b)

abbrev pub DecidedArms : Frame → Entry → ℕ → List (List Instr) → Type 0
DecidedArms f e j arms = ((notes : List Note) × DerivesArms f e j arms notes) ⊎ ((path : List ℕ) × (b : Broken) × ViolatesArm f e j arms path b)

-- what stands after an outcome
abbrev pub DecidedAfter : Frame → Demand → Point → ℕ → Instr → List Instr → Outcome → Type 0
DecidedAfter f d p at i is o = ((notes : List Note) × Follows f d p i is o notes) ⊎ ((path : List ℕ) × (b : Broken) × Meets f d p at i is o path b)

abbrev end_of : (f : Frame) (d : Demand) (p : Point) (at : ℕ) (o : Option Broken) → end_broken d p ≡ o → Decided f d p at []
end_of f d p at None e = inl ([], at_end e refl)
end_of f d p at (Some b) e = inr (at ∷ [], b, in_end e refl)

abbrev ended : (f : Frame) (d : Demand) (p : Point) (at : ℕ) (i : Instr) (is : List Instr) → DecidedAfter f d p at i is Ends
ended f d p at i [] = inl ([], ends refl refl)
ended f d p at i (j ∷ js) = inr (suc at ∷ [], Broke rule.DeadCode None None, dead j js refl refl refl)

abbrev gone_on : (f : Frame) (d : Demand) (p : Point) (at : ℕ) (i : Instr) (is : List Instr) (operands : List Ty) (change : Option Change) → Decided f d (moved p operands change) (suc at) is → DecidedAfter f d p at i is (Gives operands change)
gone_on f d p at i is operands change (inl x) = inl (x.0, goes_on x.1)
gone_on f d p at i is operands change (inr x) = inr (x.0, x.1, later x.2)

abbrev behind_arms : (f : Frame) (d : Demand) (p : Point) (at : ℕ) (i : Instr) (is : List Instr) (e : Entry) (inner : List Note) → DerivesArms f e 0 (arms_of i) inner → Decided f d (after e p) (suc at) is → DecidedAfter f d p at i is (Enters e)
behind_arms f d p at i is e inner a (inl x) = inl (inner ++ x.0, enters inner x.0 refl a x.1)
behind_arms f d p at i is e inner a (inr x) = inr (x.0, x.1, beyond inner a x.2)

abbrev entered : (f : Frame) (d : Demand) (p : Point) (at : ℕ) (i : Instr) (is : List Instr) (e : Entry) → DecidedArms f e 0 (arms_of i) → Decided f d (after e p) (suc at) is → DecidedAfter f d p at i is (Enters e)
entered f d p at i is e (inr a) next = inr (at ∷ a.0, a.1, inside a.0 refl a.2)
entered f d p at i is e (inl a) next = behind_arms f d p at i is e a.0 a.1 next

-- after an outcome, where the lists of the instruction and what follows are decided
abbrev after_outcome : (f : Frame) (d : Demand) (p : Point) (at : ℕ) (i : Instr) (is : List Instr) → ((e : Entry) → DecidedArms f e 0 (arms_of i)) → ((q : Point) → Decided f d q (suc at) is) → (o : Outcome) → DecidedAfter f d p at i is o
after_outcome f d p at i is arms next (Breaks b) = inr (at ∷ [], b, here refl refl)
after_outcome f d p at i is arms next Ends = ended f d p at i is
after_outcome f d p at i is arms next (Gives operands change) = gone_on f d p at i is operands change (next (moved p operands change))
after_outcome f d p at i is arms next (Enters e) = entered f d p at i is e (arms e) (next (after e p))

abbrev stepped : (f : Frame) (d : Demand) (p : Point) (at : ℕ) (i : Instr) (is : List Instr) (o : Outcome) → row f p i ≡ o → DecidedAfter f d p at i is o → Decided f d p at (i ∷ is)
stepped f d p at i is o r (inl x) = inl (note_of f p i ∷ x.0, step o x.0 r refl x.1)
stepped f d p at i is o r (inr x) = inr (x.0, x.1, in_step o r x.2)

abbrev by_outcome : (f : Frame) (d : Demand) (p : Point) (at : ℕ) (i : Instr) (is : List Instr) → ((e : Entry) → DecidedArms f e 0 (arms_of i)) → ((q : Point) → Decided f d q (suc at) is) → Decided f d p at (i ∷ is)
by_outcome f d p at i is arms next = stepped f d p at i is (row f p i) refl (after_outcome f d p at i is arms next (row f p i))

abbrev none : (f : Frame) (e : Entry) (j : ℕ) → DecidedArms f e j []
none f e j = inl ([], no_arm refl)

abbrev by_arm : (f : Frame) (e : Entry) (j : ℕ) (is : List Instr) (arms : List (List Instr)) → Decided f e.demand (start e j) 0 is → DecidedArms f e (suc j) arms → DecidedArms f e j (is ∷ arms)
by_arm f e j is arms (inr x) xs = inr (j ∷ x.0, x.1, in_arm x.0 refl x.2)
by_arm f e j is arms (inl x) (inl xs) = inl (x.0 ++ xs.0, arm x.0 xs.0 refl x.1 xs.1)
by_arm f e j is arms (inl x) (inr xs) = inr (xs.0, xs.1, in_later_arm x.0 x.1 xs.2)

abbrev mutual
  pub arms_decided : (f : Frame) (e : Entry) (i : Instr) → DecidedArms f e 0 (arms_of i)
  arms_decided f e (Block' b m is) = by_arm f e 0 _ [] (row_decided f e.demand (start e 0) 0 is) (none f e 1)
  arms_decided f e (Loop' b m is) = by_arm f e 0 _ [] (row_decided f e.demand (start e 0) 0 is) (none f e 1)
  arms_decided f e (If' b m is n js) = by_arm f e 0 _ _ (row_decided f e.demand (start e 0) 0 is) (by_arm f e 1 _ [] (row_decided f e.demand (start e 1) 0 js) (none f e 2))
  arms_decided f e (MemUnpack' b m is) = by_arm f e 0 _ [] (row_decided f e.demand (start e 0) 0 is) (none f e 1)
  arms_decided f e (VariantCase' b m rows) = lists_decided f e 0 rows
  arms_decided f e (ExistUnpack' b m is) = by_arm f e 0 _ [] (row_decided f e.demand (start e 0) 0 is) (none f e 1)
  arms_decided f e _ = none f e 0

  pub lists_decided : (f : Frame) (e : Entry) (j : ℕ) {m : _} (rows : Row_of-Instr-VariantCase-1-1 m) → DecidedArms f e j (lists_of rows)
  lists_decided f e j end_of-Instr-VariantCase-1-1 = none f e j
  lists_decided f e j (more_of-Instr-VariantCase-1-1 m is rest) = by_arm f e j _ _ (row_decided f e.demand (start e j) 0 is) (lists_decided f e (suc j) rest)

  pub row_decided : (f : Frame) (d : Demand) (p : Point) (at : ℕ) {m : _} (is : Row_of-Instr m) → Decided f d p at (items-the_row-Instr _ is)
  row_decided f d p at end_of-Instr = end_of f d p at (end_broken d p) refl
  row_decided f d p at (more_of-Instr i is) = by_outcome f d p at i _ (λ e. arms_decided f e i) (λ q. row_decided f d q (suc at) is)

abbrev pub list_decided : (f : Frame) (d : Demand) (p : Point) (at : ℕ) (is : List Instr) → Decided f d p at is
list_decided f d p at [] = end_of f d p at (end_broken d p) refl
list_decided f d p at (i ∷ is) = by_outcome f d p at i is (λ e. arms_decided f e i) (λ q. list_decided f d q (suc at) is)

abbrev pub DecidedParts : List Part → Type 0
DecidedParts ps = ((notes : List (List Note)) × AreTyped ps notes) ⊎ ((place : Place) × (b : Broken) × AreViolated ps place b)

abbrev behind_field : (at : Place) (o : Option Broken) (ps : List Part) → o ≡ None → DecidedParts ps → DecidedParts (Field at o ∷ ps)
behind_field at o ps e (inl x) = inl (x.0, field e x.1)
behind_field at o ps e (inr x) = inr (x.0, x.1, after_field e x.2)

abbrev by_field : (at : Place) (o : Option Broken) (ps : List Part) → DecidedParts ps → DecidedParts (Field at o ∷ ps)
by_field at None ps next = behind_field at None ps refl next
by_field at (Some b) ps next = inr (at, b, in_field refl refl)

abbrev behind_body : (at : List ℕ → Place) (f : Frame) (d : Demand) (p : Point) (is : List Instr) (ps : List Part) (own : List Note) → Derives f d p is own → DecidedParts ps → DecidedParts (Body at f d p is ∷ ps)
behind_body at f d p is ps own x (inl y) = inl (own ∷ y.0, body own y.0 refl x y.1)
behind_body at f d p is ps own x (inr y) = inr (y.0, y.1, after_body own x y.2)

abbrev by_body : (at : List ℕ → Place) (f : Frame) (d : Demand) (p : Point) (is : List Instr) (ps : List Part) → Decided f d p 0 is → DecidedParts ps → DecidedParts (Body at f d p is ∷ ps)
by_body at f d p is ps (inl x) next = behind_body at f d p is ps x.0 x.1 next
by_body at f d p is ps (inr x) next = inr (at x.0, x.1, in_body x.0 refl x.2)

abbrev pub parts_decided : (ps : List Part) → DecidedParts ps
parts_decided [] = inl ([], no_part refl)
parts_decided (Field at o ∷ ps) = by_field at o ps (parts_decided ps)
parts_decided (Body at f d p is ∷ ps) = by_body at f d p is ps (list_decided f d p 0 is) (parts_decided ps)

told : (m : Module) (place : Place) (b : Broken) → AreViolated (parts_of m) place b → (broken : Rule) × (found : Option Ty) × (expected : Option Ty) × IsFirstViolation m place broken found expected
told m place (Broke broken found expected) x = (broken, found, expected, x)

pub module_decided : (m : Module) → ((notes : List (List Note)) × IsWellTyped m notes) ⊎ ((place : Place) × (broken : Rule) × (found : Option Ty) × (expected : Option Ty) × IsFirstViolation m place broken found expected)
module_decided m = elim (parts_decided (parts_of m)) [
  | inl x ↦ inl (x.0, x.1)
  | inr x ↦ (let t = told m x.0 x.1 x.2 in inr (x.0, t.0, t.1, t.2, t.3))
]
