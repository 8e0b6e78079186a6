-- The first violation of a list of instructions, and the path to it: the position in the list, then for each list inside
-- its number and the position in it. The end of a list is the position after its last instruction. This project's own.
use Rattle.std.specs.Prelude.{◌≡◌, ℕ, suc, List, [], ◌∷◌, Option, Some, None}
use Rattle.rw_types.specs.declared.instrs.Instr.{Instr}
use Rattle.rw_types.specs.declared.types.Ty.{Ty}
use Rattle.rich_typing.specs.declared.notes.Note.{Note}
use Rattle.rich_typing.specs.declared.rules.Rule.TheVariants as rule
use Rattle.rich_rules.specs.Points.{Frame, Point, Broken, Broke, Demand, Entry, Change, Outcome, Gives, Ends, Enters, Breaks, moved, start, after}
use Rattle.rich_rules.specs.Table.{row, arms_of}
use Rattle.rich_rules.specs.Derivations.{end_broken, Derives, DerivesArms}

mutual
  -- from this point, at this position, the first violation of the rest of a list stands at this path
  pub data Violates (f : Frame) : Demand → Point → ℕ → List Instr → List ℕ → Broken → Type 0 where
    in_end : {d : Demand} {p : Point} {at : ℕ} {path : List ℕ} {b : Broken} → end_broken d p ≡ Some b → path ≡ at ∷ [] → Violates f d p at [] path b
    in_step : {d : Demand} {p : Point} {at : ℕ} {i : Instr} {is : List Instr} {path : List ℕ} {b : Broken} (o : Outcome) → row f p i ≡ o → Meets f d p at i is o path b → Violates f d p at (i ∷ is) path b

  -- and so it does after this outcome of the first instruction: the violation is here, in dead code, later, inside a list of
  -- the instruction, or beyond them
  pub data Meets (f : Frame) : Demand → Point → ℕ → Instr → List Instr → Outcome → List ℕ → Broken → Type 0 where
    here : {d : Demand} {p : Point} {at : ℕ} {i : Instr} {is : List Instr} {path : List ℕ} {b breaks : Broken} → path ≡ at ∷ [] → b ≡ breaks → Meets f d p at i is (Breaks breaks) path b
    dead : {d : Demand} {p : Point} {at : ℕ} {i : Instr} {is : List Instr} {path : List ℕ} {b : Broken} (j : Instr) (js : List Instr) → is ≡ j ∷ js → path ≡ suc at ∷ [] → b ≡ Broke rule.DeadCode None None → Meets f d p at i is Ends path b
    later : {d : Demand} {p : Point} {at : ℕ} {i : Instr} {is : List Instr} {operands : List Ty} {change : Option Change} {path : List ℕ} {b : Broken} → Violates f d (moved p operands change) (suc at) is path b → Meets f d p at i is (Gives operands change) path b
    inside : {d : Demand} {p : Point} {at : ℕ} {i : Instr} {is : List Instr} {e : Entry} {path : List ℕ} {b : Broken} (inner : List ℕ) → path ≡ at ∷ inner → ViolatesArm f e 0 (arms_of i) inner b → Meets f d p at i is (Enters e) path b
    beyond : {d : Demand} {p : Point} {at : ℕ} {i : Instr} {is : List Instr} {e : Entry} {path : List ℕ} {b : Broken} (notes : List Note) → DerivesArms f e 0 (arms_of i) notes → Violates f d (after e p) (suc at) is path b → Meets f d p at i is (Enters e) path b

  -- the first violation of the lists of an instruction from this number on
  pub data ViolatesArm (f : Frame) : Entry → ℕ → List (List Instr) → List ℕ → Broken → Type 0 where
    in_arm : {e : Entry} {j : ℕ} {is : List Instr} {arms : List (List Instr)} {path : List ℕ} {b : Broken} (inner : List ℕ) → path ≡ j ∷ inner → Violates f e.demand (start e j) 0 is inner b → ViolatesArm f e j (is ∷ arms) path b
    in_later_arm : {e : Entry} {j : ℕ} {is : List Instr} {arms : List (List Instr)} {path : List ℕ} {b : Broken} (notes : List Note) → Derives f e.demand (start e j) is notes → ViolatesArm f e (suc j) arms path b → ViolatesArm f e j (is ∷ arms) path b
