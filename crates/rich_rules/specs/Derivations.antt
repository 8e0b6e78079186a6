-- Derivations of lists of instructions, with a note of the point before each instruction in the order of the text, a
-- block's own note before those of its lists. This project's own.
use Rattle.std.specs.Prelude.{◌≡◌, ◌==◌, suc, ℕ, List, [], ◌∷◌, ◌++◌, if◌then◌else◌, length, Option, Some, None}
use Rattle.rw_types.specs.declared.instrs.Instr.{Instr}
use Rattle.rw_types.specs.declared.types.Ty.{Ty}
use Rattle.rich_types.specs.Scopes.{Scope, scope_of}
use Rattle.rich_typing.specs.declared.notes.Note.{Note}
use Rattle.rich_typing.specs.declared.rules.Rule.{Rule}
use Rattle.rich_typing.specs.declared.rules.Rule.TheVariants as rule
use Rattle.rich_rules.specs.Points.{Frame, Point, Broken, Broke, LocalsDemand, Exactly, AllUnr, Demand, Entry, Change, Outcome, Gives, Ends, Enters, moved, start, after}
use Rattle.rich_rules.specs.Takers.{Difference, Differ, or_else, first_difference, last_difference, first_held}
use Rattle.rich_rules.specs.Table.{row, arms_of, note_of}

-- a rule that is broken by a type in the place of another, if there is one
abbrev pub broken_by : Rule → Option Difference → Option Broken
broken_by broken None = None
broken_by broken (Some (Differ t u)) = Some (Broke broken (Some t) (Some u))

-- what the operands at a list's end break: there are more or fewer than are demanded, or the deepest that differs is
-- another
abbrev pub operands_broken : List Ty → List Ty → Option Broken
operands_broken demanded operands = if length operands == length demanded then broken_by rule.BlockEnd (last_difference operands demanded) else Some (Broke rule.BlockEnd None None)

-- what a local that is not `unr` breaks, if there is one
abbrev pub held_broken : Option Ty → Option Broken
held_broken None = None
held_broken (Some t) = Some (Broke rule.LocalsEnd (Some t) None)

-- what the locals at a list's end break
abbrev pub locals_broken : Scope → LocalsDemand → List Ty → Option Broken
locals_broken c (Exactly demanded) locals = broken_by rule.LocalsEnd (first_difference locals demanded)
locals_broken c AllUnr locals = held_broken (first_held c locals)

-- what a list's end breaks
abbrev pub end_broken : Demand → Point → Option Broken
end_broken d p = or_else (operands_broken d.types p.operands) (locals_broken (scope_of p.binders) d.locals p.locals)

mutual
  -- from this point a list meets what its end demands
  pub data Derives (f : Frame) : Demand → Point → List Instr → List Note → Type 0 where
    at_end : {d : Demand} {p : Point} {notes : List Note} → end_broken d p ≡ None → notes ≡ [] → Derives f d p [] notes
    step : {d : Demand} {p : Point} {i : Instr} {is : List Instr} {notes : List Note} (o : Outcome) (later : List Note) → row f p i ≡ o → notes ≡ note_of f p i ∷ later → Follows f d p i is o later → Derives f d p (i ∷ is) notes

  -- and so it does after this outcome of its first instruction: nothing follows one that ends the list
  pub data Follows (f : Frame) : Demand → Point → Instr → List Instr → Outcome → List Note → Type 0 where
    ends : {d : Demand} {p : Point} {i : Instr} {is : List Instr} {notes : List Note} → is ≡ [] → notes ≡ [] → Follows f d p i is Ends notes
    goes_on : {d : Demand} {p : Point} {i : Instr} {is : List Instr} {operands : List Ty} {change : Option Change} {notes : List Note} → Derives f d (moved p operands change) is notes → Follows f d p i is (Gives operands change) notes
    enters : {d : Demand} {p : Point} {i : Instr} {is : List Instr} {e : Entry} {notes : List Note} (inner later : List Note) → notes ≡ inner ++ later → DerivesArms f e 0 (arms_of i) inner → Derives f d (after e p) is later → Follows f d p i is (Enters e) notes

  -- the lists of an instruction from this number on
  pub data DerivesArms (f : Frame) : Entry → ℕ → List (List Instr) → List Note → Type 0 where
    no_arm : {e : Entry} {j : ℕ} {notes : List Note} → notes ≡ [] → DerivesArms f e j [] notes
    arm : {e : Entry} {j : ℕ} {is : List Instr} {arms : List (List Instr)} {notes : List Note} (inner later : List Note) → notes ≡ inner ++ later → Derives f e.demand (start e j) is inner → DerivesArms f e (suc j) arms later → DerivesArms f e j (is ∷ arms) notes
