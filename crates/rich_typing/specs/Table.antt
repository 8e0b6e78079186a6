-- The table of the rules of bodies: for each instruction what it takes, its further conditions in
-- their order, and what it gives. This project's own.
use Rattle.std.specs.Prelude.{ℕ, List, [], ◌∷◌, Bool, true, false, Option, Some, None, take, drop, reverse, replicate}
use Rattle.rw_types.specs.declared.instrs.Instr.{Instr, I64Const, Num, Print, Drop}
use Rattle.rw_types.specs.declared.numbers.NumName.TheVariants.{I64Add}
use Rattle.rw_types.specs.declared.types.Binder.{Binder}
use Rattle.rw_types.specs.declared.types.Pre.{I64}
use Rattle.rw_types.specs.declared.types.Qual.TheVariants.{Unr}
use Rattle.rw_types.specs.declared.types.Ty.{Ty, Of}
use Rattle.rich_typing.specs.declared.rules.Rule.{Rule}
use Rattle.rich_typing.specs.declared.rules.Rule.TheVariants as rule
use Rattle.rich_typing.specs.declared.notes.Note.{Note}
use Rattle.rich_typing.specs.Kinds.{qual_of, is_unr, words_of}

-- what an instruction makes of the operands, the top one first: other operands, or a broken rule with
-- the type that breaks it and the type that is demanded
pub data Outcome : Type 0 where
  Gives : List Ty → Outcome
  Breaks : Rule → Option Ty → Option Ty → Outcome

-- a condition, and what follows where it holds
abbrev pub need : Bool → Rule → Option Ty → Option Ty → Outcome → Outcome
need true broken found expected rest = rest
need false broken found expected rest = Breaks broken found expected

-- what the top operand and those beneath it give
abbrev pub with_operand : List Ty → (Ty → List Ty → Outcome) → Outcome
with_operand [] then = Breaks rule.Operands None None
with_operand (t ∷ beneath) then = then t beneath

-- what the top operand, the one under it and those beneath both give
abbrev pub with_two_operands : List Ty → (Ty → Ty → List Ty → Outcome) → Outcome
with_two_operands (t ∷ u ∷ beneath) then = then t u beneath
with_two_operands operands then = Breaks rule.Operands None None

-- the type of a number of 64 bits
abbrev pub unr_i64 : Ty
unr_i64 = Of Unr I64

-- so many operands of that type
abbrev pub i64s : ℕ → List Ty
i64s k = replicate k unr_i64

-- an operand that is such a number
abbrev pub i64_form : Ty → Outcome → Outcome
i64_form (Of Unr I64) rest = rest
i64_form t rest = Breaks rule.OperandType (Some t) (Some unr_i64)

-- the table
abbrev pub row : List Binder → Instr → List Ty → Outcome
row binders (I64Const n) operands = Gives (unr_i64 ∷ operands)
row binders (Num I64Add) operands = with_two_operands operands (λ right left beneath. i64_form left (i64_form right (Gives (unr_i64 ∷ beneath))))
row binders Print operands = with_operand operands (λ t beneath. i64_form t (Gives beneath))
row binders Drop operands = with_operand operands (λ t beneath. need (is_unr (qual_of binders t)) rule.LinearDrop (Some t) None (Gives beneath))
row binders _ operands = Breaks rule.NotYetBuilt None None

-- how many operands an instruction takes
abbrev pub takes : Instr → ℕ
takes (Num I64Add) = 2
takes Print = 1
takes Drop = 1
takes _ = 0

-- what the point before an instruction tells
abbrev pub note_of : List Binder → Instr → List Ty → Note
note_of binders i operands = record {
  binders = binders;
  beneath = words_of binders (drop (takes i) operands);
  taken = reverse (take (takes i) operands);
  local = None;
}
