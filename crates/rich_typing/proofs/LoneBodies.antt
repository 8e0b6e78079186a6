-- Bodies of plain instructions: their operands are numbers of 64 bits throughout, and a body that has
-- no derivation lacks operands or has others at its end.
use Rattle.std.proofs.Common.{◌≡◌, ◌⊎◌, inl, inr, ℕ, zero, suc, List, [], ◌∷◌, None, refl, sym, ap}
use Rattle.rw_types.specs.declared.instrs.Instr.{Instr, I64Const, Num, Print, Drop}
use Rattle.rw_types.specs.declared.numbers.NumName.TheVariants.{I64Add}
use Rattle.rw_types.specs.declared.types.Ty.{Ty}
use Rattle.rw_types.specs.LoneMain.{IsPlain, ArePlain}
use Rattle.rich_typing.specs.declared.notes.Note.{Note}
use Rattle.rich_typing.specs.declared.rules.Rule.{Rule}
use Rattle.rich_typing.specs.declared.rules.Rule.TheVariants.{Operands, BlockEnd}
use Rattle.rich_typing.specs.Table.{Gives, Breaks, row, note_of, unr_i64, i64s}
use Rattle.rich_typing.specs.Derivations.{Derives, done, next}
use Rattle.rich_typing.specs.Violations.{in_count, at_instr, at_end, BreaksAt}

-- a plain instruction gives such operands, or lacks operands
plain_row : (i : Instr) → IsPlain i → (k : ℕ) → ((after : ℕ) × (row [] i (i64s k) ≡ Gives (i64s after))) ⊎ (row [] i (i64s k) ≡ Breaks Operands None None)
plain_row (I64Const n) p k = inl (suc k, refl)
plain_row (Num I64Add) p zero = inr refl
plain_row (Num I64Add) p (suc zero) = inr refl
plain_row (Num I64Add) p (suc (suc k)) = inl (suc k, refl)
plain_row Print p zero = inr refl
plain_row Print p (suc k) = inl (k, refl)
plain_row Drop p zero = inr refl
plain_row Drop p (suc k) = inl (k, refl)
plain_row _ p k = absurd p

-- a rule is broken one place later
breaks_later : {i : Instr} {is : List Instr} {demands operands after : List Ty} {at : ℕ} {broken : Rule} → row [] i operands ≡ Gives after → BreaksAt [] demands is after at broken None None → BreaksAt [] demands (i ∷ is) operands (suc at) broken None None
breaks_later {i = i} {operands = operands} {after = after} g b = record {
  before = i ∷ b.before;
  rest = b.rest;
  whole = ap (λ (l : List Instr). i ∷ l) b.whole;
  place = ap suc b.place;
  notes = note_of [] i operands ∷ b.notes;
  reached = b.reached;
  derived = next after b.notes g refl b.derived;
  breaks = b.breaks;
}

-- the operands at the end are those demanded, or are more or fewer
at_end_of : (k : ℕ) → (i64s k ≡ unr_i64 ∷ []) ⊎ BreaksAt [] (unr_i64 ∷ []) [] (i64s k) zero BlockEnd None None
at_end_of zero = inr (record { before = []; rest = []; whole = refl; place = refl; notes = []; reached = []; derived = done refl refl; breaks = at_end refl (in_count (λ e. cc) refl refl) })
at_end_of (suc zero) = inl refl
at_end_of (suc (suc k)) = inr (record { before = []; rest = []; whole = refl; place = refl; notes = []; reached = i64s (suc (suc k)); derived = done refl refl; breaks = at_end refl (in_count (λ e. cc) refl refl) })

-- what a body of plain instructions has: a derivation, or a violation without types
abbrev pub Either : List Instr → List Ty → Type 0
Either body operands = ((notes : List Note) × Derives [] body operands notes (unr_i64 ∷ [])) ⊎ ((at : ℕ) × (broken : Rule) × ((broken ≡ Operands) ⊎ (broken ≡ BlockEnd)) × BreaksAt [] (unr_i64 ∷ []) body operands at broken None None)

either_later : {i : Instr} {is : List Instr} {operands after : List Ty} → row [] i operands ≡ Gives after → Either is after → Either (i ∷ is) operands
either_later {i = i} {operands = operands} {after = after} g (inl d) = inl (note_of [] i operands ∷ d.0, next after d.0 g refl d.1)
either_later g (inr b) = inr (suc b.0, b.1, b.2, breaks_later g b.3)

pub lone_body : (body : List Instr) → ArePlain body → (k : ℕ) → Either body (i64s k)
lone_body [] plain k = elim (at_end_of k) [ inl e ↦ inl ([], done refl (sym e)) | inr b ↦ inr (zero, BlockEnd, inr refl, b) ]
lone_body (i ∷ is) plain k = elim (plain_row i plain.0 k) [
  | inl g ↦ either_later g.1 (lone_body is plain.1 g.0)
  | inr b ↦ inr (zero, Operands, inl refl, record { before = []; rest = i ∷ is; whole = refl; place = refl; notes = []; reached = i64s k; derived = done refl refl; breaks = at_instr b })
]
