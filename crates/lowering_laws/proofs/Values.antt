-- The reduction of a body of plain instructions that link its operands to one number ends with a value, a step an
-- instruction, and two.
use Rattle.std.proofs.Common.{◌≡◌, ℕ, suc, ◌+◌, ◌^◌, ◌%◌, List, [], ◌∷◌, length, map, refl, sym, subst}
use Rattle.std.specs.Prelude.{ℤ}
use Rattle.std.specs.Int.{cast_signed, w64}
use Rattle.rw_types.specs.declared.instrs.Instr.{Instr, I64Const, Num, Print, Drop}
use Rattle.rw_types.specs.declared.numbers.NumName.TheVariants.{I64Add}
use Rattle.rw_types.specs.declared.types.Ty.{Ty}
use Rattle.rw_types.specs.LoneMain.{ArePlain}
use Rattle.rich_typing.specs.declared.notes.Note.{Note}
use Rattle.rich_typing.specs.Derivations.{Derives, done, next}
use Rattle.rich_typing.specs.Table.{Gives, unr_i64, i64s}
use Rattle.rw_program.specs.LonePrograms.{lone_func}
use Rattle.machine_steps.specs.declared.End.TheVariants.{Value}
use Rattle.machine_steps.specs.Steps.{Over, reached}
use Rattle.rich_reduction.specs.Configurations as rc
use Rattle.rich_reduction.specs.Steps as rs

gives_same : (a b : List Ty) → Gives a ≡ Gives b → a ≡ b
gives_same a b e = cc

-- a derivation goes on from what the instruction before it gives
pub derives_on : {is : List Instr} {notes : List Note} {ts after : List Ty} → Gives ts ≡ Gives after → Derives [] is after notes (unr_i64 ∷ []) → Derives [] is ts notes (unr_i64 ∷ [])
derives_on {is} {notes} {ts} {after} goes d = subst (λ (us : List Ty). Derives [] is us notes (unr_i64 ∷ [])) (sym (gives_same ts after goes)) d

-- a call that gives one number, with these operands
abbrev pub call_with : List ℕ → List Instr → rc.Here
call_with vs rest = record { results = 1; sizes = []; locals = []; operands = map (λ v. rc.Number v) vs; rest = rest; levels = [] }

-- the function's call, with these operands, and the program's own list after it
abbrev pub in_call : List ℕ → List Instr → rc.Config
in_call vs rest = record {
  here = call_with vs rest;
  callers = call_with [] [] ∷ [];
  globals = [];
  stores = record { linear = []; unrestricted = [] };
}

module _ (body : List Instr) (notes : List Note) where
  -- the run is over with a value after some number of steps
  abbrev pub GivesValue : rc.Config → Type 0
  GivesValue a = (n : ℕ) × (v : ℤ) × ((reached (rs.step (lone_func body notes ∷ [])) n a).stand ≡ Over (Value v))

  pub gives_value : (rest : List Instr) (later : List Note) (vs : List ℕ) → Derives [] rest (i64s (length vs)) later (unr_i64 ∷ []) → ArePlain rest → GivesValue (in_call vs rest)
  gives_value [] later [] (done tells same) plain = absurd cc
  gives_value [] later (v ∷ []) (done tells same) plain = (2, cast_signed w64 v, refl)
  gives_value [] later (v ∷ u ∷ vs) (done tells same) plain = absurd cc
  gives_value (I64Const n ∷ is) later vs (next after rest goes tells d) plain =
      let h = gives_value is rest (n ∷ vs) (derives_on goes d) plain.1 in (suc h.0, h.1, h.2)
  gives_value (Num I64Add ∷ is) later [] (next after rest goes tells d) plain = absurd cc
  gives_value (Num I64Add ∷ is) later (v ∷ []) (next after rest goes tells d) plain = absurd cc
  gives_value (Num I64Add ∷ is) later (right ∷ left ∷ vs) (next after rest goes tells d) plain =
      let h = gives_value is rest ((left + right) % 2 ^ 64 ∷ vs) (derives_on goes d) plain.1 in (suc h.0, h.1, h.2)
  gives_value (Print ∷ is) later [] (next after rest goes tells d) plain = absurd cc
  gives_value (Print ∷ is) later (v ∷ vs) (next after rest goes tells d) plain =
      let h = gives_value is rest vs (derives_on goes d) plain.1 in (suc h.0, h.1, h.2)
  gives_value (Drop ∷ is) later [] (next after rest goes tells d) plain = absurd cc
  gives_value (Drop ∷ is) later (v ∷ vs) (next after rest goes tells d) plain =
      let h = gives_value is rest vs (derives_on goes d) plain.1 in (suc h.0, h.1, h.2)
  gives_value (_ ∷ is) later vs d plain = absurd plain.0
