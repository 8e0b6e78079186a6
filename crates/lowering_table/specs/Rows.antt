-- The code of each instruction, by its note. This project's own.
use Rattle.std.specs.Prelude.{ℕ, zero, suc, ◌+◌, List, [], ◌∷◌, ◌++◌}
use Rattle.wasm_ast.specs.declared.instructions.WInstr as w
use Rattle.rw_types.specs.declared.instrs.Instr.{Instr, I64Const, Num, Print, Drop, Unreachable}
use Rattle.rw_types.specs.declared.numbers.NumName.TheVariants.{I64Add}
use Rattle.rich_typing.specs.declared.notes.Note.{Note}

-- what stands for an instruction that does nothing to words
abbrev pub erased : List w.WInstr
erased = w.Nop ∷ []

-- The code of an instruction, where x is the Wasm local of the first operand word. Those that have no row here yet have none.
abbrev pub row : ℕ → Instr → Note → List w.WInstr
row x (I64Const n) note = w.I64Const n ∷ w.LocalSet (x + note.beneath) ∷ []
row x (Num I64Add) note =
    w.LocalGet (x + note.beneath) ∷ w.LocalGet (x + note.beneath + 1) ∷ w.I64Add ∷ w.LocalSet (x + note.beneath) ∷ []
row x Print note = w.LocalGet (x + note.beneath) ∷ w.Call 0 ∷ []
row x Drop note = erased
row x Unreachable note = w.I32Const 3 ∷ w.GlobalSet 0 ∷ w.Unreachable ∷ []
row x _ note = []

-- the code of a list, each instruction with its note
abbrev pub rows : ℕ → List Instr → List Note → List w.WInstr
rows x [] notes = []
rows x (i ∷ is) [] = []
rows x (i ∷ is) (note ∷ notes) = row x i note ++ rows x is notes

-- so many words from a Wasm local on are moved to the globals from one on
abbrev pub gives : ℕ → ℕ → ℕ → List w.WInstr
gives zero local global = []
gives (suc n) local global = w.LocalGet local ∷ w.GlobalSet global ∷ gives n (suc local) (suc global)
