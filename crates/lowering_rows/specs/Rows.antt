-- The code of lists of instructions. The notes of a list stand in front of those given, in the order of the text; what
-- stands behind them belongs to what follows the list. This project's own.
use Rattle.std.specs.Prelude.{ℕ, suc, drop, List, [], ◌∷◌, ◌++◌, Bool, true, false, None}
use Rattle.wasm_ast.specs.declared.instructions.WInstr as w
use Rattle.rw_types.specs.declared.instrs.Instr.{Instr, Block', Loop', If', MemUnpack', VariantCase', ExistUnpack', Row_of-Instr, end_of-Instr, more_of-Instr, Row_of-Instr-VariantCase-1-1, end_of-Instr-VariantCase-1-1, more_of-Instr-VariantCase-1-1}
use Rattle.rich_typing.specs.declared.notes.Note.{Note}
use Rattle.layout.specs.Bodies.{nested_count, row_count}
use Rattle.layout.specs.Calls.{top_of}
use Rattle.lowering_rows.specs.Moves.{address, load_word, loads}
use Rattle.lowering_rows.specs.Surroundings.{Surroundings, first_scratch, free_function, operand_place}
use Rattle.lowering_rows.specs.Labels.{Label, case_label, plain_label}
use Rattle.lowering_rows.specs.Taken.{body_words, case_words, is_linear_reference, scope_at, top_height}
use Rattle.lowering_rows.specs.Plain.{plain_row}

-- a cell of the linear memory whose content was taken is freed; its address is in the first scratch word
abbrev pub freed : Surroundings → Bool → List w.WInstr
freed s true = w.LocalGet (first_scratch s) ∷ w.Call free_function ∷ []
freed s false = []

-- the reference on top goes to the first scratch word
abbrev pub keeps_reference : Surroundings → Note → List w.WInstr
keeps_reference s note = w.LocalGet (operand_place s (top_height note)) ∷ w.LocalSet (first_scratch s) ∷ []

-- so many words of the cell, from this word on, take the place of the reference, and the cell is freed where it is linear
abbrev pub takes_content : Surroundings → ℕ → ℕ → Note → List w.WInstr
takes_content s words word note =
    loads words (first_scratch s) word (operand_place s (top_height note))
    ++ freed s (is_linear_reference (scope_at note) (top_of note.taken))

-- whether the cell is of the case of this number
abbrev pub is_case : Surroundings → ℕ → List w.WInstr
is_case s k = address (first_scratch s) ++ load_word 0 ∷ w.I64Const k ∷ w.I64Eq ∷ []

-- the list of a case, and then the end of the block around all cases
abbrev pub case_arm : Surroundings → ℕ → Note → List w.WInstr → List w.WInstr
case_arm s k note arm =
    is_case s k
    ++ w.If None (takes_content s (case_words (scope_at note) (top_of note.taken) k) 1 note ++ (arm ++ w.Br 1 ∷ [])) ∷ []

-- where no case is left
abbrev pub no_case : List w.WInstr
no_case = w.Unreachable ∷ []

abbrev mutual
  -- an instruction: its own note, and those behind it
  pub row : Surroundings → List Label → Instr → Note → List Note → List w.WInstr
  row s labels (Block' sig n body) note later = w.Block None (row_code s (plain_label note.beneath ∷ labels) body later) ∷ []
  row s labels (Loop' sig n body) note later = w.Loop None (row_code s (plain_label note.beneath ∷ labels) body later) ∷ []
  row s labels (If' sig n one m other) note later =
      w.LocalGet (operand_place s (top_height note)) ∷ w.I32WrapI64
      ∷ w.IfElse None
      (row_code s (plain_label note.beneath ∷ labels) one later)
      (row_code s (plain_label note.beneath ∷ labels) other (drop (row_count one) later))
      ∷ []
  row s labels (MemUnpack' sig n body) note later = w.Block None (row_code s (plain_label note.beneath ∷ labels) body later) ∷ []
  row s labels (VariantCase' sig n arms) note later =
      keeps_reference s note ++ w.Block None (arms_code s (case_label note.beneath ∷ labels) 0 arms note later) ∷ []
  row s labels (ExistUnpack' sig n body) note later =
      keeps_reference s note
      ++ (takes_content s (body_words (scope_at note) (top_of note.taken)) 0 note
      ++ w.Block None (row_code s (plain_label note.beneath ∷ labels) body later) ∷ [])
  row s labels i note later = plain_row s labels i note

  -- a nested list
  pub row_code : {n : _} → Surroundings → List Label → Row_of-Instr n → List Note → List w.WInstr
  row_code s labels end_of-Instr notes = []
  row_code s labels (more_of-Instr i is) [] = []
  row_code s labels (more_of-Instr i is) (note ∷ later) = row s labels i note later ++ row_code s labels is (drop (nested_count i) later)

  -- the lists of the cases from this number on; the note is that of the instruction that has them
  pub arms_code : {n : _} → Surroundings → List Label → ℕ → Row_of-Instr-VariantCase-1-1 n → Note → List Note → List w.WInstr
  arms_code s labels k end_of-Instr-VariantCase-1-1 note notes = no_case
  arms_code s labels k (more_of-Instr-VariantCase-1-1 n arm arms) note notes =
      case_arm s k note (row_code s labels arm notes) ++ arms_code s labels (suc k) arms note (drop (row_count arm) notes)

-- a list
abbrev pub rows : Surroundings → List Label → List Instr → List Note → List w.WInstr
rows s labels [] notes = []
rows s labels (i ∷ is) [] = []
rows s labels (i ∷ is) (note ∷ later) = row s labels i note later ++ rows s labels is (drop (nested_count i) later)
