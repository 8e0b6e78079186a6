-- What holds of the code of all instructions: it is that of the lowering table on the programs of today, and lists within
-- instructions have the code that they have alone. This project's own.
use Rattle.std.specs.Prelude.{◌≡◌, ℕ, suc, drop, List, [], ◌∷◌, ◌++◌, length, None}
use Rattle.wasm_ast.specs.declared.instructions.WInstr as w
use Rattle.rw_types.specs.declared.instrs.BlockSig.{BlockSig}
use Rattle.rw_types.specs.declared.instrs.Instr.{Instr}
use Rattle.rw_types.specs.declared.instrs.Instr.TheVariants.{Block, Loop, If, MemUnpack, VariantCase, ExistUnpack}
use Rattle.rw_types.specs.LoneMain.{ArePlain}
use Rattle.rich_typing.specs.declared.notes.Note.{Note}
use Rattle.rw_program.specs.LonePrograms.{lone_func, lone_program}
use Rattle.lowering_table.specs.Codes.{low_function, main_code}
use Rattle.layout.specs.Bodies.{text_order}
use Rattle.layout.specs.Calls.{top_of}
use Rattle.lowering_rows.specs.Surroundings.{Surroundings, operand_place}
use Rattle.lowering_rows.specs.Labels.{Label, case_label, plain_label}
use Rattle.lowering_rows.specs.Taken.{body_words, scope_at, top_height}
use Rattle.lowering_rows.specs.Rows.{case_arm, keeps_reference, no_case, row, rows, takes_content}
use Rattle.lowering_rows.specs.Functions.{function_code, start_code}

-- of a function of plain instructions, and of the exported main that calls it
abbrev pub FunctionsAlike : Type 0
FunctionsAlike = (body : List Instr) (notes : List Note) (type_of : ℕ → ℕ) → ArePlain body →
    function_code (lone_program body notes) type_of (lone_func body notes) ≡ low_function (lone_func body notes)

abbrev pub StartsAlike : Type 0
StartsAlike = (body : List Instr) (notes : List Note) (type_of : ℕ → ℕ) → start_code (lone_program body notes) type_of ≡ main_code (lone_program body notes)

-- so many instructions stand in a list, those of lists within them too
abbrev pub count : List Instr → ℕ
count is = length (text_order is)

-- the notes behind those of a list are not read
abbrev pub OwnNotesAreRead : Type 0
OwnNotesAreRead = (s : Surroundings) (labels : List Label) (is : List Instr) (own later : List Note) → length own ≡ count is →
    rows s labels is (own ++ later) ≡ rows s labels is own

-- of one list behind another, the second begins behind the notes of the first
abbrev pub ListsFollow : Type 0
ListsFollow = (s : Surroundings) (labels : List Label) (is js : List Instr) (own later : List Note) → length own ≡ count is →
    rows s labels (is ++ js) (own ++ later) ≡ rows s labels is own ++ rows s labels js later

-- the list of a block is lowered as it is alone, under its label, with the notes behind the block's own
abbrev pub BlocksHold : Type 0
BlocksHold = (s : Surroundings) (labels : List Label) (sig : BlockSig) (is : List Instr) (note : Note) (later : List Note) →
    row s labels (Block sig is) note later ≡ w.Block None (rows s (plain_label note.beneath ∷ labels) is later) ∷ []

abbrev pub LoopsHold : Type 0
LoopsHold = (s : Surroundings) (labels : List Label) (sig : BlockSig) (is : List Instr) (note : Note) (later : List Note) →
    row s labels (Loop sig is) note later ≡ w.Loop None (rows s (plain_label note.beneath ∷ labels) is later) ∷ []

-- of an `if` the second list has the notes behind those of the first
abbrev pub IfsHold : Type 0
IfsHold = (s : Surroundings) (labels : List Label) (sig : BlockSig) (is js : List Instr) (note : Note) (later : List Note) →
    row s labels (If sig is js) note later
    ≡ w.LocalGet (operand_place s (top_height note)) ∷ w.I32WrapI64
    ∷ w.IfElse None
    (rows s (plain_label note.beneath ∷ labels) is later)
    (rows s (plain_label note.beneath ∷ labels) js (drop (count is) later))
    ∷ []

abbrev pub LocationsOpen : Type 0
LocationsOpen = (s : Surroundings) (labels : List Label) (sig : BlockSig) (is : List Instr) (note : Note) (later : List Note) →
    row s labels (MemUnpack sig is) note later ≡ w.Block None (rows s (plain_label note.beneath ∷ labels) is later) ∷ []

abbrev pub PackagesOpen : Type 0
PackagesOpen = (s : Surroundings) (labels : List Label) (sig : BlockSig) (is : List Instr) (note : Note) (later : List Note) →
    row s labels (ExistUnpack sig is) note later
    ≡ keeps_reference s note
    ++ (takes_content s (body_words (scope_at note) (top_of note.taken)) 0 note
    ++ w.Block None (rows s (plain_label note.beneath ∷ labels) is later) ∷ [])

-- the lists of the cases from this number on, each with the notes behind those of the lists before it
abbrev pub arms : Surroundings → List Label → ℕ → List (List Instr) → Note → List Note → List w.WInstr
arms s labels k [] note notes = no_case
arms s labels k (is ∷ lists) note notes = case_arm s k note (rows s labels is notes) ++ arms s labels (suc k) lists note (drop (count is) notes)

abbrev pub VariantsOpen : Type 0
VariantsOpen = (s : Surroundings) (labels : List Label) (sig : BlockSig) (lists : List (List Instr)) (note : Note) (later : List Note) →
    row s labels (VariantCase sig lists) note later
    ≡ keeps_reference s note ++ w.Block None (arms s (case_label note.beneath ∷ labels) 0 lists note later) ∷ []
