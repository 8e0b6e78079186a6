-- What is left of a list and of its code behind an instruction. This project's own.
use Rattle.std.specs.Prelude.{◌≡◌, List, ◌∷◌, ◌++◌, Option}
use Rattle.wasm_ast.specs.declared.instructions.WInstr.{WInstr}
use Rattle.rw_types.specs.declared.instrs.Instr.{Instr}
use Rattle.rw_types.specs.declared.types.Ty.{Ty}
use Rattle.rich_rules.specs.Points.{Change, Demand, Gives, Point, moved}
use Rattle.rich_rules.specs.Table.{note_of, row}
use Rattle.lowering_rows.specs.Labels.{Label}
use Rattle.lowering_rows.specs.Plain.{plain_row}
use Rattle.simulation_relation.specs.Bodies.{Body, IsLeft}
use Rattle.simulation_relation.specs.Words.{Book}

-- the code of an instruction that gives operands stands first, and behind it that of what is left at the point after it
abbrev pub ListsMoveOn : Type 0
ListsMoveOn = (b : Body) (book : Book) (labels : List Label) (d : Demand) (q : Point) (i : Instr) (is : List Instr) (operands : List Ty) (change : Option Change) (code : List WInstr) →
    IsLeft b book labels d q (i ∷ is) code → row b.frame q i ≡ Gives operands change →
    (rest : List WInstr) × (code ≡ plain_row b.around labels i (note_of b.frame q i) ++ rest) × IsLeft b book labels d (moved q operands change) is rest
