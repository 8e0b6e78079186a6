-- What the code of an instruction names is there. This project's own.
use Rattle.std.specs.Prelude.{◌≡◌, ℕ, List, None}
use Rattle.wasm_typing.specs.declared.context.Context.{Context}
use Rattle.wasm_typing.specs.Typing as w
use Rattle.rw_types.specs.declared.instrs.Instr.{Instr}
use Rattle.rich_rules.specs.Points.{Frame, OfFunction, Outcome, Point}
use Rattle.rich_rules.specs.Table.{note_of, row}
use Rattle.rich_rules_inversions.specs.Cells.{Goes}
use Rattle.lowering_rows.specs.Labels.{Label}
use Rattle.lowering_rows.specs.Surroundings.{Surroundings}
use Rattle.lowering_rows_typed.specs.Names.{Names}
use Rattle.lowering_names.specs.Placed.{HasFormedTypes, HasRoomAfter, IsListed, IsPlaced, IsWithoutCells, StandsIn}

-- at a point that is placed in its frame, where the instruction breaks no rule and what it gives has room
abbrev pub NamesFollow : Type 0
NamesFollow = (s : Surroundings) (f : Frame) (room : ℕ) (C : Context) (ls : w.Labels) (labels : List Label) (p : Point) (i : Instr) (o : Outcome) →
    HasFormedTypes s.program → StandsIn s f room → (f.owner ≡ OfFunction → C.result ≡ None) → IsPlaced s f room ls labels p → row f p i ≡ o → Goes o → HasRoomAfter room p o →
    IsListed s C i (note_of f p i) → IsWithoutCells i → Names s C ls labels i (note_of f p i)
