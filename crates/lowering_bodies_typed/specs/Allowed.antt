-- What is asked of the instructions of a body, each with its note, in the order of the text. This project's own.
use Rattle.std.specs.Prelude.{List, [], ◌∷◌, ⊤}
use Rattle.wasm_typing.specs.declared.context.Context.{Context}
use Rattle.rw_types.specs.declared.instrs.Instr.{Instr}
use Rattle.rich_typing.specs.declared.notes.Note.{Note}
use Rattle.rw_program.specs.declared.linked.LinkedGlobal.{LinkedGlobal}
use Rattle.layout.specs.Bodies.{text_order}
use Rattle.lowering_rows.specs.Surroundings.{Surroundings}
use Rattle.lowering_names.specs.Placed.{IsListed, IsWithoutCells}

-- none is on cells; of each call through a type the type is listed, and there are globals for what it gives
abbrev pub AreAllowed : Surroundings → Context → List Instr → List Note → Type 0
AreAllowed s C [] notes = ⊤
AreAllowed s C (i ∷ is) [] = ⊤
AreAllowed s C (i ∷ is) (note ∷ notes) = (IsListed s C i note × IsWithoutCells i) × AreAllowed s C is notes

-- of the initialisers
abbrev pub AreInitialisersAllowed : Surroundings → Context → List LinkedGlobal → Type 0
AreInitialisersAllowed s C [] = ⊤
AreInitialisersAllowed s C (g ∷ gs) = AreAllowed s C (text_order g.body) g.notes × AreInitialisersAllowed s C gs
