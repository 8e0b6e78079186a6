-- The code of instructions is typed (WebAssembly Core Specification 1.0, section 3.3). This project's own.
use Rattle.std.specs.Prelude.{◌≡◌, List, [], false}
use Rattle.wasm_ast.specs.declared.types.ValTy.{ValTy}
use Rattle.wasm_typing.specs.declared.context.Context.{Context}
use Rattle.wasm_typing.specs.Typing as w
use Rattle.wasm_typing.specs.Typing.{AreTyped}
use Rattle.rw_types.specs.declared.instrs.Instr.{Instr}
use Rattle.rich_typing.specs.declared.notes.Note.{Note}
use Rattle.layout.specs.Bodies.{ends_list}
use Rattle.lowering_rows.specs.Labels.{Label}
use Rattle.lowering_rows.specs.Surroundings.{Surroundings}
use Rattle.lowering_rows.specs.Plain.{plain_row}
use Rattle.lowering_rows.specs.Rows.{row}
use Rattle.lowering_rows_typed.specs.Contexts.{HasWhatIsNamed}
use Rattle.lowering_rows_typed.specs.Names.{Names}
use Rattle.lowering_rows_typed.specs.Lists.{AreListsTyped}

-- where what it names is there, the code of an instruction takes no operand and leaves none, or, where it ends its list, any
abbrev pub PlainRowsTyped : Type 0
PlainRowsTyped = (s : Surroundings) (C : Context) (ls : w.Labels) (labels : List Label) (i : Instr) (note : Note) (after : List ValTy) →
    HasWhatIsNamed s C → Names s C ls labels i note → (ends_list i ≡ false → after ≡ []) → AreTyped C ls (plain_row s labels i note) [] after

-- and so has that of each instruction, where its lists are typed
abbrev pub RowsTyped : Type 0
RowsTyped = (s : Surroundings) (C : Context) (ls : w.Labels) (labels : List Label) (i : Instr) (note : Note) (later : List Note) (after : List ValTy) →
    HasWhatIsNamed s C → Names s C ls labels i note → AreListsTyped s C ls labels i note later → (ends_list i ≡ false → after ≡ []) → AreTyped C ls (row s labels i note later) [] after
