-- Lowered lists, functions and exported mains are typed (WebAssembly Core Specification 1.0, sections 3.3.6 and 3.4.1). This
-- project's own.
use Rattle.std.specs.Prelude.{◌≡◌, ◌≤◌, ℕ, List, [], None, Some, slice_get}
use Rattle.wasm_ast.specs.declared.types.ValTy.TheVariants.{I64}
use Rattle.wasm_typing.specs.declared.context.Context.{Context}
use Rattle.wasm_typing.specs.Typing as w
use Rattle.wasm_typing.specs.Typing.{AreTyped, IsTypedBody}
use Rattle.rw_types.specs.declared.instrs.Instr.{Instr}
use Rattle.rich_typing.specs.declared.notes.Note.{Note}
use Rattle.rich_rules.specs.Derivations.{Derives}
use Rattle.rich_rules.specs.Points.{Demand, Frame, OfFunction, Point}
use Rattle.rw_program.specs.declared.linked.LinkedFunc.{LinkedFunc}
use Rattle.rw_program.specs.Programs.{Program}
use Rattle.rich_linking.specs.TypedPrograms.{IsTypedProgram}
use Rattle.layout.specs.Bodies.{text_order}
use Rattle.layout.specs.Frames.{greatest_height}
use Rattle.lowering_rows.specs.Labels.{Label}
use Rattle.lowering_rows.specs.Surroundings.{Surroundings, in_function, in_initialiser}
use Rattle.lowering_rows.specs.Rows.{rows}
use Rattle.lowering_rows.specs.Functions.{function_body, start_body}
use Rattle.lowering_heights.specs.Heights.{end_height}
use Rattle.lowering_rows_typed.specs.Contexts.{HasWhatIsNamed}
use Rattle.lowering_names.specs.Placed.{HasFormedTypes, IsPlaced, StandsIn}
use Rattle.lowering_bodies_typed.specs.Allowed.{AreAllowed, AreInitialisersAllowed}

-- the code of a list that has a derivation from a point that is placed in its frame
abbrev pub ListsTyped : Type 0
ListsTyped = (s : Surroundings) (f : Frame) (room : ℕ) (C : Context) (ls : w.Labels) (labels : List Label) (d : Demand) (p : Point) (is : List Instr) (notes : List Note) →
    HasFormedTypes s.program → StandsIn s f room → HasWhatIsNamed s C → (f.owner ≡ OfFunction → C.result ≡ None) → IsPlaced s f room ls labels p → Derives f d p is notes →
    greatest_height (text_order is) notes (end_height is d p) ≤ room → AreAllowed s C (text_order is) notes → AreTyped C ls (rows s labels is notes) [] []

-- the body of a function of a typed program, under a context that has what is named, and no result
abbrev pub FunctionsTyped : Type 0
FunctionsTyped = (p : Program) (type_of : ℕ → ℕ) (n : ℕ) (g : LinkedFunc) (C : Context) → IsTypedProgram p → HasFormedTypes p → slice_get p.funcs n ≡ Some g →
    HasWhatIsNamed (in_function p type_of g) C → C.result ≡ None → AreAllowed (in_function p type_of g) C (text_order g.body) g.notes → IsTypedBody C (function_body p type_of g)

-- the body of the exported main, under a context whose result is a word
abbrev pub StartsTyped : Type 0
StartsTyped = (p : Program) (type_of : ℕ → ℕ) (C : Context) → IsTypedProgram p → HasFormedTypes p → HasWhatIsNamed (in_initialiser p type_of) C → C.result ≡ Some I64 →
    AreInitialisersAllowed (in_initialiser p type_of) C p.globals → IsTypedBody C (start_body p type_of)
