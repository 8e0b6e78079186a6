-- Bodies in their frames, and points of them with the labels around. This project's own.
use Rattle.std.specs.Prelude.{◌≡◌, ◌≤◌, ℕ, suc, ◌+◌, List, [], ◌∷◌, ◌++◌, replicate, sum, None, Some, slice_get, ⊤}
use Rattle.wasm_typing.specs.declared.context.Context.{Context}
use Rattle.wasm_typing.specs.Typing as w
use Rattle.rw_types.specs.declared.instrs.Instr as i
use Rattle.rich_types.specs.Scopes.{Scope, scope_of}
use Rattle.rich_types.specs.Sizes.{list_size}
use Rattle.rich_typing.specs.declared.notes.Note.{Note}
use Rattle.rich_rules.specs.Modules.{function_type_broken, global_broken}
use Rattle.rich_rules.specs.Points as rules
use Rattle.rich_rules.specs.Points.{Ends, Enters, Frame, Gives, Breaks, Outcome, Point}
use Rattle.rich_rules.specs.Table.{rest_size}
use Rattle.rich_rules_formed.specs.Formed.{IsFormedPoint}
use Rattle.rw_program.specs.declared.linked.LinkedFunc.{LinkedFunc}
use Rattle.rw_program.specs.declared.linked.LinkedGlobal.{LinkedGlobal}
use Rattle.rw_program.specs.Linking.{global_of}
use Rattle.rw_program.specs.Programs.{Program}
use Rattle.rich_linking.specs.TypedPrograms.{types_of_functions, types_of_globals}
use Rattle.layout.specs.Calls.{code_results, top_of}
use Rattle.layout.specs.Cells.{offsets_from}
use Rattle.layout.specs.Limits.{greatest_result}
use Rattle.lowering_rows.specs.Labels.{Label}
use Rattle.lowering_rows.specs.Surroundings.{Surroundings, first_result}
use Rattle.lowering_rows.specs.Taken.{scope_at, words_under_top}
use Rattle.lowering_heights.specs.Heights.{height_at}
use Rattle.lowering_locals.specs.Fitting.{LocalsFit}
use Rattle.lowering_rows_typed.specs.Contexts.{taking_words}
use Rattle.lowering_rows_typed.specs.Names.{AreGlobals}

-- the types of a program's functions and globals break no rule
pub record HasFormedTypes (p : Program) : Type 0 where
  pub functions : (n : ℕ) (f : LinkedFunc) → slice_get p.funcs n ≡ Some f → function_type_broken f.ty ≡ None
  pub globals : (n : ℕ) (g : LinkedGlobal) → slice_get p.globals n ≡ Some g → global_broken (global_of g) ≡ None

-- a body, of whose program the rules see this, stands in these surroundings with so many operand words
pub record StandsIn (s : Surroundings) (f : Frame) (room : ℕ) : Type 0 where
  pub functions : f.functions ≡ types_of_functions s.program.funcs
  pub globals : f.globals ≡ types_of_globals s.program.globals
  pub locals : s.places.locals ≡ offsets_from 0 f.slots
  pub operands : s.places.operands ≡ sum f.slots
  pub scratch : s.places.operands + room ≡ s.places.scratch

-- the open lists that the rules see are those of lowered code: each at its height, and in Wasm labels that take nothing
abbrev pub AreLowered : Scope → List rules.Label → List Label → w.Labels → Type 0
AreLowered c [] labels ls = ⊤
AreLowered c (l ∷ outer) [] ls = ⊥
AreLowered c (l ∷ outer) (label ∷ labels) ls =
    (label.height ≡ rest_size c (l ∷ outer)) × (rest : w.Labels) × (ls ≡ replicate (suc label.within) None ++ rest) × AreLowered c outer labels rest

-- a point of such a body: its types, its locals, its labels, the results of its function, and its height
pub record IsPlaced (s : Surroundings) (f : Frame) (room : ℕ) (ls : w.Labels) (labels : List Label) (p : Point) : Type 0 where
  pub formed : IsFormedPoint p
  pub locals : LocalsFit f.slots p
  pub lowered : AreLowered (scope_of p.binders) p.labels labels ls
  pub results : list_size (scope_of p.binders) p.results ≤ greatest_result s.program.funcs
  pub height : height_at p ≤ room

-- there is room for what an instruction gives
abbrev pub HasRoomAfter : ℕ → Point → Outcome → Type 0
HasRoomAfter room p (Gives operands change) = list_size (scope_of p.binders) operands + rest_size (scope_of p.binders) p.labels ≤ room
HasRoomAfter room p Ends = ⊤
HasRoomAfter room p (Enters e) = ⊤
HasRoomAfter room p (Breaks b) = ⊤

-- of a call through a type: the type is listed, and there are globals for what it gives
abbrev pub IsListed : Surroundings → Context → i.Instr → Note → Type 0
IsListed s C i.CallIndirect note =
    AreGlobals s first_result (code_results (scope_at note) (top_of note.taken)) × (slice_get C.types (s.type_of (words_under_top note)) ≡ Some (taking_words (words_under_top note)))
IsListed s C _ note = ⊤

-- an instruction that is not on cells
abbrev pub IsWithoutCells : i.Instr → Type 0
IsWithoutCells (i.StructMalloc m sizes) = ⊥
IsWithoutCells i.StructFree = ⊥
IsWithoutCells (i.StructGet k) = ⊥
IsWithoutCells (i.StructSet k) = ⊥
IsWithoutCells (i.StructSwap k) = ⊥
IsWithoutCells (i.VariantMalloc m k cases) = ⊥
IsWithoutCells (i.VariantCase' sig n arms) = ⊥
IsWithoutCells (i.ArrayMalloc m) = ⊥
IsWithoutCells i.ArrayGet = ⊥
IsWithoutCells i.ArraySet = ⊥
IsWithoutCells i.ArrayLen = ⊥
IsWithoutCells i.ArrayFree = ⊥
IsWithoutCells (i.ExistPack m q size t body) = ⊥
IsWithoutCells (i.ExistUnpack' sig n body) = ⊥
IsWithoutCells _ = ⊤
