-- Codes and heights of the table, written out (this project's own rows).
use Rattle.std.specs.Prelude.{◌≡◌, ℕ, List, [], ◌∷◌, false, None}
use Rattle.wasm_ast.specs.declared.instructions.WInstr as w
use Rattle.wasm_ast.specs.declared.types.ValTy.TheVariants.{I64}
use Rattle.rw_types.specs.declared.instrs.BlockSig.{BlockSig}
use Rattle.rw_types.specs.declared.instrs.Instr.{Instr, Block, CallIndirect, Drop, I64Const, If, Nop, Num, Print, StructSwap, Unit, Unreachable}
use Rattle.rw_types.specs.declared.numbers.NumName.TheVariants.{I64Add}
use Rattle.rw_types.specs.declared.types.Binder.TheVariants.{Loc}
use Rattle.rw_types.specs.declared.types.Heap.TheVariants.{Struct}
use Rattle.rw_types.specs.declared.types.Mem.TheVariants.{L}
use Rattle.rw_types.specs.declared.types.Pre.{Ref}
use Rattle.rw_types.specs.declared.types.Pre.TheVariants.{Code, Tuple}
use Rattle.rw_types.specs.declared.types.Priv.TheVariants.{Rw}
use Rattle.rw_types.specs.declared.types.Qual.TheVariants.{Lin, Unr}
use Rattle.rw_types.specs.declared.types.Ty.{Ty, Of}
use Rattle.rich_typing.specs.declared.notes.Note.{Note}
use Rattle.rich_typing.specs.Table.{unr_i64, i64s, note_of}
use Rattle.rw_program.specs.declared.linked.LinkedGlobal.{LinkedGlobal}
use Rattle.rw_program.specs.LonePrograms.{lone_func}
use Rattle.rw_program.specs.Programs.{Program}
use Rattle.lowering_table.specs.Bodies.{text_order}
use Rattle.lowering_table.specs.Frames.{height_of}
use Rattle.lowering_table.specs.Codes.{code_of, low_function, main_code}
use Rattle.lowering_table.specs.Types.{alloc_type, low_types, print_type, start_type}

-- what the points before these instructions tell, where each has so many numbers of 64 bits before it
abbrev pub notes_at : List Instr → List ℕ → List Note
notes_at (i ∷ is) (k ∷ ks) = note_of [] i (i64s k) ∷ notes_at is ks
notes_at _ _ = []

-- a function that gives a number of 64 bits, and whose list is ended at once: no result is moved, and no operand has room
abbrev pub EndedFunction : Type 0
EndedFunction =
    low_function (lone_func (Unreachable ∷ []) (notes_at (Unreachable ∷ []) (0 ∷ [])))
    ≡ code_of 2 (w.I32Const 3 ∷ w.GlobalSet 0 ∷ w.Unreachable ∷ [])

abbrev pub global : Ty → List Instr → List ℕ → LinkedGlobal
global ty body heights = record { file = 0; mutable = false; ty = ty; body = body; notes = notes_at body heights }

-- a function that gives 9, and these globals
abbrev pub with_globals : List LinkedGlobal → Program
with_globals globals = record {
  funcs = lone_func (I64Const 9 ∷ []) (notes_at (I64Const 9 ∷ []) (0 ∷ [])) ∷ [];
  globals = globals;
  main = 0;
}

-- 5, and the sum of 1 and 2
abbrev pub two_globals : Program
two_globals = with_globals
    (global unr_i64 (I64Const 5 ∷ []) (0 ∷ []) ∷ global unr_i64 (I64Const 1 ∷ I64Const 2 ∷ Num I64Add ∷ []) (0 ∷ 1 ∷ 2 ∷ []) ∷ [])

abbrev pub TwoInitialisers : Type 0
TwoInitialisers = main_code two_globals ≡ code_of 4 (
    w.Block None (w.I64Const 5 ∷ w.LocalSet 0 ∷ [])
    ∷ w.LocalGet 0 ∷ w.GlobalSet 3
    ∷ w.Block None (w.I64Const 1 ∷ w.LocalSet 0 ∷ w.I64Const 2 ∷ w.LocalSet 1 ∷ w.LocalGet 0 ∷ w.LocalGet 1 ∷ w.I64Add ∷ w.LocalSet 0 ∷ [])
    ∷ w.LocalGet 0 ∷ w.GlobalSet 4
    ∷ w.Call 4 ∷ w.GlobalGet 2 ∷ [])

-- three words
abbrev pub triple : Ty
triple = Of Unr (Tuple (unr_i64 ∷ unr_i64 ∷ unr_i64 ∷ []))

-- an initialiser whose list is ended at once: its words are moved all the same, and have room
abbrev pub EndedInitialiser : Type 0
EndedInitialiser = main_code (with_globals (global triple (Unreachable ∷ []) (0 ∷ []) ∷ [])) ≡ code_of 5 (
    w.Block None (w.I32Const 3 ∷ w.GlobalSet 0 ∷ w.Unreachable ∷ [])
    ∷ w.LocalGet 0 ∷ w.GlobalSet 3 ∷ w.LocalGet 1 ∷ w.GlobalSet 4 ∷ w.LocalGet 2 ∷ w.GlobalSet 5
    ∷ w.Call 4 ∷ w.GlobalGet 2 ∷ [])

-- a reference to a struct of one slot with a number, and another number
abbrev pub swap_note : Note
swap_note = record {
  binders = Loc L ∷ [];
  beneath = 0;
  taken = Of Lin (Ref Rw 0 (Struct (record { ty = unr_i64; size = 1 } ∷ []))) ∷ unr_i64 ∷ [];
  local = None;
}

-- the reference, the new number, and the old one
abbrev pub SwapHeight : Type 0
SwapHeight = height_of (StructSwap 0) swap_note ≡ 3

abbrev pub no_change : BlockSig
no_change = record { params = []; results = []; locals = [] }

-- an instruction stands before those of its lists, and these before what follows it
abbrev pub NestedOrder : Type 0
NestedOrder =
    text_order (If no_change (Nop ∷ Print ∷ []) (Block no_change (Unit ∷ []) ∷ []) ∷ Drop ∷ [])
    ≡ If no_change (Nop ∷ Print ∷ []) (Block no_change (Unit ∷ []) ∷ []) ∷ Nop ∷ Print ∷ Block no_change (Unit ∷ []) ∷ Unit ∷ Drop ∷ []

-- the note of an indirect call of a function that takes two numbers
abbrev pub call_note : Note
call_note = record {
  binders = [];
  beneath = 0;
  taken = unr_i64 ∷ unr_i64 ∷ Of Unr (Code (record { binders = []; params = unr_i64 ∷ unr_i64 ∷ []; results = [] })) ∷ [];
  local = None;
}

-- a program whose function makes such a call within a block
abbrev pub calling : Program
calling = record {
  funcs = lone_func (Block no_change (CallIndirect ∷ []) ∷ []) (note_of [] Nop [] ∷ call_note ∷ []) ∷ [];
  globals = [];
  main = 0;
}

-- its type stands after that of the exported main
abbrev pub IndirectTypes : Type 0
IndirectTypes =
    low_types calling
    ≡ print_type ∷ alloc_type ∷ record { params = []; result = None } ∷ start_type ∷ record { params = I64 ∷ I64 ∷ []; result = None } ∷ []
