-- Bodies with the notes of all their points. This project's own.
use Rattle.std.specs.Prelude.{ℕ, true, List, [], ◌∷◌, Some, None}
use Rattle.rw_types.specs.declared.instrs.Instr.{Br, Call, Drop, I32Const, I64Const, LocalGet, LocalSet, StructFree, StructGet, StructMalloc, StructSet, Unreachable}
use Rattle.rw_types.specs.declared.instrs.Instr.TheVariants.{Block, If, MemUnpack}
use Rattle.rw_types.specs.declared.types.Binder.TheVariants.{Loc}
use Rattle.rw_types.specs.declared.types.Heap.TheVariants.{Struct}
use Rattle.rw_types.specs.declared.types.Mem.TheVariants.{L, U}
use Rattle.rw_types.specs.declared.types.Pre.{Ref}
use Rattle.rw_types.specs.declared.types.Priv.TheVariants.{Rw}
use Rattle.rw_types.specs.declared.types.Qual.TheVariants.{Lin, Unr}
use Rattle.rw_types.specs.declared.types.Ty.{Ty, Of}
use Rattle.rich_types.specs.Rows.{cell, hidden_reference, long, short, slot, unit_type}
use Rattle.rich_typing.specs.declared.notes.Note.{Note}
use Rattle.rich_rules.specs.Modules.{IsWellTyped}
use Rattle.rich_rules_rows.specs.Samples.{fun_type, function, functions, global, main_function, module_of, plain, signature}

-- a note without binders: so many words beneath what is taken, which is these types
abbrev note : ℕ → List Ty → Note
note beneath taken = record { binders = []; beneath = beneath; taken = taken; local = None }

-- and that of an instruction which names a local of this type
abbrev note_naming : ℕ → List Ty → Ty → Note
note_naming beneath taken t = record { binders = []; beneath = beneath; taken = taken; local = Some t }

-- a note below a location of the linear memory
abbrev note_below : ℕ → List Ty → Note
note_below beneath taken = record { binders = Loc L ∷ []; beneath = beneath; taken = taken; local = None }

-- a number in a cell of the unrestricted memory
abbrev shared : Ty
shared = hidden_reference Unr U (Struct (slot long 1 ∷ []))

-- a reference to a linear cell that holds this
abbrev reference_to : Ty → Ty
reference_to t = Of Lin (Ref Rw 0 (Struct (slot t 1 ∷ [])))

-- what lies beneath is counted through all open lists, in words; a block's note stands before those of its lists, and an
-- instruction that ends its list has a note too
pub record WorkedNotes : Type 0 where
  pub a_cell_is_written_and_freed : IsWellTyped
      (functions (main_function [] (I64Const 5 ∷ StructMalloc L (1 ∷ []) ∷ MemUnpack plain (I64Const 9 ∷ StructMalloc U (1 ∷ []) ∷ StructSet 0 ∷ StructGet 0 ∷ Drop ∷ StructFree ∷ []) ∷ I64Const 0 ∷ []) ∷ []))
      ((note 0 [] ∷ note 0 (long ∷ []) ∷ note 0 (cell ∷ []) ∷ note_below 1 [] ∷ note_below 1 (long ∷ []) ∷ note_below 0 (reference_to long ∷ shared ∷ []) ∷ note_below 0 (reference_to shared ∷ []) ∷ note_below 1 (shared ∷ []) ∷ note_below 0 (reference_to shared ∷ []) ∷ note 0 [] ∷ []) ∷ [])
  pub beneath_open_lists : IsWellTyped
      (functions (main_function (1 ∷ []) (I64Const 7 ∷ I32Const 1 ∷ I32Const 1 ∷ If (signature (short ∷ []) (short ∷ []) []) [] (Drop ∷ I64Const 2 ∷ LocalSet 0 ∷ Unreachable ∷ []) ∷ Drop ∷ LocalGet 0 ∷ Drop ∷ []) ∷ []))
      ((note 0 [] ∷ note 1 [] ∷ note 2 [] ∷ note 1 (short ∷ short ∷ []) ∷ note 1 (short ∷ []) ∷ note 1 [] ∷ note_naming 1 (long ∷ []) unit_type ∷ note 1 [] ∷ note 1 (short ∷ []) ∷ note_naming 1 [] unit_type ∷ note 1 (unit_type ∷ []) ∷ []) ∷ [])
  pub a_branch_skips_what_lies_beneath : IsWellTyped
      (functions (main_function [] (Block (signature [] (long ∷ []) []) (I32Const 4 ∷ I64Const 5 ∷ Br 0 ∷ []) ∷ []) ∷ []))
      ((note 0 [] ∷ note 0 [] ∷ note 1 [] ∷ note 1 (long ∷ []) ∷ []) ∷ [])
  pub functions_and_then_globals : IsWellTyped
      (module_of [] (function (fun_type [] (long ∷ short ∷ []) []) [] [] ∷ main_function [] (I64Const 1 ∷ I64Const 2 ∷ I32Const 3 ∷ Call 0 [] ∷ []) ∷ []) (global true long (I64Const 6 ∷ []) ∷ []) [])
      ([] ∷ (note 0 [] ∷ note 1 [] ∷ note 2 [] ∷ note 1 (long ∷ short ∷ []) ∷ []) ∷ (note 0 [] ∷ []) ∷ [])
