-- Frames and limits, written out (this project's own rows).
use Rattle.std.specs.Prelude.{◌≡◌, ℕ, List, [], ◌∷◌, Some, None}
use Rattle.rw_types.specs.declared.instrs.Instr.{CallIndirect, Drop, I64Const, LocalGet, Print}
use Rattle.rw_types.specs.declared.types.Pre.TheVariants.{Code}
use Rattle.rw_types.specs.declared.types.Qual.TheVariants.{Unr}
use Rattle.rw_types.specs.declared.types.Ty.{Of, Ty}
use Rattle.rich_typing.specs.declared.notes.Note.{Note}
use Rattle.rich_typing.specs.Table.{unr_i64}
use Rattle.rw_program.specs.Programs.{Program}
use Rattle.layout.specs.Cells.{slot_offsets}
use Rattle.layout.specs.Frames.{laid_out, start_frame}
use Rattle.layout.specs.Limits.{Functions, Globals, TooMany, TooWide, counted_within, first_passed, global_count}

-- a point with so many words beneath these operands
abbrev pub point : ℕ → List Ty → Note
point beneath taken = record { binders = []; beneath = beneath; taken = taken; local = None }

-- a function that prints 7 and gives 0, with a declared local of so many words
abbrev pub printing : ℕ → Program
printing words = record {
  funcs = record {
    file = 0;
    ty = record { binders = []; params = []; results = unr_i64 ∷ [] };
    locals = words ∷ [];
    body = I64Const 7 ∷ Print ∷ I64Const 0 ∷ [];
    notes = point 0 [] ∷ point 0 (unr_i64 ∷ []) ∷ point 0 [] ∷ [];
  } ∷ [];
  globals = [];
  main = 0;
}

-- the type of code that gives two numbers
abbrev pub giving_two : Ty
giving_two = Of Unr (Code (record { binders = []; params = []; results = unr_i64 ∷ unr_i64 ∷ [] }))

-- a function that calls what it is given, and a main that gives 0 and calls nothing: no function gives two words
abbrev pub calling_what_is_given : Program
calling_what_is_given = record {
  funcs = record {
    file = 0;
    ty = record { binders = []; params = giving_two ∷ []; results = [] };
    locals = [];
    body = LocalGet 0 ∷ CallIndirect ∷ Drop ∷ Drop ∷ [];
    notes = record { binders = []; beneath = 0; taken = []; local = Some giving_two } ∷ point 0 (giving_two ∷ []) ∷ point 1 (unr_i64 ∷ []) ∷ point 0 (unr_i64 ∷ []) ∷ [];
  } ∷ record {
    file = 0;
    ty = record { binders = []; params = []; results = unr_i64 ∷ [] };
    locals = [];
    body = I64Const 0 ∷ [];
    notes = point 0 [] ∷ [];
  } ∷ [];
  globals = [];
  main = 1;
}

-- offsets of slots, the parts of frames, frames of 10,000 and of 10,001 words, and result globals for calls through types
pub record WorkedLayouts : Type 0 where
  pub offsets : slot_offsets (2 ∷ 0 ∷ 3 ∷ 1 ∷ []) ≡ 0 ∷ 2 ∷ 2 ∷ 5 ∷ []
  pub frame : laid_out 3 (2 ∷ 0 ∷ 3 ∷ []) 7 ≡ record { params = 0; slots = 3 ∷ 5 ∷ 5 ∷ []; operands = 8; scratch = 15; total = 17 }
  pub start : start_frame (printing 0) ≡ record { params = 0; slots = []; operands = 0; scratch = 0; total = 2 }
  pub widest : first_passed (printing 9997) ≡ None
  pub too_wide : first_passed (printing 9998) ≡ Some (TooWide 0 10001)
  pub handed : global_count calling_what_is_given ≡ 4
  pub most : counted_within Functions 100000 None ≡ None
  pub too_many : counted_within Functions 100001 (counted_within Globals 100001 None) ≡ Some (TooMany Functions 100001)
