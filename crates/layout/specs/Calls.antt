-- Calls through code values: the words that such a call gives, by the type of the code. This project's own.
use Rattle.std.specs.Prelude.{ℕ, max, List, [], ◌∷◌}
use Rattle.rw_types.specs.declared.instrs.Instr.{CallIndirect, Instr}
use Rattle.rw_types.specs.declared.types.Pre.{Code', Unit, end_of-FunType, more_of-FunType}
use Rattle.rw_types.specs.declared.types.Qual.TheVariants.{Unr}
use Rattle.rw_types.specs.declared.types.Ty.{Of, Ty}
use Rattle.rich_types.specs.Scopes.{Scope, scope_of, within}
use Rattle.rich_types.specs.Sizes.{row_size}
use Rattle.rich_typing.specs.declared.notes.Note.{Note}

-- a type of no words, for where there is no operand
abbrev pub no_type : Ty
no_type = Of Unr Unit

-- the top operand
abbrev pub top_of : List Ty → Ty
top_of [] = no_type
top_of (t ∷ []) = t
top_of (t ∷ u ∷ ts) = top_of (u ∷ ts)

-- of a function that is called through its type, the words of what it gives
abbrev pub code_results : Scope → Ty → ℕ
code_results c (Of q (Code' a (more_of-FunType bs m ps n rs end_of-FunType))) = row_size (within bs c) rs
code_results c _ = 0

-- the words that an instruction gives by a call through a type
abbrev pub indirect_results : Instr → Note → ℕ
indirect_results CallIndirect note = code_results (scope_of note.binders) (top_of note.taken)
indirect_results _ note = 0

-- the greatest of these over instructions, each with its note
abbrev pub greatest_indirect : List Instr → List Note → ℕ
greatest_indirect [] notes = 0
greatest_indirect (i ∷ is) [] = 0
greatest_indirect (i ∷ is) (note ∷ notes) = max (indirect_results i note) (greatest_indirect is notes)
