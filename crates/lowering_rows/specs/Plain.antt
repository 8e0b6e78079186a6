-- The code of each instruction that has no list, by its note. This project's own, in the terms of the WebAssembly Core
-- Specification 1.0, section 2.4.
use Rattle.std.specs.Prelude.{ℕ, suc, ◌+◌, List, [], ◌∷◌, ◌++◌, None}
use Rattle.wasm_ast.specs.declared.instructions.WInstr as w
use Rattle.rw_types.specs.declared.instrs.Instr as i
use Rattle.rich_typing.specs.declared.notes.Note.{Note}
use Rattle.layout.specs.Calls.{code_results, top_of}
use Rattle.layout.specs.Frames.{taken_words}
use Rattle.layout.specs.Limits.{functions_before}
use Rattle.lowering_rows.specs.Moves.{erased, fetches, gets, gives, moves}
use Rattle.lowering_rows.specs.Numbers.{number_code}
use Rattle.lowering_rows.specs.Surroundings.{Surroundings, called_results, first_result, global_place, global_size, local_place, operand_place}
use Rattle.lowering_rows.specs.Labels.{Label, label_height, label_index}
use Rattle.lowering_rows.specs.Taken.{local_size, scope_at, top_height, words_under_top}
use Rattle.lowering_rows.specs.Cells.{deepest_place, exist_pack_code, free_code, struct_get_code, struct_malloc_code, struct_set_code, struct_swap_code, variant_malloc_code}
use Rattle.lowering_rows.specs.Arrays.{array_get_code, array_len_code, array_malloc_code, array_set_code}

-- a constant goes to the local of the first word that an instruction gives
abbrev pub constant : Surroundings → ℕ → Note → List w.WInstr
constant s n note = w.I64Const n ∷ w.LocalSet (deepest_place s note) ∷ []

-- so many words of a branch, from the local of its deepest operand on, are moved to the height of its label, whose block
-- has this index
abbrev pub branches : Surroundings → List Label → ℕ → ℕ → ℕ → Note → List w.WInstr
branches s labels k index words note =
    moves words (deepest_place s note) (operand_place s (label_height labels k)) ++ w.Br index ∷ []

-- br
abbrev pub br_code : Surroundings → List Label → ℕ → Note → List w.WInstr
br_code s labels k note = branches s labels k (label_index labels k) (taken_words note) note

-- br_if: the branch stands in an `if`
abbrev pub br_if_code : Surroundings → List Label → ℕ → Note → List w.WInstr
br_if_code s labels k note =
    w.LocalGet (operand_place s (top_height note)) ∷ w.I32WrapI64
    ∷ w.If None (branches s labels k (suc (label_index labels k)) (words_under_top note) note) ∷ []

-- the results of a call, so many words
abbrev pub results : Surroundings → ℕ → Note → List w.WInstr
results s words note = fetches words first_result (deepest_place s note)

-- call
abbrev pub call_code : Surroundings → ℕ → Note → List w.WInstr
call_code s n note =
    gets (taken_words note) (deepest_place s note) ++ w.Call (functions_before + n) ∷ results s (called_results s n) note

-- call_indirect: the number of the function is the last word
abbrev pub call_indirect_code : Surroundings → Note → List w.WInstr
call_indirect_code s note =
    gets (words_under_top note) (deepest_place s note)
    ++ w.LocalGet (operand_place s (top_height note)) ∷ w.I32WrapI64 ∷ w.CallIndirect (s.type_of (words_under_top note))
    ∷ results s (code_results (scope_at note) (top_of note.taken)) note

-- the words of a local's type go to the operands
abbrev pub local_get_code : Surroundings → ℕ → Note → List w.WInstr
local_get_code s n note = moves (local_size (scope_at note) note.local) (local_place s n) (deepest_place s note)

-- the table; those that have a list have none here
abbrev pub plain_row : Surroundings → List Label → i.Instr → Note → List w.WInstr
plain_row s labels i.Unreachable note = w.I32Const 3 ∷ w.GlobalSet 0 ∷ w.Unreachable ∷ []
plain_row s labels i.Print note = w.LocalGet (deepest_place s note) ∷ w.Call 0 ∷ []
plain_row s labels (i.I32Const n) note = constant s n note
plain_row s labels (i.I64Const n) note = constant s n note
plain_row s labels (i.Num name) note = number_code name (deepest_place s note)
plain_row s labels (i.Br k) note = br_code s labels k note
plain_row s labels (i.BrIf k) note = br_if_code s labels k note
plain_row s labels i.Return note = gives (taken_words note) (deepest_place s note) first_result ++ w.Return ∷ []
plain_row s labels (i.LocalGet n) note = local_get_code s n note
plain_row s labels (i.LocalTake n) note = local_get_code s n note
plain_row s labels (i.LocalSet n) note = moves (taken_words note) (deepest_place s note) (local_place s n)
plain_row s labels (i.GlobalGet n) note = fetches (global_size s n) (global_place s n) (deepest_place s note)
plain_row s labels (i.GlobalSet n) note = gives (taken_words note) (deepest_place s note) (global_place s n)
plain_row s labels (i.Coderef n) note = constant s n note
plain_row s labels (i.Call n arguments) note = call_code s n note
plain_row s labels i.CallIndirect note = call_indirect_code s note
plain_row s labels (i.StructMalloc m sizes) note = struct_malloc_code s m sizes note
plain_row s labels i.StructFree note = free_code s note
plain_row s labels (i.StructGet k) note = struct_get_code s k note
plain_row s labels (i.StructSet k) note = struct_set_code s k note
plain_row s labels (i.StructSwap k) note = struct_swap_code s k note
plain_row s labels (i.VariantMalloc m k cases) note = variant_malloc_code s m k cases note
plain_row s labels (i.ArrayMalloc m) note = array_malloc_code s m note
plain_row s labels i.ArrayGet note = array_get_code s note
plain_row s labels i.ArraySet note = array_set_code s note
plain_row s labels i.ArrayLen note = array_len_code s note
plain_row s labels i.ArrayFree note = free_code s note
plain_row s labels (i.ExistPack m q size t body) note = exist_pack_code s m note
plain_row s labels i.Nop note = erased
plain_row s labels i.Drop note = erased
plain_row s labels i.Unit note = erased
plain_row s labels (i.Inst arguments) note = erased
plain_row s labels i.Qualify note = erased
plain_row s labels (i.RecFold t) note = erased
plain_row s labels i.RecUnfold note = erased
plain_row s labels (i.Group n q) note = erased
plain_row s labels i.Ungroup note = erased
plain_row s labels (i.MemPack l t) note = erased
plain_row s labels i.RefSplit note = erased
plain_row s labels i.RefJoin note = erased
plain_row s labels i.CapSplit note = erased
plain_row s labels i.CapJoin note = erased
plain_row s labels _ note = []
