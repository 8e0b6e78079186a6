-- What the code of each instruction without lists names: operand words, words of locals and of globals, labels, a function, a
-- type. This project's own.
use Rattle.std.specs.Prelude.{◌≡◌, ◌≤◌, ℕ, suc, ◌+◌, List, length, None, Some, slice_get, ⊤}
use Rattle.wasm_typing.specs.declared.context.Context.{Context}
use Rattle.wasm_typing.specs.Typing.{Labels}
use Rattle.rich_operators.specs.Operators.{operator_of, takes}
use Rattle.rich_types.specs.Sizes.{size_under}
use Rattle.rw_types.specs.declared.instrs.Instr as i
use Rattle.rich_typing.specs.declared.notes.Note.{Note}
use Rattle.rw_program.specs.declared.linked.LinkedFunc.{LinkedFunc}
use Rattle.layout.specs.Calls.{code_results, top_of}
use Rattle.layout.specs.Frames.{parameter_words, result_words, taken_words}
use Rattle.layout.specs.Limits.{global_count}
use Rattle.lowering_rows.specs.Labels.{Label, label_height, label_index}
use Rattle.lowering_rows.specs.Surroundings.{Surroundings, first_result, first_scratch, global_place, global_size, local_place, operand_place}
use Rattle.lowering_rows.specs.Taken.{deepest, element_words, local_size, scope_at, second, slot_value_words, top_height, words_under_top}
use Rattle.lowering_rows_typed.specs.Contexts.{taking_words}

module _ (s : Surroundings) where
  -- the frame has so many operand words
  abbrev pub HasRoom : ℕ → Type 0
  HasRoom height = operand_place s height ≤ first_scratch s

  -- so many words from a local's first on are those of locals
  abbrev pub AreLocals : ℕ → ℕ → Type 0
  AreLocals place words = place + words ≤ s.places.operands

  -- so many words from a global on are those of globals
  abbrev pub AreGlobals : ℕ → ℕ → Type 0
  AreGlobals place words = place + words ≤ global_count s.program

  -- a call of this function with the words that are taken
  pub record NamesFunction (n : ℕ) (note : Note) : Type 0 where
    pub function : LinkedFunc
    pub found : slice_get s.program.funcs n ≡ Some function
    pub taken : taken_words note ≡ parameter_words function
    pub room : HasRoom (note.beneath + taken_words note)
    pub given : HasRoom (note.beneath + result_words function)
    pub results : AreGlobals first_result (result_words function)

  module _ (C : Context) (ls : Labels) (labels : List Label) where
    -- a branch out of so many labels with so many words, whose Wasm label takes nothing
    abbrev pub NamesLabel : ℕ → ℕ → Note → Type 0
    NamesLabel k words note = HasRoom (label_height labels k + words) × (slice_get ls (label_index labels k) ≡ Some None)

    -- what each instruction's code names is there
    abbrev pub Names : i.Instr → Note → Type 0
    Names i.Print note = HasRoom (suc note.beneath)
    Names (i.I32Const n) note = HasRoom (suc note.beneath)
    Names (i.I64Const n) note = HasRoom (suc note.beneath)
    Names (i.Num name) note = HasRoom (note.beneath + length (takes (operator_of name)))
    Names (i.Br k) note = HasRoom (note.beneath + taken_words note) × NamesLabel k (taken_words note) note
    Names (i.BrIf k) note = HasRoom (suc (top_height note)) × NamesLabel k (words_under_top note) note
    Names i.Return note = HasRoom (note.beneath + taken_words note) × AreGlobals first_result (taken_words note) × (C.result ≡ None)
    Names (i.LocalGet n) note = HasRoom (note.beneath + local_size (scope_at note) note.local) × AreLocals (local_place s n) (local_size (scope_at note) note.local)
    Names (i.LocalTake n) note = HasRoom (note.beneath + local_size (scope_at note) note.local) × AreLocals (local_place s n) (local_size (scope_at note) note.local)
    Names (i.LocalSet n) note = HasRoom (note.beneath + taken_words note) × AreLocals (local_place s n) (taken_words note)
    Names (i.GlobalGet n) note = HasRoom (note.beneath + global_size s n) × AreGlobals (global_place s n) (global_size s n)
    Names (i.GlobalSet n) note = HasRoom (note.beneath + taken_words note) × AreGlobals (global_place s n) (taken_words note)
    Names (i.Coderef n) note = HasRoom (suc note.beneath)
    Names (i.Call n arguments) note = NamesFunction n note
    Names i.CallIndirect note =
        HasRoom (suc (top_height note))
        × HasRoom (note.beneath + code_results (scope_at note) (top_of note.taken))
        × AreGlobals first_result (code_results (scope_at note) (top_of note.taken))
        × (slice_get C.types (s.type_of (words_under_top note)) ≡ Some (taking_words (words_under_top note)))
    Names (i.StructMalloc m sizes) note = HasRoom (note.beneath + taken_words note) × HasRoom (suc note.beneath)
    Names i.StructFree note = HasRoom (suc note.beneath)
    Names (i.StructGet k) note = HasRoom (suc note.beneath + slot_value_words (scope_at note) (deepest note.taken) k)
    Names (i.StructSet k) note = HasRoom (suc note.beneath + size_under (scope_at note) (second note.taken))
    Names (i.StructSwap k) note = HasRoom (suc note.beneath + size_under (scope_at note) (second note.taken) + slot_value_words (scope_at note) (deepest note.taken) k)
    Names (i.VariantMalloc m k cases) note = HasRoom (note.beneath + taken_words note) × HasRoom (suc note.beneath)
    Names (i.ArrayMalloc m) note = HasRoom (suc (top_height note)) × HasRoom (note.beneath + size_under (scope_at note) (deepest note.taken))
    Names i.ArrayGet note = HasRoom (note.beneath + 2) × HasRoom (suc note.beneath + element_words (scope_at note) (deepest note.taken))
    Names i.ArraySet note = HasRoom (note.beneath + 2 + element_words (scope_at note) (deepest note.taken))
    Names i.ArrayLen note = HasRoom (note.beneath + 2)
    Names i.ArrayFree note = HasRoom (suc note.beneath)
    Names (i.ExistPack m q size t body) note = HasRoom (note.beneath + taken_words note) × HasRoom (suc note.beneath)
    Names _ note = ⊤
