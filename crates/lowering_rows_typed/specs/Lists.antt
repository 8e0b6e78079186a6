-- The lists of an instruction are typed under the Wasm labels that stand around their codes. This project's own.
use Rattle.std.specs.Prelude.{ℕ, suc, ◌+◌, List, [], ◌∷◌, ◌++◌, drop, replicate, None, ⊤}
use Rattle.wasm_typing.specs.declared.context.Context.{Context}
use Rattle.wasm_typing.specs.Typing as w
use Rattle.wasm_typing.specs.Typing.{AreTyped}
use Rattle.rw_types.specs.declared.instrs.Instr.{Instr, Block', Loop', If', MemUnpack', VariantCase', ExistUnpack', Row_of-Instr, Row_of-Instr-VariantCase-1-1, end_of-Instr-VariantCase-1-1, more_of-Instr-VariantCase-1-1}
use Rattle.rich_typing.specs.declared.notes.Note.{Note}
use Rattle.layout.specs.Bodies.{row_count}
use Rattle.layout.specs.Calls.{top_of}
use Rattle.lowering_rows.specs.Surroundings.{Surroundings}
use Rattle.lowering_rows.specs.Labels.{Label, case_label, plain_label}
use Rattle.lowering_rows.specs.Taken.{body_words, case_words, scope_at, top_height}
use Rattle.lowering_rows.specs.Rows.{row_code}
use Rattle.lowering_rows_typed.specs.Names.{HasRoom}

module _ (s : Surroundings) (C : Context) (ls : w.Labels) (labels : List Label) where
  -- a list within a label, whose blocks take and give nothing
  abbrev pub IsTypedWithin : {n : _} → Label → Row_of-Instr n → List Note → Type 0
  IsTypedWithin label body notes = AreTyped C (replicate (suc label.within) None ++ ls) (row_code s (label ∷ labels) body notes) [] []

  -- the lists of the cases from this number on, for whose values there is room
  abbrev pub AreCasesTyped : {n : _} → ℕ → Row_of-Instr-VariantCase-1-1 n → Note → List Note → Type 0
  AreCasesTyped k end_of-Instr-VariantCase-1-1 note notes = ⊤
  AreCasesTyped k (more_of-Instr-VariantCase-1-1 n arm arms) note notes =
      HasRoom s (top_height note + case_words (scope_at note) (top_of note.taken) k) × IsTypedWithin (case_label note.beneath) arm notes × AreCasesTyped (suc k) arms note (drop (row_count arm) notes)

  -- the lists of an instruction, before which its condition or its reference stands on top
  abbrev pub AreListsTyped : Instr → Note → List Note → Type 0
  AreListsTyped (Block' sig n body) note later = IsTypedWithin (plain_label note.beneath) body later
  AreListsTyped (Loop' sig n body) note later = IsTypedWithin (plain_label note.beneath) body later
  AreListsTyped (If' sig n one m other) note later =
      HasRoom s (suc (top_height note)) × IsTypedWithin (plain_label note.beneath) one later × IsTypedWithin (plain_label note.beneath) other (drop (row_count one) later)
  AreListsTyped (MemUnpack' sig n body) note later = IsTypedWithin (plain_label note.beneath) body later
  AreListsTyped (VariantCase' sig n arms) note later = HasRoom s (suc (top_height note)) × AreCasesTyped 0 arms note later
  AreListsTyped (ExistUnpack' sig n body) note later =
      HasRoom s (suc (top_height note)) × HasRoom s (top_height note + body_words (scope_at note) (top_of note.taken)) × IsTypedWithin (plain_label note.beneath) body later
  AreListsTyped _ note later = ⊤
