-- The row of an instruction whose one immediate is an index.
use Rattle.std.proofs.Common.{◌≡◌, Some, refl}
use Rattle.rich_text.specs.Grammars.{done, index, one, row}
use Rattle.rich_text.specs.Instructions.{instruction_heads}
use Rattle.rich_text.specs.Reading.{look_up}
use Rattle.rw_instruction_words.specs.declared.tables.IndexHead.{IndexHead}
use Rattle.rw_instruction_words.specs.declared.tables.IndexHead.TheVariants as head
use Rattle.rw_instruction_words.specs.Words.{index_word}
use Rattle.rw_plain_forms.specs.IndexInstructions.{index_instruction}

pub index_row : (h : IndexHead) → look_up (index_word h) instruction_heads ≡ Some (row (one index done) (λ v. index_instruction h v.0))
index_row head.Br = refl
index_row head.BrIf = refl
index_row head.LocalGet = refl
index_row head.LocalTake = refl
index_row head.LocalSet = refl
index_row head.GlobalGet = refl
index_row head.GlobalSet = refl
index_row head.Coderef = refl
index_row head.StructGet = refl
index_row head.StructSet = refl
index_row head.StructSwap = refl
