use Rattle.std.proofs.Common.{subst, sym}
use Rattle.rw_types.specs.declared.instrs.Instr.{Instr}
use Rattle.rich_text.specs.Forms.{instruction_form}
use Rattle.rw_parser.proofs.Composing.{row_fails, row_gave}
use Rattle.rw_parser.proofs.Firsts.{handed}
use Rattle.rw_parser.specs.Reads.{Gave, behind_head}
use Rattle.rw_instruction_words.specs.Words.{index_word}
use Rattle.rw_plain_forms.proofs.IndexRows.{index_row}
use Rattle.rw_plain_forms.proofs.plain.read_index_instruction.Goals as goal

pub returns-in_err-index : goal.returns-in_err-index
returns-in_err-index c = handed (behind_head instruction_form (index_word c.args.head)) 1 _ _ c.from_residual.result _ c.from_residual.ensures.1 (row_fails (index_row c.args.head) c.in_err-index.ensures)

pub returns : goal.returns
returns c =
    let P : Instr → Type 0 = λ i. Gave (behind_head instruction_form (index_word c.args.head)) 1 c.args.parser.now c.only_index.new.parser i in
    subst P (sym c.index_instruction.ensures) (row_gave (index_row c.args.head) c.in_ok-index.ensures)
