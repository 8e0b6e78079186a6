use Rattle.std.proofs.Common.{List, refl, subst, sym}
use Rattle.std.specs.Prelude.{codes}
use Rattle.rw_types.specs.declared.instrs.Instr.{Instr}
use Rattle.rich_text.specs.Forms.{arm_form, else_form, instruction_form, then_form}
use Rattle.rich_text.specs.Grammars.{a_form, many}
use Rattle.rw_parser.proofs.Composing.{first_fails, later_fails, one_gave, row_fails, row_gave}
use Rattle.rw_parser.proofs.Firsts.{handed}
use Rattle.rw_parser.proofs.Looping.{Going, going_fails, going_more}
use Rattle.rw_parser.proofs.Plain.{opening_fails, plain_fails, plain_gave}
use Rattle.rw_parser.specs.Reads.{a_part, behind_head, the_fields}
use Rattle.rw_instruction_forms.proofs.Beginnings.{began_reads, behind_block_word, gave_block, headed_instruction, whole_instruction}
use Rattle.rw_instruction_forms.specs.Blocks.{block_fields, branch_fields}
use Rattle.rw_plain_forms.proofs.SignatureFields.{behind_signature_fails, signature_gave}
use Rattle.rw_type_forms.proofs.Heading.{form_fails, form_gave, handed_on}
use Rattle.rw_instruction_words.specs.declared.tables.BlockHead.TheVariants as head
use Rattle.rw_instruction_forms.proofs.instructions.+instructions.Goals as goal

pub read_instructions-returns-in_err-read_instruction : goal.read_instructions-returns-in_err-read_instruction
read_instructions-returns-in_err-read_instruction t c = handed (the_fields (many (a_form instruction_form))) 1 _ _ c.from_residual.result _ c.from_residual.ensures.1 (going_fails {k = (a_form instruction_form)} c.loop-instructions.invariant c.loop-instructions-test.ensures c.in_err-read_instruction.ensures)

pub read_instructions-loop-instructions-preserved : goal.read_instructions-loop-instructions-preserved
read_instructions-loop-instructions-preserved t c =
    let P : List Instr → Type 0 = λ xs. Going (a_form instruction_form) c.args.parser.now c.read_instruction.new.parser xs in
    subst P (sym c.in_ok-push.ensures.ok) (going_more {k = (a_form instruction_form)} c.loop-instructions.invariant c.loop-instructions-test.ensures c.in_ok-read_instruction.ensures)

pub read_instruction-returns-in_err-word : goal.read_instruction-returns-in_err-word
read_instruction-returns-in_err-word t c = handed (a_part (a_form instruction_form)) 0 _ _ c.from_residual.result _ c.from_residual.ensures.1 c.in_err-word.ensures

pub read_instruction-returns-in-Whole : goal.read_instruction-returns-in-Whole
read_instruction-returns-in-Whole t c = whole_instruction _ c.in-Whole.is c.instruction_of_word.ensures c.in_ok-word.ensures

pub read_instruction-returns-in-Index : goal.read_instruction-returns-in-Index
read_instruction-returns-in-Index t c = began_reads instruction_form _ _ _ _ c.read_index_instruction.result refl (headed_instruction _ c.in-Head.is c.in-Index.is c.in_ok-word.ensures) c.read_index_instruction.ensures

pub read_instruction-returns-in-Plain : goal.read_instruction-returns-in-Plain
read_instruction-returns-in-Plain t c = began_reads instruction_form _ _ _ _ c.read_plain_instruction.result refl (headed_instruction _ c.in-Head.is c.in-Plain.is c.in_ok-word.ensures) c.read_plain_instruction.ensures

pub read_instruction-returns-in-Block : goal.read_instruction-returns-in-Block
read_instruction-returns-in-Block t c = began_reads instruction_form _ _ _ _ c.read_block_instruction.result refl (headed_instruction _ c.in-Head.is c.in-Block.is c.in_ok-word.ensures) c.read_block_instruction.ensures

pub read_block_instruction-returns-in_err-block-in-Block : goal.read_block_instruction-returns-in_err-block-in-Block
read_block_instruction-returns-in_err-block-in-Block t c = behind_block_word _ _ c.from_residual.result c.args.head head.Block c.in-Block.is (handed (behind_head instruction_form (codes "block")) 1 _ _ c.from_residual.result _ c.from_residual.ensures.1 (row_fails refl c.in_err-block-in-Block.ensures))

pub read_block_instruction-returns-in_ok-block-in-Block : goal.read_block_instruction-returns-in_ok-block-in-Block
read_block_instruction-returns-in_ok-block-in-Block t c = gave_block c.args.head head.Block c.in-Block.is (row_gave refl c.in_ok-block-in-Block.ensures)

pub read_block_instruction-returns-in_err-block-in-Loop : goal.read_block_instruction-returns-in_err-block-in-Loop
read_block_instruction-returns-in_err-block-in-Loop t c = behind_block_word _ _ c.from_residual-in_err-block-in-Loop.result c.args.head head.Loop c.in-Loop.is (handed (behind_head instruction_form (codes "loop")) 1 _ _ c.from_residual-in_err-block-in-Loop.result _ c.from_residual-in_err-block-in-Loop.ensures.1 (row_fails refl c.in_err-block-in-Loop.ensures))

pub read_block_instruction-returns-in_ok-block-in-Loop : goal.read_block_instruction-returns-in_ok-block-in-Loop
read_block_instruction-returns-in_ok-block-in-Loop t c = gave_block c.args.head head.Loop c.in-Loop.is (row_gave refl c.in_ok-block-in-Loop.ensures)

pub read_block_instruction-returns-in_err-block-in-MemUnpack : goal.read_block_instruction-returns-in_err-block-in-MemUnpack
read_block_instruction-returns-in_err-block-in-MemUnpack t c = behind_block_word _ _ c.from_residual-in_err-block-in-MemUnpack.result c.args.head head.MemUnpack c.in-MemUnpack.is (handed (behind_head instruction_form (codes "mem.unpack")) 1 _ _ c.from_residual-in_err-block-in-MemUnpack.result _ c.from_residual-in_err-block-in-MemUnpack.ensures.1 (row_fails refl c.in_err-block-in-MemUnpack.ensures))

pub read_block_instruction-returns-in_ok-block-in-MemUnpack : goal.read_block_instruction-returns-in_ok-block-in-MemUnpack
read_block_instruction-returns-in_ok-block-in-MemUnpack t c = gave_block c.args.head head.MemUnpack c.in-MemUnpack.is (row_gave refl c.in_ok-block-in-MemUnpack.ensures)

pub read_block_instruction-returns-in_err-block-in-ExistUnpack : goal.read_block_instruction-returns-in_err-block-in-ExistUnpack
read_block_instruction-returns-in_err-block-in-ExistUnpack t c = behind_block_word _ _ c.from_residual-in_err-block-in-ExistUnpack.result c.args.head head.ExistUnpack c.in-ExistUnpack.is (handed (behind_head instruction_form (codes "exist.unpack")) 1 _ _ c.from_residual-in_err-block-in-ExistUnpack.result _ c.from_residual-in_err-block-in-ExistUnpack.ensures.1 (row_fails refl c.in_err-block-in-ExistUnpack.ensures))

pub read_block_instruction-returns-in_ok-block-in-ExistUnpack : goal.read_block_instruction-returns-in_ok-block-in-ExistUnpack
read_block_instruction-returns-in_ok-block-in-ExistUnpack t c = gave_block c.args.head head.ExistUnpack c.in-ExistUnpack.is (row_gave refl c.in_ok-block-in-ExistUnpack.ensures)

pub read_block_instruction-returns-in-If : goal.read_block_instruction-returns-in-If
read_block_instruction-returns-in-If t c = behind_block_word _ _ c.read_if.result c.args.head head.If c.in-If.is c.read_if.ensures

pub read_block_instruction-returns-in-VariantCase : goal.read_block_instruction-returns-in-VariantCase
read_block_instruction-returns-in-VariantCase t c = behind_block_word _ _ c.read_case.result c.args.head head.VariantCase c.in-VariantCase.is c.read_case.ensures

pub read_block-returns-in_err-signature : goal.read_block-returns-in_err-signature
read_block-returns-in_err-signature t c = handed_on _ (the_fields block_fields) _ c.from_residual.result _ c.from_residual.ensures.1 (c.in_err-signature.ensures _)

pub read_block-returns-in_err-body : goal.read_block-returns-in_err-body
read_block-returns-in_err-body t c = handed_on _ (the_fields block_fields) _ c.from_residual-in_err-body.result _ c.from_residual-in_err-body.ensures.1 (behind_signature_fails c.in_ok-signature.ensures c.in_err-body.ensures)

pub read_block-returns : goal.read_block-returns
read_block-returns t c = signature_gave c.in_ok-signature.ensures c.in_ok-body.ensures

pub read_if-returns-in_err-signature : goal.read_if-returns-in_err-signature
read_if-returns-in_err-signature t c = handed (behind_head instruction_form (codes "if")) 1 _ _ c.from_residual.result _ c.from_residual.ensures.1 (row_fails refl (c.in_err-signature.ensures _))

pub read_if-returns-in_err-branches : goal.read_if-returns-in_err-branches
read_if-returns-in_err-branches t c = handed (behind_head instruction_form (codes "if")) 1 _ _ c.from_residual-in_err-branches.result _ c.from_residual-in_err-branches.ensures.1 (row_fails refl (behind_signature_fails c.in_ok-signature.ensures c.in_err-branches.ensures))

pub read_if-returns : goal.read_if-returns
read_if-returns t c = row_gave refl (signature_gave c.in_ok-signature.ensures c.in_ok-branches.ensures)

pub read_branches-returns-in_err-taken : goal.read_branches-returns-in_err-taken
read_branches-returns-in_err-taken t c = handed_on _ (the_fields branch_fields) _ c.from_residual.result _ c.from_residual.ensures.1 (first_fails c.in_err-taken.ensures)

pub read_branches-returns-in_err-otherwise : goal.read_branches-returns-in_err-otherwise
read_branches-returns-in_err-otherwise t c = handed_on _ (the_fields branch_fields) _ c.from_residual-in_err-otherwise.result _ c.from_residual-in_err-otherwise.ensures.1 (later_fails c.in_ok-taken.ensures (first_fails c.in_err-otherwise.ensures))

pub read_branches-returns-in_err-close : goal.read_branches-returns-in_err-close
read_branches-returns-in_err-close t c = handed_on _ (the_fields branch_fields) _ c.from_residual-in_err-close.result _ c.from_residual-in_err-close.ensures.1 (later_fails c.in_ok-taken.ensures (later_fails c.in_ok-otherwise.ensures c.in_err-close.ensures))

pub read_branches-returns : goal.read_branches-returns
read_branches-returns t c = one_gave c.in_ok-taken.ensures (one_gave c.in_ok-otherwise.ensures c.in_ok-close.ensures)

pub read_then-returns-in_err-start_then : goal.read_then-returns-in_err-start_then
read_then-returns-in_err-start_then t c = handed (a_part (a_form then_form)) 0 _ _ c.from_residual.result _ c.from_residual.ensures.1 c.in_err-start_then.ensures

pub read_then-returns-in_err-instructions : goal.read_then-returns-in_err-instructions
read_then-returns-in_err-instructions t c = handed (a_part (a_form then_form)) 0 _ _ c.from_residual-in_err-instructions.result _ c.from_residual-in_err-instructions.ensures.1 (form_fails then_form c.in_ok-start_then.ensures refl refl c.in_err-instructions.ensures)

pub read_then-returns : goal.read_then-returns
read_then-returns t c = form_gave then_form c.in_ok-start_then.ensures refl refl c.in_ok-instructions.ensures

pub read_else-returns-in_err-start_else : goal.read_else-returns-in_err-start_else
read_else-returns-in_err-start_else t c = handed (a_part (a_form else_form)) 0 _ _ c.from_residual.result _ c.from_residual.ensures.1 c.in_err-start_else.ensures

pub read_else-returns-in_err-instructions : goal.read_else-returns-in_err-instructions
read_else-returns-in_err-instructions t c = handed (a_part (a_form else_form)) 0 _ _ c.from_residual-in_err-instructions.result _ c.from_residual-in_err-instructions.ensures.1 (form_fails else_form c.in_ok-start_else.ensures refl refl c.in_err-instructions.ensures)

pub read_else-returns : goal.read_else-returns
read_else-returns t c = form_gave else_form c.in_ok-start_else.ensures refl refl c.in_ok-instructions.ensures

pub read_case-returns-in_err-signature : goal.read_case-returns-in_err-signature
read_case-returns-in_err-signature t c = handed (behind_head instruction_form (codes "variant.case")) 1 _ _ c.from_residual.result _ c.from_residual.ensures.1 (row_fails refl (c.in_err-signature.ensures _))

pub read_case-returns-in_err-arms : goal.read_case-returns-in_err-arms
read_case-returns-in_err-arms t c = handed (behind_head instruction_form (codes "variant.case")) 1 _ _ c.from_residual-in_err-arms.result _ c.from_residual-in_err-arms.ensures.1 (row_fails refl (behind_signature_fails c.in_ok-signature.ensures c.in_err-arms.ensures))

pub read_case-returns : goal.read_case-returns
read_case-returns t c = row_gave refl (signature_gave c.in_ok-signature.ensures c.in_ok-arms.ensures)

pub read_arms-returns-in_err-read_arm : goal.read_arms-returns-in_err-read_arm
read_arms-returns-in_err-read_arm t c = handed (the_fields (many (a_form arm_form))) 1 _ _ c.from_residual.result _ c.from_residual.ensures.1 (going_fails {k = (a_form arm_form)} c.loop-arms.invariant c.loop-arms-test.ensures c.in_err-read_arm.ensures)

pub read_arms-loop-arms-preserved : goal.read_arms-loop-arms-preserved
read_arms-loop-arms-preserved t c =
    let P : List (List Instr) → Type 0 = λ xs. Going (a_form arm_form) c.args.parser.now c.read_arm.new.parser xs in
    subst P (sym c.in_ok-push.ensures.ok) (going_more {k = (a_form arm_form)} c.loop-arms.invariant c.loop-arms-test.ensures c.in_ok-read_arm.ensures)

pub read_arm-returns-in_err-open : goal.read_arm-returns-in_err-open
read_arm-returns-in_err-open t c = handed (a_part (a_form arm_form)) 0 _ _ c.from_residual.result _ c.from_residual.ensures.1 (opening_fails (λ w. refl) c.in_err-open.ensures)

pub read_arm-returns-in_err-instructions : goal.read_arm-returns-in_err-instructions
read_arm-returns-in_err-instructions t c = handed (a_part (a_form arm_form)) 0 _ _ c.from_residual-in_err-instructions.result _ c.from_residual-in_err-instructions.ensures.1 (plain_fails refl refl c.in_ok-open.ensures c.in_err-instructions.ensures)

pub read_arm-returns : goal.read_arm-returns
read_arm-returns t c = plain_gave refl refl c.in_ok-open.ensures c.in_ok-instructions.ensures
