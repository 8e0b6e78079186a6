-- A block is its signature, what stands in it, and a `)`.
use Rattle.std.proofs.Common.{◌∙◌, ◌++◌, List, ap}
use Rattle.std.specs.Prelude.{codes, map}
use Rattle.rw_types.specs.declared.instrs.Instr.{Instr}
use Rattle.rich_writing.specs.Pieces.{in_parentheses, spaced}
use Rattle.rich_writing.specs.Types.{local_text, type_text}
use Rattle.rich_writing.specs.Instructions.{arm_text, instruction_text}
use Rattle.rich_writing.proofs.Instructions.{text-Block, text-Loop, text-MemUnpack, text-VariantCase, text-ExistUnpack}
use Rattle.rw_instruction_texts.proofs.Blocks.{block_written, if_written, written}
use Rattle.rw_instruction_texts.proofs.instructions.+texts.Goals as goal

pub push_block-returns : goal.push_block-returns
push_block-returns t c =
    let params = in_parentheses (map type_text c.args.sig.now.params) in
    let results = in_parentheses (map type_text c.args.sig.now.results) in
    let locals = in_parentheses (map local_text c.args.sig.now.locals) in
    block_written _ _ _ _ c.args.word.now params results locals (map instruction_text c.args.body.now) c.in_ok-push_signature.ensures
    (c.in_ok-push_from.ensures ∙ ap (λ (z : List Instr). c.push_signature.new.out.items ++ spaced (map instruction_text z)) c.as_slice.ensures.items) c.in_ok-push.ensures.items

pub push_case-returns : goal.push_case-returns
push_case-returns t c =
    let params = in_parentheses (map type_text c.args.sig.now.params) in
    let results = in_parentheses (map type_text c.args.sig.now.results) in
    let locals = in_parentheses (map local_text c.args.sig.now.locals) in
    block_written _ _ _ _ (codes "variant.case") params results locals (map arm_text c.args.arms.now) c.in_ok-push_signature.ensures
    (c.in_ok-push_arms.ensures ∙ ap (λ (z : List (List Instr)). c.push_signature.new.out.items ++ spaced (map arm_text z)) c.as_slice.ensures.items) c.in_ok-push.ensures.items

pub push_instruction-returns-in-Block : goal.push_instruction-returns-in-Block
push_instruction-returns-in-Block t c = written _ _ _ _ _ _ c.in-Block.is (text-Block _ _) c.push_block.ensures

pub push_instruction-returns-in-Loop : goal.push_instruction-returns-in-Loop
push_instruction-returns-in-Loop t c = written _ _ _ _ _ _ c.in-Loop.is (text-Loop _ _) c.push_block-in-Loop.ensures

pub push_instruction-returns-in-MemUnpack : goal.push_instruction-returns-in-MemUnpack
push_instruction-returns-in-MemUnpack t c = written _ _ _ _ _ _ c.in-MemUnpack.is (text-MemUnpack _ _) c.push_block-in-MemUnpack.ensures

pub push_instruction-returns-in-VariantCase : goal.push_instruction-returns-in-VariantCase
push_instruction-returns-in-VariantCase t c = written _ _ _ _ _ _ c.in-VariantCase.is (text-VariantCase _ _) c.push_case.ensures

pub push_instruction-returns-in-ExistUnpack : goal.push_instruction-returns-in-ExistUnpack
push_instruction-returns-in-ExistUnpack t c = written _ _ _ _ _ _ c.in-ExistUnpack.is (text-ExistUnpack _ _) c.push_block-in-ExistUnpack.ensures

pub push_instruction-returns-in_ok-push_then-in-If : goal.push_instruction-returns-in_ok-push_then-in-If
push_instruction-returns-in_ok-push_then-in-If t c = if_written _ _ _ _ _ _ _ _ c.in-If.is c.in_ok-push_then-in-If.ensures c.push_else.ensures
