use Rattle.std.proofs.Common.{◌∙◌, ◌++◌, ℕ, List, ap}
use Rattle.std.specs.Prelude.{codes, map}
use Rattle.rw_types.specs.declared.instrs.Instr.{Instr}
use Rattle.rich_writing.specs.Pieces.{mutability_text, spaced}
use Rattle.rich_writing.specs.Types.{type_text}
use Rattle.rich_writing.specs.Instructions.{instruction_text}
use Rattle.rw_plain_texts.proofs.Appended.{both, form_of_many}
use Rattle.rw_write.proofs.fields.GlobalDefField.push_to.Goals as goal

pub returns : goal.returns
returns c =
    let held = type_text c.args.self.now.ty in
    let body = spaced (map instruction_text c.args.self.now.body) in
    form_of_many _ _ _ _ _ (codes "(global ") (mutability_text c.args.self.now.mutable) (codes " " ++ (held ++ body)) (codes ")") c.in_ok-extend_from_slice.ensures.items
    (c.in_ok-extend_from_slice-2.ensures.items ∙ ap (λ (z : List ℕ). c.extend_from_slice.new.self.items ++ z) c.mutability_word.ensures)
    (both _ _ _ (codes " ") (held ++ body) c.in_ok-push.ensures.items
    (both _ _ _ held body c.in_ok-push_type.ensures (c.in_ok-push_instructions.ensures ∙ ap (λ (z : List Instr). c.push_type.new.out.items ++ spaced (map instruction_text z)) c.as_slice.ensures.items)))
    c.in_ok-push-2.ensures.items
