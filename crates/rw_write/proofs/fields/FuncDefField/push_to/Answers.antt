use Rattle.std.proofs.Common.{◌∙◌, ◌++◌, ◌∷◌, ℕ, List, ap}
use Rattle.std.specs.Prelude.{codes, decimal, map}
use Rattle.rw_types.specs.declared.instrs.Instr.{Instr}
use Rattle.rich_writing.specs.Pieces.{in_parentheses, spaced}
use Rattle.rich_writing.specs.Types.{function_type_text}
use Rattle.rich_writing.specs.Instructions.{instruction_text}
use Rattle.rw_plain_texts.proofs.Appended.{both, form_of_many}
use Rattle.rw_write.proofs.fields.FuncDefField.push_to.Goals as goal

pub returns : goal.returns
returns c =
    let locals = codes " " ++ in_parentheses (codes "locals" ∷ map decimal c.args.self.now.locals) in
    let body = spaced (map instruction_text c.args.self.now.body) in
    form_of_many _ _ _ _ _ (codes "(func ") (function_type_text c.args.self.now.ty) (locals ++ body) (codes ")") c.in_ok-extend_from_slice.ensures.items c.in_ok-push_function_type.ensures
    (both _ _ _ locals body
    (c.in_ok-push_locals.ensures ∙ ap (λ (z : List ℕ). c.push_function_type.new.out.items ++ (codes " " ++ in_parentheses (codes "locals" ∷ map decimal z))) c.as_slice.ensures.items)
    (c.in_ok-push_instructions.ensures ∙ ap (λ (z : List Instr). c.push_locals.new.out.items ++ spaced (map instruction_text z)) c.as_slice-2.ensures.items))
    c.in_ok-push.ensures.items
