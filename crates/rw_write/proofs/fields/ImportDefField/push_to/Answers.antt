use Rattle.std.proofs.Common.{[], ◌++◌}
use Rattle.std.specs.Prelude.{codes}
use Rattle.rich_writing.specs.Pieces.{quoted}
use Rattle.rich_writing.specs.Types.{function_type_text}
use Rattle.rw_plain_texts.proofs.Appended.{both, form_of_many}
use Rattle.rw_write.proofs.Forms.{last}
use Rattle.rw_write.proofs.fields.ImportDefField.push_to.Goals as goal

pub returns : goal.returns
returns c =
    let name = quoted c.args.self.now.name in
    let signature = function_type_text c.args.self.now.ty in
    form_of_many _ _ _ _ _ (codes "(import ") (quoted c.args.self.now.«module») (codes " " ++ (name ++ (codes " " ++ (signature ++ [])))) (codes ")") c.in_ok-extend_from_slice.ensures.items c.in_ok-push_name.ensures
    (both _ _ _ (codes " ") (name ++ (codes " " ++ (signature ++ []))) c.in_ok-push.ensures.items
    (both _ _ _ name (codes " " ++ (signature ++ [])) c.in_ok-push_name-2.ensures
    (both _ _ _ (codes " ") (signature ++ []) c.in_ok-push-2.ensures.items (last _ _ signature c.in_ok-push_function_type.ensures))))
    c.in_ok-push-3.ensures.items
