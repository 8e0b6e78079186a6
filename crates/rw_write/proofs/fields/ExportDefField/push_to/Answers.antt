use Rattle.std.proofs.Common.{[], ◌++◌}
use Rattle.std.specs.Prelude.{codes, decimal}
use Rattle.rich_writing.specs.Pieces.{quoted}
use Rattle.rw_plain_texts.proofs.Appended.{both, form_of_many}
use Rattle.rw_write.proofs.Forms.{last}
use Rattle.rw_write.proofs.fields.ExportDefField.push_to.Goals as goal

pub returns : goal.returns
returns c =
    let number = decimal c.args.self.now.func in
    form_of_many _ _ _ _ _ (codes "(export ") (quoted c.args.self.now.name) (codes " " ++ (number ++ [])) (codes ")") c.in_ok-extend_from_slice.ensures.items c.in_ok-push_name.ensures
    (both _ _ _ (codes " ") (number ++ []) c.in_ok-push.ensures.items (last _ _ number c.in_ok-push_number.ensures))
    c.in_ok-push-2.ensures.items
