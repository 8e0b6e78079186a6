-- The function and the notes that were taken off are all that there are.
use Rattle.std.proofs.Common.{◌≡◌, ◌∙◌, ap, sym, ◌++◌, ◌∷◌, [], codes, Some}
use Rattle.rw_types.specs.declared.modules.Module.{Module}
use Rattle.rw_program.specs.Linking.{exported}
use Rattle.rw_link.proofs.LoneFiles.{file_program}
use Rattle.rw_link.proofs.program.link_file.Goals as goal

pub returns : goal.returns
returns c =
    let funcs : c.args.file.source.funcs ≡ c.pop.new.self ++ c.in-Some-Some-Some.func ∷ [] = ap (λ (m : Module). m.funcs) (sym c.into_parts-source.ensures.source) ∙ c.in-Some-Some-Some.ensures in
    let notes : c.args.file.notes ≡ c.pop-2.new.self ++ c.in-Some-Some-Some.notes ∷ [] = sym c.into_parts-source.ensures.notes ∙ c.in-Some-Some-Some.ensures' in
    let exports = ap (λ (m : Module). m.exports) (sym c.into_parts-source.ensures.source) ∙ sym c.as_slice.ensures.items in
    let main : exported (codes "main") c.args.file.source.exports ≡ Some c.in-Some-Some-Some.main = ap (exported (codes "main")) exports ∙ sym c.in_ok-main.ensures ∙ c.in-Some-Some-Some.is-2 in
    rw (c.new-2.ensures, c.in_ok-push.ensures.ok, c.new-linked.ensures, c.new.ensures) (file_program c.args.file c.pop.new.self c.in-Some-Some-Some.func c.pop-2.new.self c.in-Some-Some-Some.notes c.in-Some-Some-Some.main c.into_parts-source.ensures.typed funcs notes main)
