use Rattle.std.proofs.Common.{ℕ, List, refl, sym, subst}
use Rattle.std.specs.Prelude.{codes}
use Rattle.rich_text.specs.Forms.{locals_form}
use Rattle.rich_text.specs.Numbers.{Index}
use Rattle.rich_text.specs.Grammars.{a_number}
use Rattle.rw_parser.specs.Reads.{behind_head}
use Rattle.rw_parser.proofs.Composing.{row_fails, row_gave}
use Rattle.rw_parser.proofs.Firsts.{handed}
use Rattle.rw_parser.proofs.Looping.{Going, going_done, going_fails, going_more}
use Rattle.rw_field_forms.proofs.fields.read_sizes.Goals as goal

pub returns-in_err-index : goal.returns-in_err-index
returns-in_err-index c =
    handed (behind_head locals_form (codes "locals")) 1 _ _ c.from_residual.result _ c.from_residual.ensures.1
    (row_fails refl (going_fails {k = a_number Index} c.loop-sizes.invariant c.loop-sizes-test.ensures c.in_err-index.ensures))

pub loop-sizes-preserved : goal.loop-sizes-preserved
loop-sizes-preserved c =
    let P : List ℕ → Type 0 = λ xs. Going (a_number Index) c.args.parser.now c.index.new.self xs in
    subst P (sym c.in_ok-push.ensures.ok) (going_more {k = a_number Index} c.loop-sizes.invariant c.loop-sizes-test.ensures c.in_ok-index.ensures)

pub returns : goal.returns
returns c = row_gave refl (going_done {k = a_number Index} c.loop-sizes.invariant c.loop-sizes-test.ensures c.requires)
