use Rattle.std.proofs.Common.{List, subst, sym, ℕ}
use Rattle.rich_text.specs.Grammars.{index, many}
use Rattle.rw_parser.proofs.Firsts.{handed}
use Rattle.rw_parser.proofs.Looping.{Going, going_fails, going_more}
use Rattle.rw_parser.specs.Reads.{the_fields}
use Rattle.rw_plain_forms.proofs.immediates.read_indices.Goals as goal

pub returns-in_err-index : goal.returns-in_err-index
returns-in_err-index c = handed (the_fields (many index)) 1 _ _ c.from_residual.result _ c.from_residual.ensures.1 (going_fails {k = index} c.loop-indices.invariant c.loop-indices-test.ensures c.in_err-index.ensures)

pub loop-indices-preserved : goal.loop-indices-preserved
loop-indices-preserved c =
    let P : List ℕ → Type 0 = λ xs. Going index c.args.parser.now c.index.new.self xs in
    subst P (sym c.in_ok-push.ensures.ok) (going_more {k = index} c.loop-indices.invariant c.loop-indices-test.ensures c.in_ok-index.ensures)
