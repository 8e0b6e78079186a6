use Rattle.std.proofs.Common.{List, subst, sym}
use Rattle.rw_types.specs.declared.instrs.LocalTy.{LocalTy}
use Rattle.rich_text.specs.Forms.{local_form}
use Rattle.rich_text.specs.Grammars.{a_form, many}
use Rattle.rw_parser.proofs.Firsts.{handed}
use Rattle.rw_parser.proofs.Looping.{Going, going_fails, going_more}
use Rattle.rw_parser.specs.Reads.{the_fields}
use Rattle.rw_plain_forms.proofs.signatures.read_locals.Goals as goal

pub returns-in_err-read_local : goal.returns-in_err-read_local
returns-in_err-read_local c = handed (the_fields (many (a_form local_form))) 1 _ _ c.from_residual.result _ c.from_residual.ensures.1 (going_fails {k = (a_form local_form)} c.loop-locals.invariant c.loop-locals-test.ensures c.in_err-read_local.ensures)

pub loop-locals-preserved : goal.loop-locals-preserved
loop-locals-preserved c =
    let P : List LocalTy → Type 0 = λ xs. Going (a_form local_form) c.args.parser.now c.read_local.new.parser xs in
    subst P (sym c.in_ok-push.ensures.ok) (going_more {k = (a_form local_form)} c.loop-locals.invariant c.loop-locals-test.ensures c.in_ok-read_local.ensures)
