use Rattle.std.proofs.Common.{refl}
use Rattle.std.specs.Prelude.{codes}
use Rattle.rich_text.specs.Forms.{instruction_form}
use Rattle.rw_parser.proofs.Composing.{first_fails, later_fails, one_gave, row_fails, row_gave}
use Rattle.rw_parser.proofs.Firsts.{handed}
use Rattle.rw_parser.specs.Reads.{behind_head}
use Rattle.rw_plain_forms.proofs.plain.read_variant_allocation.Goals as goal

pub returns-in_err-memory : goal.returns-in_err-memory
returns-in_err-memory c = handed (behind_head instruction_form (codes "variant.malloc")) 1 _ _ c.from_residual.result _ c.from_residual.ensures.1 (row_fails refl (first_fails c.in_err-memory.ensures))

pub returns-in_err-case : goal.returns-in_err-case
returns-in_err-case c = handed (behind_head instruction_form (codes "variant.malloc")) 1 _ _ c.from_residual-in_err-case.result _ c.from_residual-in_err-case.ensures.1 (row_fails refl (later_fails c.in_ok-memory.ensures (first_fails c.in_err-case.ensures)))

pub returns-in_err-types : goal.returns-in_err-types
returns-in_err-types c = handed (behind_head instruction_form (codes "variant.malloc")) 1 _ _ c.from_residual-in_err-types.result _ c.from_residual-in_err-types.ensures.1 (row_fails refl (later_fails c.in_ok-memory.ensures (later_fails c.in_ok-case.ensures c.in_err-types.ensures)))

pub returns : goal.returns
returns c = row_gave refl (one_gave c.in_ok-memory.ensures (one_gave c.in_ok-case.ensures c.in_ok-types.ensures))
