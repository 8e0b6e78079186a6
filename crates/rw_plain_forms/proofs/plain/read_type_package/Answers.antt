use Rattle.std.proofs.Common.{refl}
use Rattle.std.specs.Prelude.{codes}
use Rattle.rich_text.specs.Forms.{instruction_form}
use Rattle.rw_parser.proofs.Composing.{first_fails, later_fails, one_gave, row_fails, row_gave}
use Rattle.rw_parser.proofs.Firsts.{handed}
use Rattle.rw_parser.specs.Reads.{behind_head}
use Rattle.rw_plain_forms.proofs.plain.read_type_package.Goals as goal

pub returns-in_err-memory : goal.returns-in_err-memory
returns-in_err-memory c = handed (behind_head instruction_form (codes "exist.pack")) 1 _ _ c.from_residual.result _ c.from_residual.ensures.1 (row_fails refl (first_fails c.in_err-memory.ensures))

pub returns-in_err-qualifier : goal.returns-in_err-qualifier
returns-in_err-qualifier c = handed (behind_head instruction_form (codes "exist.pack")) 1 _ _ c.from_residual-in_err-qualifier.result _ c.from_residual-in_err-qualifier.ensures.1 (row_fails refl (later_fails c.in_ok-memory.ensures (first_fails c.in_err-qualifier.ensures)))

pub returns-in_err-size : goal.returns-in_err-size
returns-in_err-size c = handed (behind_head instruction_form (codes "exist.pack")) 1 _ _ c.from_residual-in_err-size.result _ c.from_residual-in_err-size.ensures.1 (row_fails refl (later_fails c.in_ok-memory.ensures (later_fails c.in_ok-qualifier.ensures (first_fails c.in_err-size.ensures))))

pub returns-in_err-hidden : goal.returns-in_err-hidden
returns-in_err-hidden c = handed (behind_head instruction_form (codes "exist.pack")) 1 _ _ c.from_residual-in_err-hidden.result _ c.from_residual-in_err-hidden.ensures.1 (row_fails refl (later_fails c.in_ok-memory.ensures (later_fails c.in_ok-qualifier.ensures (later_fails c.in_ok-size.ensures (first_fails c.in_err-hidden.ensures)))))

pub returns-in_err-body : goal.returns-in_err-body
returns-in_err-body c = handed (behind_head instruction_form (codes "exist.pack")) 1 _ _ c.from_residual-in_err-body.result _ c.from_residual-in_err-body.ensures.1 (row_fails refl (later_fails c.in_ok-memory.ensures (later_fails c.in_ok-qualifier.ensures (later_fails c.in_ok-size.ensures (later_fails c.in_ok-hidden.ensures (first_fails c.in_err-body.ensures))))))

pub returns-in_err-close : goal.returns-in_err-close
returns-in_err-close c = handed (behind_head instruction_form (codes "exist.pack")) 1 _ _ c.from_residual-in_err-close.result _ c.from_residual-in_err-close.ensures.1 (row_fails refl (later_fails c.in_ok-memory.ensures (later_fails c.in_ok-qualifier.ensures (later_fails c.in_ok-size.ensures (later_fails c.in_ok-hidden.ensures (later_fails c.in_ok-body.ensures c.in_err-close.ensures))))))

pub returns : goal.returns
returns c = row_gave refl (one_gave c.in_ok-memory.ensures (one_gave c.in_ok-qualifier.ensures (one_gave c.in_ok-size.ensures (one_gave c.in_ok-hidden.ensures (one_gave c.in_ok-body.ensures c.in_ok-close.ensures)))))
