use Rattle.std.proofs.Common.{refl}
use Rattle.std.specs.Prelude.{codes}
use Rattle.rich_text.specs.Forms.{module_form}
use Rattle.rw_parser.specs.Reads.{behind_head}
use Rattle.rw_parser.proofs.Composing.{first_fails, later_fails, one_gave, row_fails, row_gave}
use Rattle.rw_parser.proofs.Firsts.{handed}
use Rattle.rw_read.proofs.modules.read_version_and_fields.Goals as goal

pub returns-in_err-read_version : goal.returns-in_err-read_version
returns-in_err-read_version c = handed (behind_head module_form (codes "module")) 1 _ _ c.from_residual.result _ c.from_residual.ensures.1 (row_fails refl (first_fails c.in_err-read_version.ensures))

pub returns-in_err-module : goal.returns-in_err-module
returns-in_err-module c =
    handed (behind_head module_form (codes "module")) 1 _ _ c.from_residual-in_err-module.result _ c.from_residual-in_err-module.ensures.1 (row_fails refl (later_fails c.in_ok-read_version.ensures c.in_err-module.ensures))

pub returns : goal.returns
returns c = row_gave refl (one_gave c.in_ok-read_version.ensures c.in_ok-module.ensures)
