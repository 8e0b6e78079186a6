use Rattle.rw_read.proofs.Wholes.{behind_fails, handed_whole, module_fails, whole_read}
use Rattle.rw_read.proofs.reader.read_whole.Goals as goal

pub returns-in_err-module : goal.returns-in_err-module
returns-in_err-module c = handed_whole _ c.from_residual.result _ c.from_residual.ensures.1 (module_fails c.requires c.in_err-module.ensures)

pub returns-in_err-read_end : goal.returns-in_err-read_end
returns-in_err-read_end c = handed_whole _ c.from_residual-in_err-read_end.result _ c.from_residual-in_err-read_end.ensures.1 (behind_fails c.requires c.in_ok-module.ensures c.in_err-read_end.ensures)

pub returns : goal.returns
returns c = whole_read c.requires c.in_ok-module.ensures c.in_ok-read_end.ensures
