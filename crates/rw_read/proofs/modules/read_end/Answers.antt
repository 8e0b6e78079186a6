use Rattle.std.proofs.Common.{◌∙◌, sym}
use Rattle.rw_read.proofs.Wholes.{ends_here, ends_not}
use Rattle.rw_read.proofs.modules.read_end.Goals as goal

pub returns-then-is_end : goal.returns-then-is_end
returns-then-is_end c = ends_here c.in-Err.error c.in-Err.ensures (sym c.is_end.ensures ∙ c.if-is_end.true)

pub returns-else-is_end : goal.returns-else-is_end
returns-else-is_end c = ends_not c.in-Err.error c.in-Err.ensures (sym c.is_end.ensures ∙ c.if-is_end.false)
