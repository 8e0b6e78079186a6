use Rattle.free_view.proofs.Rows.{worked_views}
use Rattle.free_view.proofs.worked_views.Goals as goal

pub returns : goal.returns
returns c = worked_views
