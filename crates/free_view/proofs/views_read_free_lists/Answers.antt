use Rattle.free_view.proofs.Reading.{views_are, readable_is_viewed}
use Rattle.free_view.proofs.views_read_free_lists.Goals as goal

pub returns-clause-same : goal.returns-clause-same
returns-clause-same c = views_are

pub returns-clause-readable : goal.returns-clause-readable
returns-clause-readable c = readable_is_viewed
