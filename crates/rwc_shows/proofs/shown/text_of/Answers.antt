use Rattle.words.specs.Commands.{spelled_source}
use Rattle.rwc_shows.proofs.Showing.{text_shows, stop_shows}
use Rattle.rwc_shows.proofs.shown.text_of.Goals as goal

pub returns-in-Ok-write : goal.returns-in-Ok-write
returns-in-Ok-write c = text_shows (spelled_source c.args.source.now) c.args.bytes.now c.in-Ok-write.text.items c.in-Ok.«module» c.in-Ok.ensures c.in-Ok-write.ensures

pub returns : goal.returns
returns c = stop_shows (spelled_source c.args.source.now) c.args.bytes.now c.in-Err.stop c.in-Err.ensures
