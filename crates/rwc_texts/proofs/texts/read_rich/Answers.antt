use Rattle.std.proofs.Common.{refl}
use Rattle.rwc_reports.specs.Sources.{spelled}
use Rattle.rwc_texts.proofs.texts.read_rich.Goals as goal

pub returns-in-Ok : goal.returns-in-Ok
returns-in-Ok c = spelled c.in-Ok.«module» refl c.in-Ok.ensures.spelled refl

pub returns-in-Err : goal.returns-in-Err
returns-in-Err c = c.refuse.ensures c.args.bytes.now c.in-Err.ensures.fault
