-- Each answer of a load, as a step.
use Rattle.std.proofs.Common.{refl, inl}
use Rattle.rwc_acts.proofs.Loading.{load_refused, load_failed}
use Rattle.rwc_reports.specs.Sources.{loaded, missing, too_long}
use Rattle.rwc_acts.proofs.load.load_file.Goals as goal

pub returns-in-Ok-clause-loads : goal.returns-in-Ok-clause-loads
returns-in-Ok-clause-loads g c = record {
  leads = λ told e. loaded c.in-Ok.bytes.items (c.in-Ok.ensures.told told e) c.in-Ok.ensures.within refl;
  cause = tt;
  same = c.load.ensures.same;
  counts = c.load.ensures.counts;
}

pub returns-in-Err-Missing-clause-loads : goal.returns-in-Err-Missing-clause-loads
returns-in-Err-Missing-clause-loads g c =
    let found = rw c.in-Err-Missing.field-0-is at c.in-Err-Missing.ensures.told in
    load_refused _ _ _ _ _ _ c.load.ensures.same c.load.ensures.counts 3 c.missing.result c.refused.result _ c.refused.ensures c.missing.ensures (inl refl) (λ told e. missing (found told e) refl)

pub returns-in-Err-TooLong-clause-loads : goal.returns-in-Err-TooLong-clause-loads
returns-in-Err-TooLong-clause-loads g c =
    let found = rw c.in-Err-TooLong.field-0-is at c.in-Err-TooLong.ensures.told in
    load_refused _ _ _ _ _ _ c.load.ensures.same c.load.ensures.counts 3 c.too_long.result c.refused-in-Err-TooLong.result _ c.refused-in-Err-TooLong.ensures c.too_long.ensures (inl refl)
    (λ told e. let f = found told e in too_long f.0 f.1 f.2 refl)

pub returns-in-Err-Failed-clause-loads : goal.returns-in-Err-Failed-clause-loads
returns-in-Err-Failed-clause-loads g c =
    let failed = rw c.in-Err-Failed.field-0-is at c.in-Err-Failed.ensures.failed in
    load_failed _ _ _ _ _ _ c.load.ensures.same c.load.ensures.counts c.read_fault.result c.unread.result c.unread.ensures c.read_fault.ensures (failed refl)
