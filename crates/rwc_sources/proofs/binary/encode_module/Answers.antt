use Rattle.std.proofs.Common.{List, ℕ, ap, Ok, refl}
use Rattle.std.specs.declared.result.Result.{Result}
use Rattle.rwc_reports.specs.Binaries.{ModuleEncodes, encoded, too_long}
use Rattle.rwc_reports.specs.Lines.{too_many_section_line}
use Rattle.rwc_reports.specs.Steps.{Refused}
use Rattle.rwc_acts.specs.Stops.{bytes_of}
use Rattle.rwc_acts.proofs.Loading.{refused_step}
use Rattle.rwc_sources.proofs.binary.encode_module.Goals as goal

pub returns-in-Ok-clause-encodes : goal.returns-in-Ok-clause-encodes
returns-in-Ok-clause-encodes c = encoded c.in-Ok.ensures.fits (ap (λ (b : List ℕ). let r : Result (List ℕ) Refused = Ok b in r) c.in-Ok.ensures.bytes)

pub returns-in-Err-TooLong-clause-encodes : goal.returns-in-Err-TooLong-clause-encodes
returns-in-Err-TooLong-clause-encodes c =
    let id = c.in-Err-TooLong.section in
    let told = rw c.in-Err-TooLong.field-0-is at c.in-Err-TooLong.ensures.long in
    refused_step bytes_of (ModuleEncodes c.args.lowered.now) 11 c.too_many_section.result c.refused.result (too_many_section_line id) c.refused.ensures c.too_many_section.ensures
    (too_long id (told id refl) refl)
