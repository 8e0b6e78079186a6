use Rattle.std.proofs.Common.{◌≡◌, refl, sym, subst}
use Rattle.words.specs.declared.SourceKind.{SourceKind}
use Rattle.words.specs.declared.SourceKind.TheVariants.{Rich}
use Rattle.rwc_acts.specs.Stops.{IsStep}
use Rattle.rwc_reports.specs.Sources.{TextReads}
use Rattle.rwc_texts.proofs.texts.read_source.Goals as goal

only_rich : (kind : SourceKind) → kind ≡ Rich
only_rich Rich = refl

pub returns : goal.returns
returns c =
    subst (λ (kind : SourceKind). IsStep (λ m. m) (TextReads kind c.args.source.now.file.now c.args.bytes.now) c.read_rich.result) (sym (only_rich c.args.source.now.kind)) c.read_rich.ensures
