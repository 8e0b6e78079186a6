-- The way of one source file to its job, from the steps that code makes one after another.
use Rattle.std.proofs.Common.{◌≡◌, ℕ, List, [], ◌∷◌, refl, Ok, Err, Some}
use Rattle.std.specs.declared.result.Result.{Result}
use Rattle.rw_types.specs.declared.modules.Module.{Module}
use Rattle.rw_program.specs.Modules.{TypedModule}
use Rattle.rw_program.specs.Programs.{Program}
use Rattle.rw_program.specs.Linking.{program_of}
use Rattle.lowering_table.specs.declared.Pages.{Pages}
use Rattle.rw_io.specs.Files.{NamedFile}
use Rattle.words.specs.Words.{Source}
use Rattle.rwc_reports.specs.Binaries.{ProgramLeads}
use Rattle.rwc_reports.specs.Reports.{BinaryLeads}
use Rattle.rwc_reports.specs.Sources.{FileLoads, TextReads, ModuleChecks, SourceChecks, linked, FilesLead}
use Rattle.rwc_reports.specs.Steps.{Refused, goes_on, stops}
use Rattle.rwc_reports.proofs.Steps.{one_value, one_refused}

module _ (told : List NamedFile) (source : Source) where
  checks_stop : (bytes : List ℕ) (refused : Refused) → FileLoads told source.file (Ok bytes) → SourceChecks (source, bytes) (Err refused) → FilesLead told (source ∷ []) (Err refused)
  checks_stop bytes refused load check = goes_on ((source, bytes) ∷ []) (one_value (λ (s : Source). FileLoads told s.file) source bytes load) (stops refused (one_refused SourceChecks (source, bytes) refused check) refl)

  leads : (bytes : List ℕ) (m : Module) (value : TypedModule) (program : Program) → FileLoads told source.file (Ok bytes) → TextReads source.kind source.file bytes (Ok m) → ModuleChecks source.file m (Ok value) → program_of value ≡ Some program → FilesLead told (source ∷ []) (Ok program)
  leads bytes m value program load text check links =
      goes_on ((source, bytes) ∷ []) (one_value (λ (s : Source). FileLoads told s.file) source bytes load)
      (goes_on (((source, bytes), value) ∷ []) (one_value SourceChecks (source, bytes) value (goes_on m text check)) (linked value program refl links refl))

  module _ (pages : Pages) where
    pub stopped_load : (refused : Refused) → FileLoads told source.file (Err refused) → BinaryLeads told (source ∷ []) pages (Err refused)
    stopped_load refused load = stops refused (stops refused (one_refused (λ (s : Source). FileLoads told s.file) source refused load) refl) refl

    pub stopped_text : (bytes : List ℕ) (refused : Refused) → FileLoads told source.file (Ok bytes) → TextReads source.kind source.file bytes (Err refused) → BinaryLeads told (source ∷ []) pages (Err refused)
    stopped_text bytes refused load text = stops refused (checks_stop bytes refused load (stops refused text refl)) refl

    pub stopped_check : (bytes : List ℕ) (m : Module) (refused : Refused) → FileLoads told source.file (Ok bytes) → TextReads source.kind source.file bytes (Ok m) → ModuleChecks source.file m (Err refused) → BinaryLeads told (source ∷ []) pages (Err refused)
    stopped_check bytes m refused load text check = stops refused (checks_stop bytes refused load (goes_on m text check)) refl

    pub goes_to : (bytes : List ℕ) (m : Module) (value : TypedModule) (program : Program) (r : Result (List ℕ) Refused) → FileLoads told source.file (Ok bytes) → TextReads source.kind source.file bytes (Ok m) → ModuleChecks source.file m (Ok value) →
        program_of value ≡ Some program → ProgramLeads pages program r → BinaryLeads told (source ∷ []) pages r
    goes_to bytes m value program r load text check links is = goes_on program (leads bytes m value program load text check links) is
