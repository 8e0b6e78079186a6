-- What the files lead to: all are loaded, in order; then each is read and checked, in order; then they are linked; this
-- project's own. A further language is a case more of `TextReads`.
use Rattle.std.specs.Prelude.{◌≡◌, ℕ, ◌<◌, ◌≤◌, List, [], ◌∷◌, length, map, codes, ⊤}
use Rattle.std.specs.declared.option.Option.TheVariants.{None, Some}
use Rattle.std.specs.declared.result.Result.{Result}
use Rattle.std.specs.declared.result.Result.TheVariants.{Ok, Err}
use Rattle.rw_types.specs.declared.modules.Module.{Module}
use Rattle.rich_text.specs.Texts.{Spells, Found}
use Rattle.rich_text.specs.Tokens.{Fault, BadUtf8, BadToken, TooDeep, NumberOut, BadForm, Unended}
use Rattle.rich_text_laws.specs.Laws.{HasFirstFault}
use Rattle.rich_typing.specs.declared.notes.Note.{Note}
use Rattle.rich_typing.specs.Derivations.{IsTyped}
use Rattle.rich_typing.specs.Violations.{Violation, FirstViolation}
use Rattle.rw_program.specs.Modules.{TypedModule}
use Rattle.rw_program.specs.Programs.{Program}
use Rattle.rw_program.specs.Linking.{program_of}
use Rattle.rw_io.specs.Files.{NamedFile, content_of}
use Rattle.words.specs.declared.SourceKind.{SourceKind}
use Rattle.words.specs.declared.SourceKind.TheVariants.{Rich}
use Rattle.words.specs.Words.{Source}
use Rattle.rwc_reports.specs.Lines.{missing_line, too_long_line, text_line, no_main_line}
use Rattle.rwc_reports.specs.Refusals.{violation_line}
use Rattle.rwc_reports.specs.Steps.{Refused, Onward, EachLeads}

-- the greatest length of a file, in bytes
abbrev pub max_file_length : ℕ
max_file_length = 16777216

-- the content of a told file, or the refusal of one that is missing or too long
pub data FileLoads (told : List NamedFile) (file : List ℕ) (r : Result (List ℕ) Refused) : Type 0 where
  loaded : (content : List ℕ) → content_of told file ≡ Some content → length content ≤ max_file_length → r ≡ Ok content → FileLoads told file r
  missing : content_of told file ≡ None → r ≡ Err (record { status = 3; line = missing_line file }) → FileLoads told file r
  too_long : (content : List ℕ) → content_of told file ≡ Some content → max_file_length < length content → r ≡ Err (record { status = 3; line = too_long_line file }) → FileLoads told file r

-- the names of the faults of a text
abbrev pub text_fault_name : Fault → List ℕ
text_fault_name BadUtf8 = codes "BadUtf8"
text_fault_name BadToken = codes "BadToken"
text_fault_name TooDeep = codes "TooDeep"
text_fault_name NumberOut = codes "NumberOut"
text_fault_name BadForm = codes "BadForm"
text_fault_name Unended = codes "Unended"

-- the refusal of a text with this first fault
abbrev pub text_refusal : List ℕ → Found → Refused
text_refusal file found = record { status = 1; line = text_line file found.at.line found.at.column (text_fault_name found.fault) }

-- the module that a text of this language spells, or the refusal by its first fault
pub data TextReads (kind : SourceKind) (file bytes : List ℕ) (r : Result Module Refused) : Type 0 where
  spelled : (m : Module) → kind ≡ Rich → Spells bytes m → r ≡ Ok m → TextReads kind file bytes r
  faulty : (found : Found) → kind ≡ Rich → HasFirstFault bytes found → r ≡ Err (text_refusal file found) → TextReads kind file bytes r

-- a module with the notes of its derivation, or the refusal by its first violation
pub data ModuleChecks (file : List ℕ) (m : Module) (r : Result TypedModule Refused) : Type 0 where
  typed : (notes : List (List Note)) → IsTyped m notes → r ≡ Ok (record { source = m; notes = notes }) → ModuleChecks file m r
  violated : (v : Violation) → FirstViolation m v → r ≡ Err (record { status = 1; line = violation_line file v }) → ModuleChecks file m r

-- a source and its content lead to a typed module
abbrev pub SourceChecks : Source × List ℕ → Result TypedModule Refused → Type 0
SourceChecks given r = Onward (TextReads given.0.kind given.0.file given.1) (ModuleChecks given.0.file) r

-- no file, or a last one without `main`
abbrev pub HasNoMain : List TypedModule → Type 0
HasNoMain [] = ⊤
HasNoMain (file ∷ []) = program_of file ≡ None
HasNoMain (file ∷ other ∷ more) = HasNoMain (other ∷ more)

-- the program of typed modules, or the refusal of those that cannot be linked; of one file so far
pub data ModulesLink (files : List TypedModule) (r : Result Program Refused) : Type 0 where
  linked : (file : TypedModule) (program : Program) → files ≡ file ∷ [] → program_of file ≡ Some program → r ≡ Ok program → ModulesLink files r
  no_main : HasNoMain files → r ≡ Err (record { status = 10; line = no_main_line }) → ModulesLink files r

-- the contents of sources, all of them
abbrev pub SourcesLoad : List NamedFile → List Source → Result (List (Source × List ℕ)) Refused → Type 0
SourcesLoad told sources r = EachLeads (λ source. FileLoads told source.file) sources r

-- the typed modules of loaded sources
abbrev pub SourcesCheck : List (Source × List ℕ) → Result (List ((Source × List ℕ) × TypedModule)) Refused → Type 0
SourcesCheck given r = EachLeads SourceChecks given r

-- the program of checked sources
abbrev pub SourcesLink : List ((Source × List ℕ) × TypedModule) → Result Program Refused → Type 0
SourcesLink checked r = ModulesLink (map (λ file. file.1) checked) r

-- the program of told source files, or the first refusal
abbrev pub FilesLead : List NamedFile → List Source → Result Program Refused → Type 0
FilesLead told sources r = Onward (SourcesLoad told sources) (λ loaded. Onward (SourcesCheck loaded) SourcesLink) r
