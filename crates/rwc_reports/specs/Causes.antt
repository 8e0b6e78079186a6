-- Why a job is refused; this project's own.
use Rattle.std.specs.Prelude.{◌≡◌, ◌≤◌, ℕ, List, [], ◌∷◌}
use Rattle.std.specs.declared.option.Option.{Option}
use Rattle.std.specs.declared.option.Option.TheVariants.{None, Some}
use Rattle.std.specs.declared.result.Result.TheVariants.{Ok, Err}
use Rattle.machine_steps.specs.declared.End.TheVariants.{Trap}
use Rattle.machine_steps.specs.declared.Trap.{Trap as TrapOf}
use Rattle.machine_steps.specs.Steps.{Going, Over}
use Rattle.wasm_ast.specs.declared.modules.WModule.{WModule}
use Rattle.wasm_encode.specs.Contents.{IsFirstTooLong}
use Rattle.wasm_execution.specs.Behaviour.{wasm}
use Rattle.wasm_grammar.specs.GrammarModules.{SpellsModule}
use Rattle.wasm_reading.specs.declared.fault.DecodeError.{DecodeError}
use Rattle.wasm_reading_laws.specs.ModulesRead.{HasFirstFault}
use Rattle.wasm_typing.specs.Modules as wasm_typing
use Rattle.rw_types.specs.declared.modules.Module.{Module}
use Rattle.rich_text.specs.Texts.{Spells, Found}
use Rattle.rich_text_laws.specs.Laws.{HasFirstFault as HasTextFault}
use Rattle.rich_typing.specs.Violations.{Violation, FirstViolation}
use Rattle.rw_program.specs.Modules.{TypedModule}
use Rattle.rw_program.specs.Programs.{Program}
use Rattle.lowering_table.specs.declared.Pages.{Pages}
use Rattle.lowering_table.specs.Modules.{low_module}
use Rattle.rw_io.specs.Files.{NamedFile}
use Rattle.rw_io.specs.States.{SinkState}
use Rattle.words.specs.Words.{Command, build, run, exec, show, dump, Source, files_of, SpellsCommand}
use Rattle.rwc_reports.specs.Binaries.{malformed_refusal}
use Rattle.rwc_reports.specs.Endings.{Tells}
use Rattle.rwc_reports.specs.Executables.{invalid_refusal, ModuleStarts, ExecutableLeads}
use Rattle.rwc_reports.specs.Lines.{too_many_section_line}
use Rattle.rwc_reports.specs.Refusals.{violation_line}
use Rattle.rwc_reports.specs.Sources.{text_refusal, FileLoads, SourcesLoad, SourceChecks, SourcesCheck, SourcesLink, FilesLead}
use Rattle.rwc_reports.specs.Steps.{Refused, FirstRefused}

-- the sources of a command, which are read
abbrev pub sources_of : Command → List Source
sources_of (build lin unr name source) = source ∷ []
sources_of (run lin unr steps source) = source ∷ []
sources_of (exec steps file) = []
sources_of (show source) = source ∷ []
sources_of (dump file) = []

-- those that are checked and linked
abbrev pub programs_of : Command → List Source
programs_of (build lin unr name source) = source ∷ []
programs_of (run lin unr steps source) = source ∷ []
programs_of (exec steps file) = []
programs_of (show source) = []
programs_of (dump file) = []

-- the pages of a command that lowers its program
abbrev pub pages_of : Command → Option Pages
pages_of (build lin unr name source) = Some (record { lin = lin; unr = unr })
pages_of (run lin unr steps source) = Some (record { lin = lin; unr = unr })
pages_of (exec steps file) = None
pages_of (show source) = None
pages_of (dump file) = None

-- the file of a command that decodes a binary
abbrev pub binary_of : Command → Option (List ℕ)
binary_of (build lin unr name source) = None
binary_of (run lin unr steps source) = None
binary_of (exec steps file) = Some file
binary_of (show source) = None
binary_of (dump file) = Some file

-- of loaded sources the first that is refused
abbrev pub RefusedSource : List (Source × List ℕ) → Refused → Type 0
RefusedSource loaded refused = FirstRefused SourceChecks loaded refused

-- the module that a command runs, and how many steps at most: that of its binary, or the lowered one of its program
pub data RunsModule (told : List NamedFile) (command : Command) (m : WModule) (steps : ℕ) : Type 0 where
  of_binary : (file : List ℕ) → command ≡ exec steps file → ExecutableLeads told file (Ok m) → RunsModule told command m steps
  of_program : (lin unr : ℕ) (source : Source) (program : Program) → command ≡ run lin unr steps source → FilesLead told (source ∷ []) (Ok program) →
      m ≡ low_module program (record { lin = lin; unr = unr }) → RunsModule told command m steps

-- why the job of a command over told files is refused, or its run comes to no value
pub data Cause (told : List NamedFile) (command : Command) (refused : Refused) : Type 0 where
  -- of its files the first that is refused is missing or too long
  not_loaded : refused.status ≡ 3 → FirstRefused (FileLoads told) (files_of command) refused → Cause told command refused
  -- all its sources are loaded, and the text of the first that is refused has a first fault
  no_module : (loaded : List (Source × List ℕ)) → SourcesLoad told (sources_of command) (Ok loaded) → (first : RefusedSource loaded refused) →
      (found : Found) → HasTextFault first.at.1 found → refused ≡ text_refusal first.at.0.file found → Cause told command refused
  -- all its sources are loaded, and the module of the first that is refused has a first violation
  violated : (loaded : List (Source × List ℕ)) → SourcesLoad told (programs_of command) (Ok loaded) → (first : RefusedSource loaded refused) →
      (m : Module) (v : Violation) → Spells first.at.1 m → FirstViolation m v → refused ≡ record { status = 1; line = violation_line first.at.0.file v } → Cause told command refused
  -- the first fault of its binary
  malformed : (file bytes : List ℕ) (e : DecodeError) → binary_of command ≡ Some file → FileLoads told file (Ok bytes) → HasFirstFault bytes e → refused ≡ malformed_refusal file e → Cause told command refused
  -- the module of its binary has a first violation of validation
  invalid : (steps : ℕ) (file bytes : List ℕ) (m : WModule) (v : wasm_typing.Violation) → command ≡ exec steps file → FileLoads told file (Ok bytes) → SpellsModule bytes m →
      wasm_typing.FirstViolation m v → refused ≡ invalid_refusal file v → Cause told command refused
  -- the module of its binary is valid and does not start
  not_started : (steps : ℕ) (file bytes : List ℕ) (m : WModule) → command ≡ exec steps file → FileLoads told file (Ok bytes) → SpellsModule bytes m →
      wasm_typing.IsValid m → ModuleStarts file m (Err refused) → Cause told command refused
  -- its sources are checked and cannot be linked
  not_linked : (loaded : List (Source × List ℕ)) → SourcesLoad told (programs_of command) (Ok loaded) → (checked : List ((Source × List ℕ) × TypedModule)) → SourcesCheck loaded (Ok checked) →
      SourcesLink checked (Err refused) → refused.status ≡ 10 → Cause told command refused
  -- the first section of its program's lowered module that is too long
  too_long : (pages : Pages) (program : Program) (id : ℕ) → pages_of command ≡ Some pages → FilesLead told (programs_of command) (Ok program) →
      IsFirstTooLong (low_module program pages) id → refused ≡ record { status = 11; line = too_many_section_line id } → Cause told command refused
  -- its run ends in a trap within its steps, and no line is told
  trapped : (m : WModule) (steps count : ℕ) (t : TrapOf) → RunsModule told command m steps → count ≤ steps → (wasm m count).stand ≡ Over (Trap t) → refused ≡ record { status = 6; line = [] } → Cause told command refused
  -- its run goes on after all its steps, and no line is told
  spent : (m : WModule) (steps : ℕ) → RunsModule told command m steps → (wasm m steps).stand ≡ Going → refused ≡ record { status = 7; line = [] } → Cause told command refused

-- a command that words spell was refused or its run came to no value, and the line to standard error, if any, says why
pub record IsRefusedFor (words : List (List ℕ)) (told : List NamedFile) (err err' : SinkState) (status : ℕ) : Type 0 where
  pub command : Command
  pub spelled : SpellsCommand words command
  pub refused : Refused
  pub cause : Cause told command refused
  pub is : status ≡ refused.status
  pub tells : Tells refused.line status err err' status
