-- Each step stops the way to a binary with its refusal, or goes on with its value.
use Rattle.std.proofs.Common.{◌≡◌, ◌∙◌, ℕ, List, inl, inr, refl, ap, sym, subst, Ok, Err, Some}
use Rattle.std.specs.Prelude.{Vec}
use Rattle.std.specs.Result.{IfOk}
use Rattle.std.specs.declared.alloc.Global.{Global}
use Rattle.std.specs.declared.result.Result.{Result}
use Rattle.lowering_table.specs.declared.Pages.{Pages}
use Rattle.lowering_table.specs.Modules.{low_module}
use Rattle.rich_typing.specs.Derivations.{IsTyped}
use Rattle.rw_program.specs.Linking.{program_of}
use Rattle.rw_program.specs.Programs.{Program}
use Rattle.wasm_grammar.specs.CanonicalModules.{module_bytes}
use Rattle.rwc_acts.specs.declared.ending.Stop.{Stop}
use Rattle.rw_program.specs.Modules.{TypedModule}
use Rattle.rw_types.specs.declared.modules.Module.{Module}
use Rattle.wasm_ast.specs.declared.modules.WModule.{WModule}
use Rattle.words.specs.Commands.{spelled_source}
use Rattle.rwc_acts.specs.declared.ending.Stop.TheVariants.{Memory}
use Rattle.rwc_acts.proofs.Loading.{no_memory, step_stopped, last_step, load_stopped, hands_on}
use Rattle.rwc_reports.proofs.Causes.{text_status, check_status, encode_status}
use Rattle.rwc_reports.proofs.Steps.{same_value, not_both}
use Rattle.rwc_reports.proofs.OneFile.{stopped_load, stopped_text, stopped_check, goes_to}
use Rattle.rwc_reports.proofs.LonePrograms.{program_lone}
use Rattle.rwc_reports.specs.Binaries.{ProgramLowers, ModuleEncodes, IsLoneBinary}
use Rattle.rwc_reports.specs.Sources.{FileLoads, TextReads, ModuleChecks}
use Rattle.rwc_reports.specs.Steps.{goes_on}
use Rattle.rwc_sources.proofs.binary.compile.Goals as goal

-- the bytes of the lowered module of a checked file's program
lone_binary : (pages : Pages) (checked : TypedModule) (program : Program) (m : WModule) (result : Result (Vec ℕ Global) Stop) → IsTyped checked.source checked.notes → program_of checked ≡ Some program → ProgramLowers pages program (Ok m) →
    IfOk result (λ bytes. bytes.items ≡ module_bytes m) → IfOk result (λ bytes. IsLoneBinary pages bytes.items)
lone_binary pages checked program m (Ok bytes) typed links low is =
    record { program = program; lone = program_lone checked.source checked.notes program typed links; is = is ∙ ap module_bytes (same_value m (low_module program pages) low) }
lone_binary pages checked program m (Err stop) typed links low is = tt

pub returns-in_err-text-clause-loads : goal.returns-in_err-text-clause-loads
returns-in_err-text-clause-loads g c =
    hands_on _ _ _ _ _ _ c.from_residual.result _ c.from_residual.ensures.1
    (load_stopped _ _ _ _ _ _ _ _ _ c.in_err-text.field-0.0 c.in_err-text.ensures.loads (λ told refused load. stopped_load told (spelled_source c.args.source.now) c.args.pages.now refused load)
    (λ status listed. elim listed [ inl three ↦ inr (inl three) | inr none ↦ absurd none ]))

pub returns-in_err-module-clause-loads : goal.returns-in_err-module-clause-loads
returns-in_err-module-clause-loads g c =
    let source = spelled_source c.args.source.now in
    let bytes = c.deref.result.now in
    let loads = c.load_file.ensures.loads in
    hands_on _ _ _ _ _ _ c.from_residual-in_err-module.result _ c.from_residual-in_err-module.ensures.1
    (step_stopped _ _ _ _ _ _ loads.same loads.counts (λ (m : Module). m) (TextReads source.kind source.file bytes) c.in_err-module.field-0.0 c.in_err-module.ensures
    (λ told e refused text. stopped_text told source c.args.pages.now bytes refused (subst (λ (b : List ℕ). FileLoads told source.file (Ok b)) (sym c.deref.ensures.value) (c.in_ok-text.ensures.loads.leads told e)) text)
    (λ refused text. inl (text_status source.kind source.file bytes refused text)))

pub returns-in_err-checked-clause-loads : goal.returns-in_err-checked-clause-loads
returns-in_err-checked-clause-loads g c =
    let source = spelled_source c.args.source.now in
    let bytes = c.deref.result.now in
    let loads = c.load_file.ensures.loads in
    hands_on _ _ _ _ _ _ c.from_residual-in_err-checked.result _ c.from_residual-in_err-checked.ensures.1
    (step_stopped _ _ _ _ _ _ loads.same loads.counts (λ (checked : TypedModule). checked) (ModuleChecks source.file c.in_ok-module.«module») c.in_err-checked.field-0.0 c.in_err-checked.ensures.checks
    (λ told e refused check. stopped_check told source c.args.pages.now bytes c.in_ok-module.«module» refused (subst (λ (b : List ℕ). FileLoads told source.file (Ok b)) (sym c.deref.ensures.value) (c.in_ok-text.ensures.loads.leads told e)) c.in_ok-module.ensures check)
    (λ refused check. inl (check_status source.file c.in_ok-module.«module» refused check)))

pub returns-in_err-program-clause-loads : goal.returns-in_err-program-clause-loads
returns-in_err-program-clause-loads g c =
    let loads = c.load_file.ensures.loads in
    hands_on _ _ _ _ _ _ c.from_residual-in_err-program.result Memory c.from_residual-in_err-program.ensures.1 (no_memory _ _ _ _ _ _ loads.same loads.counts Memory refl)

pub returns-in_err-lowered-clause-loads : goal.returns-in_err-lowered-clause-loads
returns-in_err-lowered-clause-loads g c =
    let loads = c.load_file.ensures.loads in
    let Step = ProgramLowers c.args.pages.now c.in_ok-program.program in
    hands_on _ _ _ _ _ _ c.from_residual-in_err-lowered.result _ c.from_residual-in_err-lowered.ensures.1
    (step_stopped _ _ _ _ _ _ loads.same loads.counts (λ (m : WModule). m) Step c.in_err-lowered.field-0.0 c.in_err-lowered.ensures.lowers (λ told e refused low. absurd (not_both _ refused (sym low))) (λ refused low. absurd (not_both _ refused (sym low))))

pub returns-clause-loads : goal.returns-clause-loads
returns-clause-loads g c =
    let source = spelled_source c.args.source.now in
    let bytes = c.deref.result.now in
    let loads = c.load_file.ensures.loads in
    last_step _ _ _ _ _ _ loads.same loads.counts (ModuleEncodes c.in_ok-lowered.lowered) c.encode_module.result c.encode_module.ensures.encodes
    (λ told e r encodes. goes_to told source c.args.pages.now bytes c.in_ok-module.«module» c.in_ok-checked.checked c.in_ok-program.program r
    (subst (λ (b : List ℕ). FileLoads told source.file (Ok b)) (sym c.deref.ensures.value) (c.in_ok-text.ensures.loads.leads told e)) c.in_ok-module.ensures c.in_ok-checked.ensures.checks c.in_ok-program.ensures
    (goes_on c.in_ok-lowered.lowered c.in_ok-lowered.ensures.lowers encodes))
    (λ refused encodes. inr (inr (inl (encode_status c.in_ok-lowered.lowered refused encodes))))

pub returns-clause-lone : goal.returns-clause-lone
returns-clause-lone g c = lone_binary c.args.pages.now c.in_ok-checked.checked c.in_ok-program.program c.in_ok-lowered.lowered c.encode_module.result c.in_ok-checked.ensures.typed c.in_ok-program.ensures c.in_ok-lowered.ensures.lowers c.encode_module.ensures.bytes
