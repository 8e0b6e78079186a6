use Rattle.std.proofs.Common.{◌≡◌, ◌∙◌, sym, subst, rules}
use Rattle.wasm_ast.specs.declared.modules.WModule.{WModule}
use Rattle.wasm_grammar.specs.Profile.{IsInProfile}
use Rattle.wasm_typing.specs.Modules.{IsValid}
use Rattle.wasm_run.proofs.Starting.{begins_there, runs_first}
use Rattle.wasm_run.proofs.machine.Machine.new.Goals as goal

pub first_state-requires : goal.first_state-requires
first_state-requires c κs =
    let m : WModule = c.in_ok-environment.environment in
    let same : c.module-valid_in_profile.result.now ≡ m = c.module-valid_in_profile.ensures.value ∙ sym c.in_ok-environment.ensures in
    let valid : IsValid m = subst IsValid same c.module-valid_in_profile.ensures.valid in
    let profile : IsInProfile m = subst IsInProfile same c.module-valid_in_profile.ensures.profile in
    let begins = begins_there m c.args.valid.now c.in_ok-started.started c.in_ok-environment.ensures c.in_ok-started.ensures.starts in
    search (rules, valid, profile, begins)

pub invariant_of-result : goal.invariant_of-result
invariant_of-result c =
    let r = c.in_ok-state.ensures in
    runs_first c.in_ok-environment.environment c.trap_code-trap_code.result c.most_pages-most_pages.result c.in_ok-state.state c.trap_code-trap_code.ensures c.most_pages-most_pages.ensures r.begins r.running
