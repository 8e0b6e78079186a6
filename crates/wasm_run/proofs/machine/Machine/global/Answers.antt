use Rattle.std.proofs.Common.{◌≡◌, ◌∙◌, ap, length}
use Rattle.wasm_run_state.specs.States.{config_of}
use Rattle.wasm_run.specs.Progress.{Progress}
use Rattle.wasm_run.proofs.Starting.{as_many_globals}
use Rattle.wasm_run.proofs.Turning.{past_end}
use Rattle.wasm_run.proofs.machine.Machine.global.Goals as goal

pub returns-clause-none : goal.returns-clause-none
returns-clause-none c =
    let i = c.self.inside in
    let many : length i.state.globals.items ≡ length c.args.self.now.source.globals =
    as_many_globals i.functions.environment (config_of i.state) c.self.invariant.0.config ∙ c.self.invariant.1 ∙ ap (λ (p : Progress). length p.source.globals) c.self.view_is in
    past_end c.get.result c.copied.result c.args.index (length c.deref.result.now) (length c.args.self.now.source.globals) c.copied.ensures c.get.ensures.lookup.0 (ap length c.deref.ensures.value ∙ many)
