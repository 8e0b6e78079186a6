use Rattle.std.proofs.Common.{sym, subst, ◌∙◌}
use Rattle.wasm_grammar.specs.Nesting.{ModuleNestsAtMost, nesting_limit}
use Rattle.wasm_grammar.specs.Profile.{IsInProfile}
use Rattle.wasm_ast.specs.declared.modules.WModule.{WModule}
use Rattle.machine_steps.specs.Agreement.{Alike}
use Rattle.rich_reduction.specs.Starts.{rich}
use Rattle.wasm_execution.specs.Behaviour.{wasm}
use Rattle.lowering_laws.proofs.Behaves.{lowered_behaves}
use Rattle.lower.proofs.Fitting.{low_is_in_profile}
use Rattle.lower.proofs.Nested.{nests}
use Rattle.lower.proofs.Lowered.{lone_of, low_module_of}
use Rattle.lower.proofs.low.lower.Goals as goal

pub fill-requires-clause-func : goal.fill-requires-clause-func
fill-requires-clause-func c =
    lone_of c.args.p.now c.as_slice.result.now c.func-item.result c.funcs.ensures.form (c.as_slice.ensures.items ∙ c.funcs.ensures.value) c.func-item.is

pub returns-clause-low : goal.returns-clause-low
returns-clause-low c =
    c.in_ok-fill.ensures
    ∙ sym (low_module_of c.args.p.now c.as_slice.result.now c.func-item.result c.args.pages.now c.funcs.ensures.form (c.as_slice.ensures.items ∙ c.funcs.ensures.value) c.func-item.is)

pub returns-clause-nests : goal.returns-clause-nests
returns-clause-nests c =
    let f = c.func-item.result in
    let lone = lone_of c.args.p.now c.as_slice.result.now f c.funcs.ensures.form (c.as_slice.ensures.items ∙ c.funcs.ensures.value) c.func-item.is in
    subst (ModuleNestsAtMost nesting_limit) (sym c.in_ok-fill.ensures) (nests f c.args.pages.now lone)

pub returns-clause-profile : goal.returns-clause-profile
returns-clause-profile c =
    subst IsInProfile (sym (returns-clause-low c)) (low_is_in_profile c.args.p.now c.args.pages.now c.funcs.ensures.form c.requires)

pub returns-clause-behaves : goal.returns-clause-behaves
returns-clause-behaves c =
    subst (λ (m : WModule). Alike (λ n. rich c.args.p.now n) (λ k. wasm m k)) (sym (returns-clause-low c)) (lowered_behaves c.args.p.now c.args.pages.now c.funcs.ensures.form c.requires)
