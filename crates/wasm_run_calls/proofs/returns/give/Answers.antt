use Rattle.std.proofs.Common.{◌≡◌, ◌∙◌, [], rules, sym, ap, subst, take}
use Rattle.wasm_typing.specs.Contexts.{context_of}
use Rattle.wasm_execution.specs.Environments.{environment_of}
use Rattle.wasm_levels.specs.Lists.{count_of}
use Rattle.wasm_call_steps.specs.Callers.{AreCalls}
use Rattle.wasm_frames.specs.declared.frames.Frames.{Frames}
use Rattle.wasm_frames.specs.Frames.{rows, callers_now}
use Rattle.wasm_run_calls.proofs.Giving.{given_back, back_keeps, given_next, next_there}
use Rattle.wasm_run_calls.proofs.returns.give.Goals as goal

pub returns-then-leave_call-clause-does : goal.returns-then-leave_call-clause-does
returns-then-leave_call-clause-does g c =
    given_back (environment_of (g.F.Functions.source c.args.functions.now)) c.args.gives c.args.state.now c.leave_call.new.frames c.requires.given c.if-leave_call.ensures

pub returns-then-leave_call-clause-keeps : goal.returns-then-leave_call-clause-keeps
returns-then-leave_call-clause-keeps g c =
    let m = g.F.Functions.source c.args.functions.now in
    back_keeps (environment_of m) c.args.gives c.args.state.now c.leave_call.new.frames c.requires.given (context_of m) c.if-leave_call.ensures

pub begin_next-requires : goal.begin_next-requires
begin_next-requires g c =
    let k = c.if-leave_call.ensures in
    let last : callers_now c.leave_call.new.frames ≡ [] = ap callers_now k.1 ∙ k.0 in
    let calls : AreCalls (rows c.leave_call.new.frames) = subst (λ (f : Frames). AreCalls (rows f)) (sym k.1) c.requires.calls in
    let there = next_there (environment_of (g.F.Functions.source c.args.functions.now)) c.args.gives c.args.state.now k.0 c.in-Some.next c.in-Some.is c.requires.steps in
    search (rules, last, calls, there)

pub returns-in-Some-clause-does : goal.returns-in-Some-clause-does
returns-in-Some-clause-does g c =
    let k = c.if-leave_call.ensures in
    let e = environment_of (g.F.Functions.source c.args.functions.now) in
    given_next e c.args.gives c.args.state.now k.0 c.leave_call.new.frames c.begin_next.result c.begin_next.new.state k.1 (c.begin_next.ensures.does (take (count_of c.args.gives) c.args.state.now.frames.values.own))
