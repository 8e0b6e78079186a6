use Rattle.std.proofs.Common.{◌≤◌, ◌-◌, length, take, drop, arith, rules}
use Rattle.wasm_ast.specs.OperationViews.{operation_seen}
use Rattle.wasm_machine.proofs.Stepping.{none_left, first_left, entries, finds, end_leads, end_told, end_unchanged, act_leads, act_told, act_unchanged, running_after}
use Rattle.wasm_machine.proofs.steps.advance.Goals as goal

pub finish_list-requires : goal.finish_list-requires
finish_list-requires g c =
    let h = c.requires.running in
    let lead = end_leads (g.F.Functions.source c.args.functions.now) c.args.trap_code c.args.most c.args.state.now h (none_left c.args.state.now.frames.code.now (omega (arith, c.in-empty.len_below))) in
    let calls = h.calls in
    search (rules, lead, calls)

pub act-requires : goal.act-requires
act-requires g c =
    let m = g.F.Functions.source c.args.functions.now in
    let h = c.requires.running in
    let s = c.args.state.now in
    let code = first_left s.frames.code.now c.instruction-item.result (omega (arith, c.in-len1-up.len_at_least)) c.instruction-item.is in
    let rest = take (length s.frames.code.now - 1) (drop 1 s.frames.code.now) in
    let lead = act_leads m c.args.trap_code c.args.most s h c.instruction-item.result rest c.operation.result code c.operation.ensures.operation in
    let found = finds m c.args.trap_code c.args.most s h c.instruction-item.result rest code c.operation.result c.operation.ensures.operation in
    let table = entries m c.args.trap_code c.args.most s h in
    let told = h.trap_code in
    let limit = h.most in
    let few = h.environment.pages in
    let pages : c.args.most ≤ 65536 = omega (arith, few, limit) in
    let calls = h.calls in
    let narrow = c.operation.ensures.narrow in
    search (rules, told, limit, pages, calls, table, lead, found, narrow)

pub returns-in-empty-clause-running : goal.returns-in-empty-clause-running
returns-in-empty-clause-running g c =
    let m = g.F.Functions.source c.args.functions.now in
    let h = c.requires.running in
    let s = c.args.state.now in
    let f = c.finish_list in
    let code = none_left s.frames.code.now (omega (arith, c.in-empty.len_below)) in
    running_after m c.args.trap_code c.args.most s h f.result f.new.state (end_told m c.args.trap_code c.args.most s h f.result f.new.state code f.ensures.does f.ensures.stays)
    (end_unchanged m c.args.trap_code c.args.most s h f.result f.new.state f.ensures.stays) f.ensures.keeps

pub returns-in-len1-up-clause-running : goal.returns-in-len1-up-clause-running
returns-in-len1-up-clause-running g c =
    let m = g.F.Functions.source c.args.functions.now in
    let h = c.requires.running in
    let s = c.args.state.now in
    let i = c.instruction-item.result in
    let rest = take (length s.frames.code.now - 1) (drop 1 s.frames.code.now) in
    let code = first_left s.frames.code.now i (omega (arith, c.in-len1-up.len_at_least)) c.instruction-item.is in
    running_after m c.args.trap_code c.args.most s h c.act.result c.act.new.state (act_told m c.args.trap_code c.args.most s h i rest c.operation.result c.act.result c.act.new.state code c.operation.ensures.operation c.act.ensures.does)
    (act_unchanged m c.args.trap_code c.args.most s h (operation_seen c.operation.result) rest c.act.result c.act.new.state c.act.ensures.does) c.act.ensures.keeps
