use Rattle.std.proofs.Common.{List, [], refl, rules}
use Rattle.wasm_ast.specs.declared.instructions.WInstr.{WInstr}
use Rattle.wasm_ast.specs.declared.operation.OperationRef.TheVariants as ref
use Rattle.wasm_ast.specs.Operations as op
use Rattle.wasm_execution.specs.Environments.{environment_of}
use Rattle.wasm_execution.specs.Calls as machine
use Rattle.wasm_execution.specs.Control as control
use Rattle.wasm_run_calls.specs.Parts.{LeadsOn}
use Rattle.wasm_machine.proofs.Stepping.{acts, acts_return, goes_on, seen, leads, leads_as, in_call_found}
use Rattle.wasm_machine.proofs.dispatch.act.Goals as goal

pub returns-in-Br-clause-does : goal.returns-in-Br-clause-does
returns-in-Br-clause-does g c =
    let e = environment_of (g.F.Functions.source c.args.functions.now) in
    let s = c.args.state.now in
    seen e c.args.operation (ref.Br c.in-Br.label) c.args.rest.now s c.branch_to.new.state c.branch_to.result c.in-Br.is
    (acts e (op.Br c.in-Br.label) (control.branch_to e c.in-Br.label) c.args.rest.now s c.branch_to.new.state c.branch_to.result (λ here d. refl) (c.branch_to.ensures.does c.args.rest.now) c.branch_to.ensures.stays)

pub branch_to-requires : goal.branch_to-requires
branch_to-requires g c =
    let e = environment_of (g.F.Functions.source c.args.functions.now) in
    let s = c.args.state.now in
    let lead : (r : List WInstr) × LeadsOn (control.branch_to e c.in-Br.label) r s = (c.args.rest.now, leads (control.branch_to e c.in-Br.label) c.args.rest.now s (leads_as e c.args.operation (ref.Br c.in-Br.label) c.args.rest.now s c.in-Br.is c.requires.steps)) in
    search (rules, lead)

pub returns-in-BrIf-clause-does : goal.returns-in-BrIf-clause-does
returns-in-BrIf-clause-does g c =
    let e = environment_of (g.F.Functions.source c.args.functions.now) in
    let s = c.args.state.now in
    seen e c.args.operation (ref.BrIf c.in-BrIf.label) c.args.rest.now s c.branch_if.new.state c.branch_if.result c.in-BrIf.is
    (acts e (op.BrIf c.in-BrIf.label) (control.branch_if e c.in-BrIf.label) c.args.rest.now s c.branch_if.new.state c.branch_if.result (λ here d. refl) c.branch_if.ensures.does c.branch_if.ensures.stays)

pub branch_if-requires : goal.branch_if-requires
branch_if-requires g c =
    let e = environment_of (g.F.Functions.source c.args.functions.now) in
    let s = c.args.state.now in
    let lead : LeadsOn (control.branch_if e c.in-BrIf.label) c.args.rest.now s = leads (control.branch_if e c.in-BrIf.label) c.args.rest.now s (leads_as e c.args.operation (ref.BrIf c.in-BrIf.label) c.args.rest.now s c.in-BrIf.is c.requires.steps) in
    search (rules, lead)

pub returns-in-BrTable-clause-does : goal.returns-in-BrTable-clause-does
returns-in-BrTable-clause-does g c =
    let e = environment_of (g.F.Functions.source c.args.functions.now) in
    let s = c.args.state.now in
    seen e c.args.operation (ref.BrTable c.in-BrTable.labels c.in-BrTable.default) c.args.rest.now s c.branch_by_table.new.state c.branch_by_table.result c.in-BrTable.is
    (acts e (op.BrTable c.in-BrTable.labels.now c.in-BrTable.default) (control.branch_table e c.in-BrTable.labels.now c.in-BrTable.default) c.args.rest.now s c.branch_by_table.new.state c.branch_by_table.result (λ here d. refl) (c.branch_by_table.ensures.does c.args.rest.now) c.branch_by_table.ensures.stays)

pub branch_by_table-requires : goal.branch_by_table-requires
branch_by_table-requires g c =
    let e = environment_of (g.F.Functions.source c.args.functions.now) in
    let s = c.args.state.now in
    let lead : (r : List WInstr) × LeadsOn (control.branch_table e c.in-BrTable.labels.now c.in-BrTable.default) r s = (c.args.rest.now, leads (control.branch_table e c.in-BrTable.labels.now c.in-BrTable.default) c.args.rest.now s (leads_as e c.args.operation (ref.BrTable c.in-BrTable.labels c.in-BrTable.default) c.args.rest.now s c.in-BrTable.is c.requires.steps)) in
    search (rules, lead)

pub returns-in-Return-clause-does : goal.returns-in-Return-clause-does
returns-in-Return-clause-does g c =
    let e = environment_of (g.F.Functions.source c.args.functions.now) in
    let s = c.args.state.now in
    seen e c.args.operation ref.Return c.args.rest.now s c.return_now.new.state c.return_now.result c.in-Return.is
    (acts_return e c.args.rest.now s c.return_now.new.state c.return_now.result c.return_now.ensures.does c.return_now.ensures.stays)

pub return_now-requires : goal.return_now-requires
return_now-requires g c =
    let e = environment_of (g.F.Functions.source c.args.functions.now) in
    let s = c.args.state.now in
    let lead : LeadsOn (machine.return_now e) [] s = leads (machine.return_now e) [] s (leads_as e c.args.operation ref.Return c.args.rest.now s c.in-Return.is c.requires.steps) in
    search (rules, lead)

pub returns-in-Call-clause-does : goal.returns-in-Call-clause-does
returns-in-Call-clause-does g c =
    let e = environment_of (g.F.Functions.source c.args.functions.now) in
    let s = c.args.state.now in
    seen e c.args.operation (ref.Call c.in-Call.n) c.args.rest.now s c.call_by_number.new.state c.call_by_number.result c.in-Call.is
    (acts e (op.Call c.in-Call.n) (machine.call_direct e c.in-Call.n) c.args.rest.now s c.call_by_number.new.state c.call_by_number.result (λ here d. refl) c.call_by_number.ensures.does (goes_on c.call_by_number.result s c.call_by_number.new.state c.call_by_number.ensures.stays))

pub call_by_number-requires : goal.call_by_number-requires
call_by_number-requires g c =
    let e = environment_of (g.F.Functions.source c.args.functions.now) in
    let s = c.args.state.now in
    let lead : LeadsOn (machine.call_direct e c.in-Call.n) c.args.rest.now s = leads (machine.call_direct e c.in-Call.n) c.args.rest.now s (leads_as e c.args.operation (ref.Call c.in-Call.n) c.args.rest.now s c.in-Call.is c.requires.steps) in
    search (rules, lead)

pub returns-in-CallIndirect-clause-does : goal.returns-in-CallIndirect-clause-does
returns-in-CallIndirect-clause-does g c =
    let e = environment_of (g.F.Functions.source c.args.functions.now) in
    let s = c.args.state.now in
    seen e c.args.operation (ref.CallIndirect c.in-CallIndirect.n) c.args.rest.now s c.call_by_table.new.state c.call_by_table.result c.in-CallIndirect.is
    (acts e (op.CallIndirect c.in-CallIndirect.n) (machine.call_indirect e c.in-CallIndirect.n) c.args.rest.now s c.call_by_table.new.state c.call_by_table.result (λ here d. refl) c.call_by_table.ensures.does c.call_by_table.ensures.stays)

pub call_by_table-requires : goal.call_by_table-requires
call_by_table-requires g c =
    let e = environment_of (g.F.Functions.source c.args.functions.now) in
    let s = c.args.state.now in
    let lead : LeadsOn (machine.call_indirect e c.in-CallIndirect.n) c.args.rest.now s = leads (machine.call_indirect e c.in-CallIndirect.n) c.args.rest.now s (leads_as e c.args.operation (ref.CallIndirect c.in-CallIndirect.n) c.args.rest.now s c.in-CallIndirect.is c.requires.steps) in
    search (rules, lead)

pub act_in_call-requires-clause-finds : goal.act_in_call-requires-clause-finds
act_in_call-requires-clause-finds g c =
    let e = environment_of (g.F.Functions.source c.args.functions.now) in
    let d = c.in_default in
    in_call_found e c.args.operation c.args.rest.now c.args.state.now d.not-Br d.not-BrIf d.not-BrTable d.not-Return d.not-Call d.not-CallIndirect c.requires.steps c.requires.finds
