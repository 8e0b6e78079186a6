use Rattle.std.proofs.Common.{◌∙◌, ℕ, sym, ap}
use Rattle.wasm_execution.specs.Environments.{environment_of}
use Rattle.wasm_execution.specs.Control as control
use Rattle.wasm_frames.specs.Frames.{here_now}
use Rattle.wasm_run_calls.specs.Parts.{start_at}
use Rattle.wasm_run_calls.proofs.Popping.{popped, retaken, table_taken}
use Rattle.wasm_run_calls.proofs.branches.branch_by_table.Goals as goal

pub returns-clause-does : goal.returns-clause-does
returns-clause-does g c = λ rest.
    let e = environment_of (g.F.Functions.source c.args.functions.now) in
    let s = c.args.state.now in
    let p = c.pop-n in
    let q = popped s p.new.self p.result p.ensures.own p.ensures.beneath in
    retaken s p.new.self p.result p.ensures.own p.ensures.beneath (control.branch_table e c.args.labels.now c.args.default) (control.branch_to e c.label_at.result) rest c.branch_on.result c.branch_on.new.state
    (λ start. table_taken s p.new.self p.result p.ensures.own p.ensures.beneath e c.args.labels.now c.args.default rest start
    ∙ ap (λ (l : ℕ). control.branch_to e l (record (here_now q.frames) { rest = rest }) (start_at start q)) (sym c.label_at.ensures))
    (c.branch_on.ensures.does rest)
