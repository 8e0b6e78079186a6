use Rattle.std.proofs.Common.{◌≡◌, ◌∙◌, ℕ, List, sym, ap, slice_get}
use Rattle.std.specs.Prelude.{Option, Result, Ok}
use Rattle.wasm_execution.specs.Environments.{environment_of}
use Rattle.wasm_execution.specs.Calls as machine
use Rattle.wasm_frames.specs.Frames.{here_now}
use Rattle.wasm_run_calls.specs.Parts.{start_at, entry_in, typed_entry_in}
use Rattle.wasm_run_calls.proofs.Popping.{popped, retaken, trapped, entry_ok, entry_err, goes_on_stays, leads_entry}
use Rattle.wasm_run_calls.proofs.calls.call_by_table.Goals as goal

pub returns-in-Ok-call_by_number-clause-does : goal.returns-in-Ok-call_by_number-clause-does
returns-in-Ok-call_by_number-clause-does g c =
    let m = g.F.Functions.source c.args.functions.now in
    let e = environment_of m in
    let s = c.args.state.now in
    let p = c.pop-at in
    let q = popped s p.new.self p.result p.ensures.own p.ensures.beneath in
    let found = sym (c.typed_entry.ensures ∙ ap (λ (t : List (Option ℕ)). typed_entry_in m c.args.type_index (entry_in t p.result)) c.deref.ensures.value) ∙ c.in-Ok.is in
    retaken s p.new.self p.result p.ensures.own p.ensures.beneath {E = Unit {0}} (machine.call_indirect e c.args.type_index) (machine.call_direct e c.in-Ok.n) c.args.rest.now (Ok c.in-Ok-call_by_number.turn) c.call_by_number.new.state
    (λ start. entry_ok m (record (here_now q.frames) { rest = c.args.rest.now }) (start_at start q) c.args.type_index c.in-Ok.n (slice_get s.table.items p.result) found) c.in-Ok-call_by_number.ensures.does

pub returns-in-Ok-call_by_number-clause-stays : goal.returns-in-Ok-call_by_number-clause-stays
returns-in-Ok-call_by_number-clause-stays g c = goes_on_stays c.in-Ok-call_by_number.turn c.args.state.now c.call_by_number.new.state c.in-Ok-call_by_number.ensures.stays

pub returns-in-Err-clause-does : goal.returns-in-Err-clause-does
returns-in-Err-clause-does g c =
    let m = g.F.Functions.source c.args.functions.now in
    let e = environment_of m in
    let s = c.args.state.now in
    let p = c.pop-at in
    let q = popped s p.new.self p.result p.ensures.own p.ensures.beneath in
    let found = sym (c.typed_entry.ensures ∙ ap (λ (t : List (Option ℕ)). typed_entry_in m c.args.type_index (entry_in t p.result)) c.deref.ensures.value) ∙ c.in-Err.is in
    let h = leads_entry s p.new.self p.result p.ensures.own p.ensures.beneath m c.args.type_index c.args.rest.now c.requires.steps in
    trapped s p.new.self p.result p.ensures.own p.ensures.beneath (machine.call_indirect e c.args.type_index) c.args.rest.now c.in-Err.trap c.put_back-in-Err.new.state
    (λ start. entry_err m (record (here_now q.frames) { rest = c.args.rest.now }) (start_at start q) c.args.type_index c.in-Err.trap (slice_get s.table.items p.result) h found)
