use Rattle.std.proofs.Common.{◌≡◌, ℕ, List, ◌∷◌, length, take, drop, sym, ap, subst, ◌∙◌, arith}
use Rattle.std.proofs.lemmas.List.{take-append-drop, length-take-le}
use Rattle.std.proofs.Math.Seq.{take-length}
use Rattle.wasm_levels.specs.declared.row.OpenList.{OpenList}
use Rattle.wasm_levels.specs.Lists.{beneath_all}
use Rattle.wasm_list_steps.proofs.Landing.{shorter}
use Rattle.wasm_call_steps.specs.declared.callers.Waiting.{Waiting}
use Rattle.wasm_call_steps.specs.Callers.{AreWaiting, run}
use Rattle.wasm_call_steps.proofs.Returning.{carried, returned}
use Rattle.wasm_call_steps.proofs.calls.leave.Goals as goal

-- how many operands lie beneath the call
height-is : (n h : ℕ) (ls : List OpenList) (b : List ℕ) → n ≡ length ls → h ≡ length (beneath_all (take n ls) b) → h ≡ length (beneath_all ls b)
height-is n h ls b e high = high ∙ ap (λ (k : ℕ). length (beneath_all (take k ls) b)) e ∙ ap (λ (l : List OpenList). length (beneath_all l b)) (take-length ls)

pub carry-requires-clause-there : goal.carry-requires-clause-there
carry-requires-clause-there c =
    let ls = c.args.levels.now.own in
    let b = c.args.values.now.beneath in
    omega (arith, height-is c.len.result c.height-height.result ls b c.len.ensures c.height-height.ensures, shorter ls b)

pub returns-in-Some : goal.returns-in-Some
returns-in-Some c =
    let w = c.in-Some.caller in
    let ls = c.args.levels.now.own in
    let b = c.args.values.now.beneath in
    let ms = c.args.locals.now.beneath in
    let under = beneath_all ls b in
    let high = height-is c.len.result c.height-height.result ls b c.len.ensures c.height-height.ensures in
    let P : List Waiting → Type 0 = λ cs. AreWaiting cs c.args.levels.now.beneath under ms in
    let waiting : AreWaiting (w ∷ c.pop.new.self) c.args.levels.now.beneath under ms = subst P c.in-Some.ensures c.requires.calls.waiting in
    let local_there = c.leave-in-Some.ensures (take w.first_local ms) (drop w.first_local ms) (sym (take-append-drop w.first_local ms)) (length-take-le w.first_local ms waiting.2) in
    returned c.args.gives w (run c.args.values.now c.args.locals.now c.args.levels.now c.args.callers.now) (run c.carry.new.values c.leave-in-Some.new.self c.leave.new.self c.pop.new.self)
    c.in-Some.ensures c.requires.calls c.requires.given
    (carried c.args.gives c.height-height.result w.base c.args.values.now c.carry.new.values ls high (omega (arith, high, waiting.1)) c.carry.ensures)
    c.leave.ensures.0 c.leave.ensures.1 local_there.0 local_there.1
