use Rattle.std.proofs.Common.{◌≡◌, ◌-◌, List, reverse, drop, length, sym, ap, ◌∙◌, arith, length-drop}
use Rattle.std.proofs.lemmas.List.{length-reverse}
use Rattle.wasm_values.proofs.Ends.{fewer}
use Rattle.wasm_levels.specs.declared.row.OpenList.{OpenList}
use Rattle.wasm_levels.specs.Rows.{Rows}
use Rattle.wasm_levels.proofs.row.Levels.close.Goals as goal

pub returns-clause-own : goal.returns-clause-own
returns-clause-own c =
    let items = c.self.inside.items.items in
    let base = c.self.inside.base in
    let left = c.len.result - c.args.count in
    let own : reverse (drop base items) ≡ c.args.self.now.own = ap (λ (r : Rows). r.own) c.self.view_is in
    let long = sym (ap length own) ∙ length-reverse (drop base items) ∙ length-drop base items in
    ap (λ (l : List OpenList). reverse (drop base l)) c.truncate.ensures.items
    ∙ fewer items base c.args.count left (omega (arith, long)) (omega (arith, long)) ∙ ap (drop c.args.count) own
