use Rattle.std.proofs.Common.{◌≡◌, ℕ, suc, ◌-◌, length, take, sym, ap, ◌∙◌, arith}
use Rattle.wasm_levels.specs.Lists.{beneath_all}
use Rattle.wasm_list_steps.proofs.Landing.{height-next}
use Rattle.wasm_list_steps.proofs.lists.height.Goals as goal

pub returns : goal.returns
returns c =
    let ls = c.args.levels.now.own in
    let b = c.args.values.now.beneath in
    let next : suc (c.args.n - 1) ≡ c.args.n = omega arith in
    sym (height-next (c.args.n - 1) ls b c.get.result c.get.ensures c.requires.laid) ∙ ap (λ (k : ℕ). length (beneath_all (take k ls) b)) next
