use Rattle.std.proofs.Common.{◌≡◌, ℕ, ◌++◌, reverse, take, length, sym, ap, ◌∙◌, arith}
use Rattle.std.proofs.Math.Seq.{take-length}
use Rattle.wasm_values.proofs.Ends.{parts}
use Rattle.wasm_levels.specs.Rows.{Rows}
use Rattle.wasm_levels.proofs.row.Levels.enter.Goals as goal

pub returns-clause-beneath : goal.returns-clause-beneath
returns-clause-beneath c =
    let items = c.self.inside.items.items in
    let base = c.self.inside.base in
    let long : c.len-self-inside.result ≡ length items = omega arith in
    ap (λ (n : ℕ). reverse (take n items)) long ∙ ap reverse (take-length items) ∙ sym (parts base items) ∙ ap (λ (r : Rows). r.own ++ r.beneath) c.self.view_is
