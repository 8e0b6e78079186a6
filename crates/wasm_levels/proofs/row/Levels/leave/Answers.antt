use Rattle.std.proofs.Common.{◌≡◌, ◌-◌, ◌++◌, reverse, take, drop, length, sym, ap, ◌∙◌, arith, length-drop}
use Rattle.std.proofs.lemmas.List.{take-append-drop, length-reverse, length-take-le}
use Rattle.wasm_values.proofs.Ends.{upper, lower}
use Rattle.wasm_levels.specs.Rows.{Rows}
use Rattle.wasm_levels.proofs.row.Levels.leave.Goals as goal

pub returns : goal.returns
returns c =
    let items = c.self.inside.items.items in
    let base = c.self.inside.base in
    let count = c.args.count in
    let below = c.args.self.now.beneath in
    let was : reverse (take base items) ≡ below = ap (λ (r : Rows). r.beneath) c.self.view_is in
    let left = c.truncate.new.self.items in
    let all : reverse left ≡ take count below ++ drop count below = ap reverse c.truncate.ensures.items ∙ was ∙ sym (take-append-drop count below) in
    let long : length below ≡ base = sym (ap length was) ∙ length-reverse (take base items) ∙ length-take-le base items (omega arith) in
    let less : length (drop count below) ≡ base - count = length-drop count below ∙ omega (arith, long) in
    (upper left (take count below) (drop count below) (base - count) all less, lower left (take count below) (drop count below) (base - count) all less)
