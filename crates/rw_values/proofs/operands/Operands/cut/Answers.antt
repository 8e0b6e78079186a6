use Rattle.std.proofs.Common.{◌≡◌, ℕ, ◌+◌, ◌-◌, List, ◌++◌, length, map, reverse, take, drop, vec_len, vec_capacity, sym, ap, ◌∙◌, arith, length-append}
use Rattle.std.proofs.lemmas.List.{length-reverse, length-map, take-map}
use Rattle.rich_reduction.specs.Configurations.{Val}
use Rattle.rw_values.specs.Values.{value_of}
use Rattle.rw_values.specs.Rows.{OperandRow}
use Rattle.rw_values.proofs.Ends.{parts, upper, lower, gone}
use Rattle.rw_values.proofs.operands.Operands.cut.Goals as goal

pub returns-clause-cut : goal.returns-clause-cut
returns-clause-cut c gone own beneath e low high =
    let old = c.self.inside.items.items in
    let items = map value_of old in
    let first = c.self.inside.base in
    let was = c.args.self.now in
    let height = c.args.height in
    let now = map value_of c.truncate.new.self.items in
    let its_own : reverse (drop first items) ≡ was.own = ap (λ (s : OperandRow). s.own) c.self.view_is in
    let below : reverse (take first items) ≡ was.beneath = ap (λ (s : OperandRow). s.beneath) c.self.view_is in
    let room : vec_capacity c.self.inside.items - vec_len c.self.inside.items ≡ was.room = ap (λ (s : OperandRow). s.room) c.self.view_is in
    let all : reverse items ≡ gone ++ (own ++ beneath) =
    sym (parts first items) ∙ ap (λ (l : List Val). l ++ reverse (take first items)) its_own ∙ ap (λ (l : List Val). was.own ++ l) below ∙ e in
    let long : length (own ++ beneath) ≡ height = length-append own beneath ∙ omega (arith, low, high) in
    let kept : reverse (take height items) ≡ own ++ beneath = lower items gone (own ++ beneath) height all long in
    let count : length old ≡ length gone + height = sym (length-map old value_of) ∙ sym (length-reverse items) ∙ ap length all ∙ length-append gone (own ++ beneath) ∙ ap (λ (n : ℕ). length gone + n) long in
    let left : now ≡ take height items = ap (map value_of) c.truncate.ensures.items ∙ sym (take-map value_of height old) in
    let turned : reverse now ≡ own ++ beneath = ap reverse left ∙ kept in
    (upper now own beneath c.args.base turned low, lower now own beneath c.args.base turned low, omega (arith, room, count, c.truncate.ensures.len, c.truncate.ensures.capacity))
