use Rattle.std.proofs.Common.{◌≡◌, ℕ, ◌+◌, ◌-◌, ◌≤◌, List, length, map, reverse, take, drop, sym, ap, ◌∙◌, arith}
use Rattle.std.proofs.lemmas.List.{length-reverse, length-map, take-map, drop-map, length-drop}
use Rattle.rich_reduction.specs.Configurations.{Val}
use Rattle.rw_values.specs.declared.value.Value.{Value}
use Rattle.rw_values.specs.Values.{value_of}
use Rattle.rw_values.specs.Rows.{OperandRow}
use Rattle.rw_values.proofs.Ends.{stays, fewer, gone}
use Rattle.rw_values.proofs.operands.Operands.take_top.Goals as goal

pub returns-clause-taken : goal.returns-clause-taken
returns-clause-taken c =
    let old = c.self.inside.items.items in
    let items = map value_of old in
    let first = c.self.inside.base in
    let was = c.args.self.now in
    let count = c.args.count in
    let n = c.len.result - count in
    let its_own : reverse (drop first items) ≡ was.own = ap (λ (s : OperandRow). s.own) c.self.view_is in
    let long : length was.own + first ≡ length items =
    ap (λ (l : List Val). length l + first) (sym its_own) ∙ ap (λ (k : ℕ). k + first) (length-reverse (drop first items) ∙ length-drop first items) ∙ omega (arith, c.self.invariant, length-map old value_of) in
    let le : count + first ≤ length items = omega (arith, long, c.requires) in
    let e : n + count ≡ length items = omega (arith, long, c.requires, length-map old value_of, c.len.ensures) in
    ap (map value_of) c.in_ok-values.ensures.tail ∙ sym (drop-map value_of n old) ∙ gone items first count n le e ∙ ap (λ (l : List Val). reverse (take count l)) its_own

pub returns-clause-own : goal.returns-clause-own
returns-clause-own c =
    let old = c.self.inside.items.items in
    let items = map value_of old in
    let first = c.self.inside.base in
    let was = c.args.self.now in
    let count = c.args.count in
    let n = c.len.result - count in
    let its_own : reverse (drop first items) ≡ was.own = ap (λ (s : OperandRow). s.own) c.self.view_is in
    let long : length was.own + first ≡ length items =
    ap (λ (l : List Val). length l + first) (sym its_own) ∙ ap (λ (k : ℕ). k + first) (length-reverse (drop first items) ∙ length-drop first items) ∙ omega (arith, c.self.invariant, length-map old value_of) in
    let le : count + first ≤ length items = omega (arith, long, c.requires) in
    let e : n + count ≡ length items = omega (arith, long, c.requires, length-map old value_of, c.len.ensures) in
    ap (λ (l : List Value). reverse (drop first (map value_of l))) c.in_ok-values.ensures.items ∙ ap (λ (l : List Val). reverse (drop first l)) (sym (take-map value_of n old))
    ∙ fewer items first count n le e ∙ ap (drop count) its_own

pub returns-clause-beneath : goal.returns-clause-beneath
returns-clause-beneath c =
    let old = c.self.inside.items.items in
    let items = map value_of old in
    let first = c.self.inside.base in
    let was = c.args.self.now in
    let count = c.args.count in
    let n = c.len.result - count in
    let its_own : reverse (drop first items) ≡ was.own = ap (λ (s : OperandRow). s.own) c.self.view_is in
    let long : length was.own + first ≡ length items =
    ap (λ (l : List Val). length l + first) (sym its_own) ∙ ap (λ (k : ℕ). k + first) (length-reverse (drop first items) ∙ length-drop first items) ∙ omega (arith, c.self.invariant, length-map old value_of) in
    let le : count + first ≤ length items = omega (arith, long, c.requires) in
    let e : n + count ≡ length items = omega (arith, long, c.requires, length-map old value_of, c.len.ensures) in
    ap (λ (l : List Value). reverse (take first (map value_of l))) c.in_ok-values.ensures.items ∙ ap (λ (l : List Val). reverse (take first l)) (sym (take-map value_of n old))
    ∙ stays items first count n le e ∙ ap (λ (s : OperandRow). s.beneath) c.self.view_is
