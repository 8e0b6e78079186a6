use Rattle.std.proofs.Common.{◌∙◌, ◌+◌, ◌<◌, ℕ, None, length, get_or, refl, sym, ap, arith}
use Rattle.wasm_ast.specs.declared.types.Limits.{Limits}
use Rattle.wasm_typing.specs.Fields.{table_rule}
use Rattle.wasm_fields.proofs.Firsts.{table_behind, fault_at, fault_behind, none_left, length_front}
use Rattle.wasm_fields.proofs.limits.check_tables.Goals as goal

pub returns-in-Some : goal.returns-in-Some
returns-in-Some c =
    let none : Limits = record { min = 0; max = None } in
    let x : Limits = get_or c.args.tables.now c.loop-at.at none in
    let front = ap (λ (n : ℕ). table_rule (c.args.imported + n) x) (length_front c.args.tables.now c.loop-at.at c.loop-at-test.true) in
    c.loop-at.invariant ∙ fault_at (table_behind c.args.imported) c.args.tables.now c.loop-at.at none x c.loop-at-test.true refl (front ∙ sym c.table_rule.ensures ∙ c.in-Some.is)

pub loop-at-preserved : goal.loop-at-preserved
loop-at-preserved c =
    let none : Limits = record { min = 0; max = None } in
    let x : Limits = get_or c.args.tables.now c.loop-at.at none in
    let front = ap (λ (n : ℕ). table_rule (c.args.imported + n) x) (length_front c.args.tables.now c.loop-at.at c.loop-at-test.true) in
    c.loop-at.invariant ∙ fault_behind (table_behind c.args.imported) c.args.tables.now c.loop-at.at none x c.loop-at-test.true refl (front ∙ sym c.table_rule.ensures ∙ c.in_default.is)

pub returns : goal.returns
returns c = c.loop-at.invariant ∙ none_left (table_behind c.args.imported) c.args.tables.now c.loop-at.at (λ (h : c.loop-at.at < length c.args.tables.now). omega arith)
