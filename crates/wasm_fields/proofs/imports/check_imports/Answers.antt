use Rattle.std.proofs.Common.{◌∙◌, ◌<◌, length, arith}
use Rattle.wasm_typing.specs.Fields.{import_rule}
use Rattle.wasm_fields.proofs.Firsts.{fault_at, fault_behind, none_left}
use Rattle.wasm_fields.proofs.Counted.{rule_counted}
use Rattle.wasm_contexts.proofs.Counted.{tables_more, memories_more}
use Rattle.wasm_fields.proofs.imports.check_imports.Goals as goal

pub returns-in-Some : goal.returns-in-Some
returns-in-Some c =
    let i = c.loop-at.invariant in
    i.told ∙ fault_at (import_rule c.args.types.now) c.args.imports.now c.loop-at.at _ c.index-imports-at.result c.loop-at-test.true c.index-imports-at.is
    (rule_counted _ _ c.index-imports-at.result i.tables i.memories c.import_rule.ensures ∙ c.in-Some.is)

pub loop-at-preserved : goal.loop-at-preserved
loop-at-preserved c =
    let i = c.loop-at.invariant in
    record {
      told = i.told ∙ fault_behind (import_rule c.args.types.now) c.args.imports.now c.loop-at.at _ c.index-imports-at.result c.loop-at-test.true c.index-imports-at.is
          (rule_counted _ _ c.index-imports-at.result i.tables i.memories c.import_rule.ensures ∙ c.in_default.is);
      tables = tables_more c.args.imports.now c.loop-at.at c.index-imports-at.result c.loop-at-test.true c.index-imports-at.is i.tables c.table_count-tables.ensures.count;
      memories = memories_more c.args.imports.now c.loop-at.at c.index-imports-at.result c.loop-at-test.true c.index-imports-at.is i.memories c.memory_count-memories.ensures.count;
      few_tables = omega arith;
      few_memories = omega arith;
    }

pub returns : goal.returns
returns c = c.loop-at.invariant.told ∙ none_left (import_rule c.args.types.now) c.args.imports.now c.loop-at.at (λ (h : c.loop-at.at < length c.args.imports.now). omega arith)
