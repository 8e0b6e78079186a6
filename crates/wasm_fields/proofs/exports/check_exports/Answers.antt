use Rattle.std.proofs.Common.{◌≡◌, ◌∙◌, ◌<◌, ◌∷◌, [], ◌++◌, take, length, sym, ap, arith, false, true}
use Rattle.std.specs.HashSet.{contains}
use Rattle.std.proofs.lemmas.List.{take_more}
use Rattle.wasm_ast.specs.declared.modules.Export.{Export}
use Rattle.wasm_typing.specs.Fields.{export_rule}
use Rattle.wasm_fields.proofs.Firsts.{fault_at, fault_behind, none_left}
use Rattle.wasm_fields.proofs.Names.{same_name, names_more, told_by_names, was_there, was_new, export_lacks, exported_twice, exported_once}
use Rattle.wasm_fields.proofs.exports.check_exports.Goals as goal

pub returns-in-Some : goal.returns-in-Some
returns-in-Some c =
    c.loop-at.invariant.told ∙ fault_at (export_rule c.args.c.now) c.args.exports.now c.loop-at.at _ c.index-exports-at.result c.loop-at-test.true c.index-exports-at.is
    (export_lacks c.args.c.now _ c.index-exports-at.result (sym c.export_index.ensures ∙ c.in-Some.is))

pub returns-in-Ok-false : goal.returns-in-Ok-false
returns-in-Ok-false c =
    let there : contains same_name c.loop-at.names c.as_slice.result ≡ true = was_there _ (cc (c.in-Ok-false.ensures.added)) in
    c.loop-at.invariant.told ∙ fault_at (export_rule c.args.c.now) c.args.exports.now c.loop-at.at _ c.index-exports-at.result c.loop-at-test.true c.index-exports-at.is
    (exported_twice c.args.c.now _ c.index-exports-at.result (sym c.export_index.ensures ∙ c.in_default.is) (told_by_names c.args.c.now _ c.index-exports-at.result c.as_slice.result c.loop-at.names c.loop-at.names c.as_slice.ensures.items c.loop-at.invariant.names ∙ there))

pub loop-at-preserved : goal.loop-at-preserved
loop-at-preserved c =
    let new : contains same_name c.loop-at.names c.as_slice.result ≡ false = was_new _ (cc (c.in-Ok-true.ensures.added)) in
    let more = take_more c.args.exports.now c.loop-at.at c.index-exports-at.result c.loop-at-test.true ∙ ap (λ (e : Export). take c.loop-at.at c.args.exports.now ++ e ∷ []) (sym c.index-exports-at.is) in
    record {
      told = c.loop-at.invariant.told ∙ fault_behind (export_rule c.args.c.now) c.args.exports.now c.loop-at.at _ c.index-exports-at.result c.loop-at-test.true c.index-exports-at.is
          (exported_once c.args.c.now _ c.index-exports-at.result (sym c.export_index.ensures ∙ c.in_default.is) (told_by_names c.args.c.now _ c.index-exports-at.result c.as_slice.result c.loop-at.names c.loop-at.names c.as_slice.ensures.items c.loop-at.invariant.names ∙ new));
      names = λ q. rw more (names_more c.args.c.now _ c.index-exports-at.result c.as_slice.result c.loop-at.names c.insert.new.self c.as_slice.ensures.items c.loop-at.invariant.names c.in-Ok-true.ensures.updates q);
    }

pub returns : goal.returns
returns c = c.loop-at.invariant.told ∙ none_left (export_rule c.args.c.now) c.args.exports.now c.loop-at.at (λ (h : c.loop-at.at < length c.args.exports.now). omega arith)
