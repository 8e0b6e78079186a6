-- The map tells what the exports so far tell.
use Rattle.std.proofs.Common.{◌≡◌, ◌+◌, [], ◌∷◌, ◌++◌, take, sym, ap, ◌∙◌}
use Rattle.std.proofs.lemmas.List.{take_more}
use Rattle.rw_types.specs.declared.modules.ExportDef.{ExportDef}
use Rattle.rw_link.proofs.ExportLists.{tells_new, tells_old}
use Rattle.rw_link.proofs.exports.by_name.Goals as goal
use Rattle.rw_link.proofs.exports.by_name.Goals.{then-not-contains_key+in_ok-insert, else-not-contains_key}

pub loop-export-preserved : goal.loop-export-preserved
loop-export-preserved c =
    let all : take c.loop-export.export-index c.args.exports.now ++ c.export-item.result ∷ [] ≡ take (c.loop-export.export-index + 1) c.args.exports.now = ap (λ (e : ExportDef). take c.loop-export.export-index c.args.exports.now ++ e ∷ []) c.export-item.is ∙ sym (take_more c.args.exports.now c.loop-export.export-index c.export-item.result c.loop-export-test.true) in
    λ q. elim c.if-not-contains_key.branch [
      | then-not-contains_key+in_ok-insert w ↦ rw (← all, w.numbers-is) (tells_new _ c.export-item.result c.as_slice-name.result c.loop-export.numbers w.insert.new.self c.as_slice-name.ensures.value c.loop-export.invariant (sym c.contains_key.ensures ∙ w.if-not-contains_key.true) w.in_ok-insert.ensures.updates q)
      | else-not-contains_key w ↦ rw (← all, w.numbers-is) (tells_old _ c.export-item.result c.as_slice-name.result c.loop-export.numbers c.loop-export.numbers c.as_slice-name.ensures.value c.loop-export.invariant (sym c.contains_key.ensures ∙ w.if-not-contains_key.false) q)
    ]
