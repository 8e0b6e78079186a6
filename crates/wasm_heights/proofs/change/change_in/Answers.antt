use Rattle.std.proofs.Common.{◌∙◌, refl, sym, ap, map, slice_get, nat_lt}
use Rattle.wasm_ast.specs.declared.operation.OperationRef.{OperationRef}
use Rattle.wasm_ast.specs.OperationViews.{operation_seen}
use Rattle.wasm_typing.specs.Signatures.{all_of, all_same}
use Rattle.wasm_typing.specs.declared.rule.WRule.TheVariants.{LabelIndex, LabelTypes, LocalIndex, GlobalIndex, MemoryIndex}
use Rattle.wasm_heights.specs.Changes.{change_by}
use Rattle.wasm_heights.proofs.Found.{found_some, needs_some, found_none, needs_none}
use Rattle.wasm_heights.proofs.change.change_in.Goals as goal

pub returns-in-Br : goal.returns-in-Br
returns-in-Br c = found_none LabelIndex (slice_get c.args.labels.now c.in-Br.field-0) _ (λ x. refl) ∙ ap (λ (o : OperationRef). change_by c.args.c.now c.args.labels.now (operation_seen o)) (sym c.in-Br.is)

pub returns-in-BrTable : goal.returns-in-BrTable
returns-in-BrTable c =
    found_none LabelIndex (all_of (map (slice_get c.args.labels.now) c.in-BrTable.field-0.now)) _ (λ ts. found_none LabelIndex (slice_get c.args.labels.now c.in-BrTable.field-1) _ (λ x. needs_none LabelTypes (all_same x ts) _ refl))
    ∙ ap (λ (o : OperationRef). change_by c.args.c.now c.args.labels.now (operation_seen o)) (sym c.in-BrTable.is)

pub returns-in-LocalGet : goal.returns-in-LocalGet
returns-in-LocalGet c = found_some LocalIndex (slice_get c.args.c.now.locals c.in-LocalGet.n) _ _ c.when-in-LocalGet.ensures c.has_local.ensures (λ x. refl) ∙ ap (λ (o : OperationRef). change_by c.args.c.now c.args.labels.now (operation_seen o)) (sym c.in-LocalGet.is)

pub returns-in-LocalSet : goal.returns-in-LocalSet
returns-in-LocalSet c = found_some LocalIndex (slice_get c.args.c.now.locals c.in-LocalSet.n) _ _ c.when-in-LocalSet.ensures c.has_local-in-LocalSet.ensures (λ x. refl) ∙ ap (λ (o : OperationRef). change_by c.args.c.now c.args.labels.now (operation_seen o)) (sym c.in-LocalSet.is)

pub returns-in-LocalTee : goal.returns-in-LocalTee
returns-in-LocalTee c = found_some LocalIndex (slice_get c.args.c.now.locals c.in-LocalTee.n) _ _ c.when-in-LocalTee.ensures c.has_local-in-LocalTee.ensures (λ x. refl) ∙ ap (λ (o : OperationRef). change_by c.args.c.now c.args.labels.now (operation_seen o)) (sym c.in-LocalTee.is)

pub returns-in-GlobalGet : goal.returns-in-GlobalGet
returns-in-GlobalGet c = found_some GlobalIndex (slice_get c.args.c.now.globals c.in-GlobalGet.n) _ _ c.when-in-GlobalGet.ensures c.has_global.ensures (λ x. refl) ∙ ap (λ (o : OperationRef). change_by c.args.c.now c.args.labels.now (operation_seen o)) (sym c.in-GlobalGet.is)

pub returns-in-MemorySize : goal.returns-in-MemorySize
returns-in-MemorySize c = needs_some MemoryIndex (nat_lt 0 c.args.c.now.memories) _ _ c.when-in-MemorySize.ensures refl ∙ ap (λ (o : OperationRef). change_by c.args.c.now c.args.labels.now (operation_seen o)) (sym c.in-MemorySize.is)

pub returns-in-MemoryGrow : goal.returns-in-MemoryGrow
returns-in-MemoryGrow c = needs_some MemoryIndex (nat_lt 0 c.args.c.now.memories) _ _ c.when-in-MemoryGrow.ensures refl ∙ ap (λ (o : OperationRef). change_by c.args.c.now c.args.labels.now (operation_seen o)) (sym c.in-MemoryGrow.is)
