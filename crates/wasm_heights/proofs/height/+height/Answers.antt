use Rattle.std.proofs.Common.{◌∙◌, ◌+◌, ℕ, Some, None, drop, sym, refl, ap}
use Rattle.wasm_typing.specs.Typing.{Labels}
use Rattle.wasm_typing.specs.Heights.{met_block, met_list, met_of}
use Rattle.wasm_checking.proofs.Judging.{nests_none}
use Rattle.wasm_heights.specs.Changes.{met_seen, met_change}
use Rattle.wasm_heights.specs.declared.height.Stood.{Stood}
use Rattle.wasm_heights.proofs.Lists.{joined, joined_zero, list_goes, list_stops, list_ends, block_met, loop_met, if_met, if_else_met, plain_met, if_ok_map}
use Rattle.wasm_heights.proofs.height.+height.Goals as goal

pub met_one-returns-in_ok-most-in-Block-clause-met : goal.met_one-returns-in_ok-most-in-Block-clause-met
met_one-returns-in_ok-most-in-Block-clause-met t c =
    if_ok_map c.block.result (λ (m : Stood) h. h ∙ block_met c.args.c.now c.args.x.now _ _ _ c.args.n c.in_ok-most-in-Block.most c.in-Block.ensures.operation c.in_ok-most-in-Block.ensures.most) c.block.ensures

pub met_one-returns-in_ok-most-in-Loop-clause-met : goal.met_one-returns-in_ok-most-in-Loop-clause-met
met_one-returns-in_ok-most-in-Loop-clause-met t c =
    if_ok_map c.block-in-Loop.result (λ (m : Stood) h. h ∙ loop_met c.args.c.now c.args.x.now _ _ _ c.args.n c.in_ok-most-in-Loop.most c.in-Loop.ensures.operation c.in_ok-most-in-Loop.ensures.most) c.block-in-Loop.ensures

pub met_one-returns-in_ok-most-in-If-clause-met : goal.met_one-returns-in_ok-most-in-If-clause-met
met_one-returns-in_ok-most-in-If-clause-met t c =
    if_ok_map c.block-in-If.result (λ (m : Stood) h. h ∙ if_met c.args.c.now c.args.x.now _ _ _ c.args.n _ c.in_ok-most-in-If.most c.in-If.ensures.operation c.saturating_sub-below.ensures c.in_ok-most-in-If.ensures.most) c.block-in-If.ensures

pub met_one-returns-in_ok-second-in-IfElse-clause-met : goal.met_one-returns-in_ok-second-in-IfElse-clause-met
met_one-returns-in_ok-second-in-IfElse-clause-met t c =
    if_ok_map c.block-in-IfElse.result (λ (m : Stood) h. h ∙ ap (met_block _ _ _) c.max.ensures ∙ if_else_met c.args.c.now c.args.x.now _ _ _ _ _ c.args.n _ c.in_ok-first-in-IfElse.first c.in_ok-second-in-IfElse.second c.in-IfElse.ensures.operation c.saturating_sub-below-in-IfElse.ensures c.in_ok-first-in-IfElse.ensures.most c.in_ok-first-in-IfElse.ensures.same c.in_ok-second-in-IfElse.ensures.most) c.block-in-IfElse.ensures

pub met_one-returns-in_default-clause-met : goal.met_one-returns-in_default-clause-met
met_one-returns-in_default-clause-met t c =
    let none = nests_none c.operation.result c.in_default.not-Block c.in_default.not-Loop c.in_default.not-If c.in_default.not-IfElse in
    if_ok_map c.plain.result (λ (m : Stood) h. h ∙ ap (λ o. met_change o c.args.n) c.change_in.ensures ∙ plain_met c.args.c.now c.args.x.now _ _ c.args.n c.operation.ensures.operation none) c.plain.ensures

pub met_all-loop-x-init : goal.met_all-loop-x-init
met_all-loop-x-init t c = record { left = joined_zero _; same = refl }

pub met_all-loop-x-preserved : goal.met_all-loop-x-preserved
met_all-loop-x-preserved t c =
    let i = c.loop-x.invariant in
    record {
      left = i.left
          ∙ list_goes c.args.c.now c.args.xs.now c.loop-x.x-index c.x-item.result c.args.labels.now c.loop-x.after c.in-Some.next c.loop-x.most (met_seen c.in_ok-met.met) c.loop-x-test.true c.x-item.is
          (c.in_ok-met.ensures.met ∙ ap (λ (ls : Labels). met_of c.args.c.now c.x-item.result ls c.loop-x.after) i.same) c.in-Some.is
          ∙ ap (λ (k : ℕ). joined k (met_list (met_of c.args.c.now) (drop (c.loop-x.x-index + 1) c.args.xs.now) c.args.labels.now c.in-Some.next)) (sym c.max-most.ensures);
      same = c.in_ok-met.ensures.same ∙ i.same;
    }

pub met_all-returns-in_default-clause-met : goal.met_all-returns-in_default-clause-met
met_all-returns-in_default-clause-met t c =
    let i = c.loop-x.invariant in
    sym (i.left
    ∙ list_stops c.args.c.now c.args.xs.now c.loop-x.x-index c.x-item.result c.args.labels.now c.loop-x.after c.loop-x.most (met_seen c.in_ok-met.met) c.loop-x-test.true c.x-item.is
    (c.in_ok-met.ensures.met ∙ ap (λ (ls : Labels). met_of c.args.c.now c.x-item.result ls c.loop-x.after) i.same) c.in_default.is
    ∙ ap (λ (k : ℕ). record { after = None; most = k }) (sym c.max-most.ensures))

pub met_all-returns-clause-met : goal.met_all-returns-clause-met
met_all-returns-clause-met t c =
    sym (c.loop-x.invariant.left
    ∙ list_ends c.args.c.now c.args.xs.now c.loop-x.x-index c.args.labels.now c.loop-x.after c.loop-x.most c.loop-x-test.false
    ∙ ap (λ (k : ℕ). record { after = Some c.loop-x.after; most = k }) (sym c.max.ensures))
