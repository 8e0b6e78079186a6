use Rattle.std.proofs.Common.{◌≡◌, ◌∙◌, refl, true, false}
use Rattle.std.specs.Prelude.{is_some}
use Rattle.std.proofs.lemmas.Result.{err_from_is_err_and}
use Rattle.wasm_ast.specs.Operations.{operation_in}
use Rattle.wasm_ast.specs.OperationViews.{operation_seen}
use Rattle.wasm_ast.specs.declared.instructions.WInstr.{out-WInstr}
use Rattle.wasm_operands.specs.Taking.{seen_of}
use Rattle.wasm_checking.proofs.Judging.{on_ok-map, goes_as, breaks_as, block_goes, block_breaks, loop_goes, loop_breaks, if_goes, if_breaks, lacks_else, if_else_goes, first_arm_breaks, second_arm_breaks, goes_under, breaks_under, ends_under, breaks_end_under, list_goes, list_breaks, none_of, checked_err, plain_done, plain_refused, nests_none, at_item}
use Rattle.wasm_checking.proofs.Operations.{block_tokens, loop_tokens, if_tokens, if_else_tokens}
use Rattle.wasm_checking.proofs.body.+body.Goals as goal

pub check_one-returns-in-Block-clause-goes : goal.check_one-returns-in-Block-clause-goes
check_one-returns-in-Block-clause-goes t c = on_ok-map _ c.check_block.ensures.goes (λ g. goes_as (block_tokens _ _ _ c.in-Block.ensures.operation) g)

pub check_one-returns-in-Block-clause-broken : goal.check_one-returns-in-Block-clause-broken
check_one-returns-in-Block-clause-broken t c = λ r e. breaks_as (block_tokens _ _ _ c.in-Block.ensures.operation) (c.check_block.ensures.broken r e)

pub check_one-returns-in-Loop-clause-goes : goal.check_one-returns-in-Loop-clause-goes
check_one-returns-in-Loop-clause-goes t c = on_ok-map _ c.check_loop.ensures.goes (λ g. goes_as (loop_tokens _ _ _ c.in-Loop.ensures.operation) g)

pub check_one-returns-in-Loop-clause-broken : goal.check_one-returns-in-Loop-clause-broken
check_one-returns-in-Loop-clause-broken t c = λ r e. breaks_as (loop_tokens _ _ _ c.in-Loop.ensures.operation) (c.check_loop.ensures.broken r e)

pub check_one-returns-in-If-clause-goes : goal.check_one-returns-in-If-clause-goes
check_one-returns-in-If-clause-goes t c = on_ok-map _ c.check_if.ensures.goes (λ g. goes_as (if_tokens _ _ _ c.in-If.ensures.operation) g)

pub check_one-returns-in-If-clause-broken : goal.check_one-returns-in-If-clause-broken
check_one-returns-in-If-clause-broken t c = λ r e. breaks_as (if_tokens _ _ _ c.in-If.ensures.operation) (c.check_if.ensures.broken r e)

pub check_one-returns-in-IfElse-clause-goes : goal.check_one-returns-in-IfElse-clause-goes
check_one-returns-in-IfElse-clause-goes t c = on_ok-map _ c.check_if_else.ensures.goes (λ g. goes_as (if_else_tokens _ _ _ _ c.in-IfElse.ensures.operation) g)

pub check_one-returns-in-IfElse-clause-broken : goal.check_one-returns-in-IfElse-clause-broken
check_one-returns-in-IfElse-clause-broken t c = λ r e. breaks_as (if_else_tokens _ _ _ _ c.in-IfElse.ensures.operation) (c.check_if_else.ensures.broken r e)

pub check_one-returns-in_ok-plain-in_default : goal.check_one-returns-in_ok-plain-in_default
check_one-returns-in_ok-plain-in_default t c =
    let none = nests_none c.operation.result c.in_default.not-Block c.in_default.not-Loop c.in_default.not-If c.in_default.not-IfElse in
    let eo : operation_seen c.operation.result ≡ operation_in (out-WInstr c.args.x.now) = c.operation.ensures.operation in
    record {
      goes = on_ok-map c.advance.result c.advance.ensures.ok (λ h. plain_done c.args.x.now (operation_seen c.operation.result) eo none c.in_ok-plain-in_default.ensures h);
      same = on_ok-map c.advance.result c.advance.ensures.ok (λ h. refl);
      broken = λ r e. absurd (c.advance.ensures.broken r e);
    }

pub check_one-returns-in_err-plain-in_default : goal.check_one-returns-in_err-plain-in_default
check_one-returns-in_err-plain-in_default t c =
    let none = nests_none c.operation.result c.in_default.not-Block c.in_default.not-Loop c.in_default.not-If c.in_default.not-IfElse in
    let eo : operation_seen c.operation.result ≡ operation_in (out-WInstr c.args.x.now) = c.operation.ensures.operation in
    let p = err_from_is_err_and c.from_residual.result c.from_residual.ensures.1 in
    rw (p.1, p.2) (record {
      goes = tt;
      same = tt;
      broken = λ r e. plain_refused c.args.x.now (operation_seen c.operation.result) eo none (checked_err c.args.c.now c.args.labels.now (operation_seen c.operation.result) (seen_of c.args.top.now) (seen_of c.plain.new.top) c.plain.result r c.plain.ensures (c.in_err-plain-in_default.was ∙ e));
    })

pub check_list-returns-in_err-check_one-clause-broken : goal.check_list-returns-in_err-check_one-clause-broken
check_list-returns-in_err-check_one-clause-broken t c =
    let p = err_from_is_err_and c.from_residual.result c.from_residual.ensures.1 in rw (p.1, p.2) (λ r e. list_breaks c.args.xs.now c.loop-x.x-index c.x-item.result (at_item _ _ _ c.loop-x-test.true c.x-item.is) c.loop-x.invariant.gone (breaks_under c.loop-x.invariant.same (c.in_err-check_one.ensures.broken r e)))

pub check_list-loop-x-preserved : goal.check_list-loop-x-preserved
check_list-loop-x-preserved t c =
    record { gone = list_goes c.args.xs.now c.loop-x.x-index c.x-item.result (at_item _ _ _ c.loop-x-test.true c.x-item.is) c.loop-x.invariant.gone (goes_under c.loop-x.invariant.same c.in_ok-check_one.ensures.goes); same = c.in_ok-check_one.ensures.same ∙ c.loop-x.invariant.same }

pub check_block-returns-clause-goes : goal.check_block-returns-clause-goes
check_block-returns-clause-goes t c = on_ok-map _ c.hand.ensures.ok (λ h. block_goes c.in_ok-advance.ensures.ok c.in_ok-check_arm.ensures.ends c.in_ok-advance-2.ensures.ok h)

pub check_block-returns-in_err-check_arm-clause-broken : goal.check_block-returns-in_err-check_arm-clause-broken
check_block-returns-in_err-check_arm-clause-broken t c =
    let p = err_from_is_err_and c.from_residual-in_err-check_arm.result c.from_residual-in_err-check_arm.ensures.1 in rw (p.1, p.2) (λ r e. block_breaks c.in_ok-advance.ensures.ok (c.in_err-check_arm.ensures.broken r e))

pub check_loop-returns-clause-goes : goal.check_loop-returns-clause-goes
check_loop-returns-clause-goes t c = on_ok-map _ c.hand.ensures.ok (λ h. loop_goes c.in_ok-advance.ensures.ok c.in_ok-check_arm.ensures.ends c.in_ok-advance-2.ensures.ok h)

pub check_loop-returns-in_err-check_arm-clause-broken : goal.check_loop-returns-in_err-check_arm-clause-broken
check_loop-returns-in_err-check_arm-clause-broken t c =
    let p = err_from_is_err_and c.from_residual-in_err-check_arm.result c.from_residual-in_err-check_arm.ensures.1 in rw (p.1, p.2) (λ r e. loop_breaks c.in_ok-advance.ensures.ok (c.in_err-check_arm.ensures.broken r e))

pub check_if-returns-clause-goes : goal.check_if-returns-clause-goes
check_if-returns-clause-goes t c =
    let n : is_some c.args.t ≡ false = (cc) in on_ok-map _ c.advance-2.ensures.ok (λ h. if_goes c.in_ok-take.ensures.ok c.in_ok-advance.ensures.ok c.in_ok-check_arm.ensures.ends (none_of _ n) h)

pub check_if-returns-in_err-check_arm-clause-broken : goal.check_if-returns-in_err-check_arm-clause-broken
check_if-returns-in_err-check_arm-clause-broken t c =
    let p = err_from_is_err_and c.from_residual-in_err-check_arm.result c.from_residual-in_err-check_arm.ensures.1 in rw (p.1, p.2) (λ r e. if_breaks c.in_ok-take.ensures.ok c.in_ok-advance.ensures.ok (c.in_err-check_arm.ensures.broken r e))

pub check_if-returns-then-is_some-clause-broken : goal.check_if-returns-then-is_some-clause-broken
check_if-returns-then-is_some-clause-broken t c =
    let n : is_some c.args.t ≡ true = (cc) in λ r e. lacks_else c.in_ok-take.ensures.ok c.in_ok-advance.ensures.ok c.in_ok-check_arm.ensures.ends n (cc)

pub check_if_else-returns-clause-goes : goal.check_if_else-returns-clause-goes
check_if_else-returns-clause-goes t c =
    on_ok-map _ c.hand.ensures.ok (λ h. if_else_goes c.in_ok-take.ensures.ok c.in_ok-advance.ensures.ok c.in_ok-check_arm.ensures.ends c.in_ok-advance-2.ensures.ok (ends_under c.in_ok-check_arm.ensures.same c.in_ok-check_arm-2.ensures.ends) c.in_ok-advance-3.ensures.ok h)

pub check_if_else-returns-in_err-check_arm-clause-broken : goal.check_if_else-returns-in_err-check_arm-clause-broken
check_if_else-returns-in_err-check_arm-clause-broken t c =
    let p = err_from_is_err_and c.from_residual-in_err-check_arm.result c.from_residual-in_err-check_arm.ensures.1 in rw (p.1, p.2) (λ r e. first_arm_breaks _ c.in_ok-take.ensures.ok c.in_ok-advance.ensures.ok (c.in_err-check_arm.ensures.broken r e))

pub check_if_else-returns-in_err-check_arm-2-clause-broken : goal.check_if_else-returns-in_err-check_arm-2-clause-broken
check_if_else-returns-in_err-check_arm-2-clause-broken t c =
    let p = err_from_is_err_and c.from_residual-in_err-check_arm-2.result c.from_residual-in_err-check_arm-2.ensures.1 in rw (p.1, p.2) (λ r e. second_arm_breaks c.in_ok-take.ensures.ok c.in_ok-advance.ensures.ok c.in_ok-check_arm.ensures.ends c.in_ok-advance-2.ensures.ok (breaks_end_under _ _ _ _ _ _ c.in_ok-check_arm.ensures.same (c.in_err-check_arm-2.ensures.broken r e)))
