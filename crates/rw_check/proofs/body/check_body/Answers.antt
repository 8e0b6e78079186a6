-- Each instruction adds one step and one note to the derivation, or breaks its rule.
use Rattle.std.proofs.Common.{arith, refl, []}
use Rattle.rw_types.specs.LoneMain.{IsPlain}
use Rattle.rich_typing.specs.Derivations.{Derives, done}
use Rattle.rich_typing.specs.Table.{i64s}
use Rattle.rw_check.proofs.Counted.{derives_more, derives_whole, breaks_at, breaks_at_end, tells_body}
use Rattle.rw_check.proofs.PlainLists.{plain_at}
use Rattle.rw_check.proofs.body.check_body.Goals as goal

pub loop-at-init : goal.loop-at-init
loop-at-init c = record { derived = done c.new-notes.ensures refl; few = omega arith }

pub taken_by-taken-requires : goal.taken_by-taken-requires
taken_by-taken-requires c = rw c.index-body-at.is (plain_at _ _ c.index-body-at.result c.requires.plain c.loop-at-test.true)

pub returns-then-operands-taken : goal.returns-then-operands-taken
returns-then-operands-taken c =
    let plain : IsPlain c.index-body-at.result = rw c.index-body-at.is (plain_at c.args.body.now c.loop-at.at c.index-body-at.result c.requires.plain c.loop-at-test.true) in
    tells_body c.refused.result c.refused.ensures (breaks_at c.args.body.now c.loop-at.at c.index-body-at.result c.loop-at-test.true c.index-body-at.is c.loop-at.invariant.derived plain c.taken_by-taken.ensures c.if-operands-taken.true)

pub given_by-operands-requires : goal.given_by-operands-requires
given_by-operands-requires c = rw c.index-body-at.is (plain_at _ _ c.index-body-at.result c.requires.plain c.loop-at-test.true)

pub loop-at-preserved : goal.loop-at-preserved
loop-at-preserved c =
    let plain : IsPlain c.index-body-at.result = rw c.index-body-at.is (plain_at c.args.body.now c.loop-at.at c.index-body-at.result c.requires.plain c.loop-at-test.true) in
    let e = c.in_ok-push_note.ensures in
    record {
      derived = derives_more c.args.body.now c.loop-at.at c.index-body-at.result c.loop-at-test.true c.index-body-at.is c.loop-at.invariant.derived plain c.taken_by-taken.ensures c.given_by-operands.ensures.count c.if-operands-taken.false refl e;
      few = omega arith;
    }

pub returns-then-operands-ne1 : goal.returns-then-operands-ne1
returns-then-operands-ne1 c =
    let whole : Derives [] c.args.body.now [] c.loop-at.notes (i64s c.loop-at.operands) = derives_whole c.args.body.now c.loop-at.at c.loop-at-test.false c.loop-at.invariant.derived in
    tells_body c.refused-then-operands-ne1.result c.refused-then-operands-ne1.ensures (breaks_at_end c.args.body.now whole c.if-operands-ne1.true)
