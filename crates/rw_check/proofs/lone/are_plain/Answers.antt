-- An instruction that is not plain stands in no list of plain ones.
use Rattle.std.proofs.Common.{IsTrue, subst, sym, refl}
use Rattle.rw_check.proofs.PlainLists.{plain_at, plain_more}
use Rattle.rw_check.proofs.lone.are_plain.Goals as goal

pub returns-then-not-is_plain : goal.returns-then-not-is_plain
returns-then-not-is_plain c = (λ t. cc, λ plain. subst IsTrue c.if-not-is_plain.true (c.is_plain.ensures.1 (rw c.instr-item.is (plain_at _ _ c.instr-item.result plain c.loop-instr-test.true))))

pub loop-instr-preserved : goal.loop-instr-preserved
loop-instr-preserved c = plain_more _ _ c.instr-item.result c.loop-instr-test.true c.instr-item.is c.loop-instr.invariant (c.is_plain.ensures.0 (subst IsTrue (sym c.if-not-is_plain.false) refl))
