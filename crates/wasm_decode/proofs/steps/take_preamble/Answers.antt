use Rattle.std.proofs.Common.{inr}
use Rattle.std.proofs.lemmas.Bool.{ne_eqb, eq-eqb}
use Rattle.wasm_decode.proofs.Advancing.{preamble_goes_on, preamble_breaks, preamble_over}
use Rattle.wasm_decode.proofs.steps.take_preamble.Goals as goal

pub returns-then-index-ge8-clause-advances : goal.returns-then-index-ge8-clause-advances
returns-then-index-ge8-clause-advances c = λ m. rw (preamble_over c.args.index c.args.last m c.if-index-ge8.true) (c.take_id.ensures.advances m)

pub returns-then-byte-index-clause-advances : goal.returns-then-byte-index-clause-advances
returns-then-byte-index-clause-advances c = λ m. inr (preamble_breaks c.args.index c.args.byte c.args.at c.args.last m _ _ c.if-index-ge8.false (ne_eqb _ _ c.if-byte-index.true) c.preamble_fault.ensures c.fault_at.ensures)

pub returns-clause-advances : goal.returns-clause-advances
returns-clause-advances c = λ m. preamble_goes_on c.args.index c.args.byte c.args.at c.args.last m c.if-index-ge8.false (eq-eqb _ _ c.if-byte-index.false)
