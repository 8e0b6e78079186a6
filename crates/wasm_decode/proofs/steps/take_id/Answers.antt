use Rattle.std.proofs.Common.{refl}
use Rattle.std.proofs.lemmas.Bool.{ne_eqb, le-ltb, lt-leb}
use Rattle.wasm_decode.proofs.Advancing.{custom_begins, section_begins}
use Rattle.wasm_decode.proofs.steps.take_id.Goals as goal

pub returns-then-byte-eq0-clause-advances : goal.returns-then-byte-eq0-clause-advances
returns-then-byte-eq0-clause-advances c = λ m. custom_begins c.args.byte c.args.at c.args.last m _ c.unsigned.ensures c.if-byte-eq0.true

pub returns-then-byte-eq0-clause-begins : goal.returns-then-byte-eq0-clause-begins
returns-then-byte-eq0-clause-begins c = λ zero. (c.unsigned.result, refl, c.unsigned.ensures)

pub returns-clause-advances : goal.returns-clause-advances
returns-clause-advances c = λ m.
    section_begins c.args.byte c.args.at c.args.last m _ c.unsigned-2.ensures (ne_eqb _ _ c.if-byte-eq0.false) (le-ltb _ _ c.if-byte-gt-LAST_ID.false) (lt-leb _ _ c.if-byte-last.false)

pub returns-clause-begins : goal.returns-clause-begins
returns-clause-begins c = λ zero. absurd (c.if-byte-eq0.false zero)
