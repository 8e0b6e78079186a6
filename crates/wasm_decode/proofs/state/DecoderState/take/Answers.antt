use Rattle.std.proofs.Common.{◌++◌, take, arith}
use Rattle.std.proofs.lemmas.Bool.{false≢true}
use Rattle.wasm_decode.proofs.LyingInCustom.{lies_at}
use Rattle.wasm_decode.proofs.Stopping.{stops_at}
use Rattle.wasm_decode.proofs.state.DecoderState.take.Goals as goal

pub returns-in_err-push-clause-err : goal.returns-in_err-push-clause-err
returns-in_err-push-clause-err c =
    stops_at c.args.self.now c.loop-byte.self c.args.piece.now c.loop-byte.byte-index _ _ c.from_residual.result c.from_residual.ensures.1 c.loop-byte-test.true c.loop-byte.invariant.resumes c.in_err-push.ensures.err

pub returns-in_err-push-clause-in_custom : goal.returns-in_err-push-clause-in_custom
returns-in_err-push-clause-in_custom c = λ fed s lies small.
    let before = s.place in
    let place = c.loop-byte.invariant.place in
    let less = c.loop-byte-test.true in
    absurd (false≢true (c.in_err-push.ensures.in_custom (fed ++ take c.loop-byte.byte-index c.args.piece.now) (c.loop-byte.invariant.stands fed s) (lies_at fed c.args.piece.now c.loop-byte.byte-index _ less lies) (omega (arith, before, place, small, less))))
