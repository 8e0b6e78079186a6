use Rattle.std.proofs.Common.{◌∙◌, ap, sym, Err}
use Rattle.wasm_encode.specs.declared.error.EncodeError.TheVariants.{TooLong}
use Rattle.wasm_codec.proofs.RoundTrips.{spelled, same, encode_cause, decode_cause}
use Rattle.wasm_codec.proofs.round_trips.round_trip.Goals as goal

pub returns-in_err-bytes-clause-long : goal.returns-in_err-bytes-clause-long
returns-in_err-bytes-clause-long c = λ id k.
    c.in_err-bytes.ensures.long id (ap Err (encode_cause c.from_residual.result c.in_err-bytes.field-0.0 (TooLong id) c.from_residual.ensures.1 k))

pub returns-in_err-decode-clause-memory : goal.returns-in_err-decode-clause-memory
returns-in_err-decode-clause-memory c = λ e k.
    let m = c.args.m.now in
    let fits = c.in_ok-bytes.ensures.fits in
    let p = spelled m c.as_slice.result.now (c.as_slice.ensures.value ∙ c.in_ok-bytes.ensures.bytes) c.requires fits in
    let cause = decode_cause c.from_residual-in_err-decode.result c.in_err-decode.field-0.0 e c.from_residual-in_err-decode.ensures.1 k in
    (sym cause ∙ c.in_err-decode.ensures.complete m p, fits)

pub returns-clause-same : goal.returns-clause-same
returns-clause-same c =
    same c.args.m.now c.in_ok-decode.field-0 c.as_slice.result.now (c.as_slice.ensures.value ∙ c.in_ok-bytes.ensures.bytes) c.requires c.in_ok-bytes.ensures.fits
    c.in_ok-decode.ensures.spelled
