use Rattle.std.proofs.Common.{◌∙◌, ◌^◌, ap, Err}
use Rattle.wasm_grammar.specs.CanonicalModules.{module_bytes}
use Rattle.wasm_codec.proofs.ContentLengths.{not_canonical}
use Rattle.wasm_codec.proofs.SameBytes.{same_bytes, never_true}
use Rattle.wasm_codec.proofs.canonical.is_canonical.Goals as goal

pub returns-in-Ok : goal.returns-in-Ok
returns-in-Ok c =
    record { canonical = same_bytes (module_bytes c.args.m.now) c.args.bytes.now c.as_slice.result.now c.eq.result c.eq.ensures (c.as_slice.ensures.value ∙ c.in-Ok.ensures.bytes) }

pub returns-in-Err-TooLong : goal.returns-in-Err-TooLong
returns-in-Err-TooLong c =
    let id = c.in-Err-TooLong.field-0-0 in
    let long = c.in-Err-TooLong.ensures.long id (ap Err c.in-Err-TooLong.field-0-is) in
    record { canonical = never_true (not_canonical c.args.m.now id (2 ^ 32) c.args.bytes.now long.0 c.requires.short) }
