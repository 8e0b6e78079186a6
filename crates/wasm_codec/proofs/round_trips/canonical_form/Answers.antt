use Rattle.std.proofs.Common.{ap, sym, subst, Err}
use Rattle.wasm_ast.specs.declared.modules.WModule.{WModule}
use Rattle.wasm_grammar.specs.GrammarModules.{SpellsModule}
use Rattle.wasm_encode.specs.declared.error.EncodeError.TheVariants.{TooLong}
use Rattle.wasm_codec.proofs.RoundTrips.{spelled, never_too_long, encode_cause}
use Rattle.wasm_codec.proofs.round_trips.canonical_form.Goals as goal

pub returns-in_err-encode-clause-fits : goal.returns-in_err-encode-clause-fits
returns-in_err-encode-clause-fits c = λ id k.
    let cause = encode_cause c.from_residual-in_err-encode.result c.in_err-encode.field-0.0 (TooLong id) c.from_residual-in_err-encode.ensures.1 k in
    let p = subst (λ (m : WModule). SpellsModule c.args.bytes.now m) (sym c.module.ensures.value) c.in_ok-decoded.ensures.spelled in
    never_too_long c.module.result.now c.args.bytes.now id p (c.in_err-encode.ensures.long id (ap Err cause))

pub returns-clause-form : goal.returns-clause-form
returns-clause-form c =
    let p = subst (λ (m : WModule). SpellsModule c.args.bytes.now m) (sym c.module.ensures.value) c.in_ok-decoded.ensures.spelled in
    record {
      of = c.module.result.now;
      spelled = p;
      fits = c.in_ok-encode.ensures.fits;
      canonical = c.in_ok-encode.ensures.bytes;
      again = spelled c.module.result.now c.in_ok-encode.field-0.items c.in_ok-encode.ensures.bytes p.profile c.in_ok-encode.ensures.fits;
    }
