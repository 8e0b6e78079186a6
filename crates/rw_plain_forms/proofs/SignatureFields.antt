-- What stands behind a signature, with it.
use Rattle.std.proofs.Common.{◌≡◌, subst, sym, Result}
use Rattle.std.specs.Prelude.{MatchResult}
use Rattle.std.specs.Result.{IsErrAnd}
use Rattle.std.proofs.lemmas.Result.{err_from_is_err_and}
use Rattle.rw_types.specs.declared.instrs.BlockSig.{BlockSig}
use Rattle.rich_text.specs.Grammars.{Fields, FieldsValue}
use Rattle.rw_parser.specs.declared.errors.ReadError.{ReadError}
use Rattle.rw_parser.specs.Reads.{Fails, Gave, Parse, the_fields}
use Rattle.rw_parser.proofs.Composing.{later_fails, one_gave}
use Rattle.rw_plain_forms.specs.Signatures.{FailsAtSignature, TookSignature, signature_before}

pub signature_gave : {f : Fields} {old mid new : Parse} {s : BlockSig} {v : FieldsValue f} → TookSignature old mid s → Gave (the_fields f) 1 mid new v → Gave (the_fields (signature_before f)) 1 old new (s.params, (s.results, (s.locals, v)))
signature_gave t g = one_gave t.params (one_gave t.results (one_gave t.locals g))

pub behind_signature_fails : {f : Fields} {old mid : Parse} {s : BlockSig} {e : ReadError} → TookSignature old mid s → Fails (the_fields f) mid e → Fails (the_fields (signature_before f)) old e
behind_signature_fails t h = later_fails t.params (later_fails t.results (later_fails t.locals h))

-- an error that is handed on
pub handed_signature : (old new : Parse) (r : Result BlockSig ReadError) (e : ReadError) → IsErrAnd r (λ y. y ≡ e) → FailsAtSignature old e → MatchResult r (TookSignature old new) (FailsAtSignature old)
handed_signature old new r e h g =
    let p = err_from_is_err_and r h in
    let S : Result BlockSig ReadError → Type 0 = λ s. MatchResult s (TookSignature old new) (FailsAtSignature old) in
    let Q : ReadError → Type 0 = λ y. FailsAtSignature old y in
    subst S (sym p.1) (subst Q (sym p.2) g)
