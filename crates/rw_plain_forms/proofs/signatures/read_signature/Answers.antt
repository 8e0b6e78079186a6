use Rattle.std.proofs.Common.{arith}
use Rattle.rw_parser.proofs.Composing.{first_fails, later_fails}
use Rattle.rw_plain_forms.proofs.SignatureFields.{handed_signature}
use Rattle.rw_plain_forms.proofs.signatures.read_signature.Goals as goal

pub returns-in_err-params : goal.returns-in_err-params
returns-in_err-params c = handed_signature _ _ c.from_residual.result _ c.from_residual.ensures.1 (λ f. first_fails c.in_err-params.ensures)

pub returns-in_err-results : goal.returns-in_err-results
returns-in_err-results c = handed_signature _ _ c.from_residual-in_err-results.result _ c.from_residual-in_err-results.ensures.1 (λ f. later_fails c.in_ok-params.ensures (first_fails c.in_err-results.ensures))

pub returns-in_err-locals : goal.returns-in_err-locals
returns-in_err-locals c = handed_signature _ _ c.from_residual-in_err-locals.result _ c.from_residual-in_err-locals.ensures.1 (λ f. later_fails c.in_ok-params.ensures (later_fails c.in_ok-results.ensures (first_fails c.in_err-locals.ensures)))

pub returns : goal.returns
returns c = record {
  behind_params = _;
  behind_results = _;
  params = c.in_ok-params.ensures;
  results = c.in_ok-results.ensures;
  locals = c.in_ok-locals.ensures;
  depth = let x = c.in_ok-params.ensures.depth in let y = c.in_ok-results.ensures.depth in let z = c.in_ok-locals.ensures.depth in omega arith;
  shorter = let x = c.in_ok-params.ensures.shorter in let y = c.in_ok-results.ensures.shorter in let z = c.in_ok-locals.ensures.shorter in omega arith;
}
