use Rattle.std.proofs.Common.{◌≡◌, true, false, arith, sym, ◌∙◌, ap, subst, None, Some}
use Rattle.std.specs.Fmt.{decimal}
use Rattle.std.specs.Result.{result_ok}
use Rattle.std.proofs.lemmas.Slice.Eq.{bytes_eq-Decides}
use Rattle.words.specs.Words.{IsNumber}
use Rattle.words.specs.Found.{Finds}
use Rattle.words.proofs.Decimals.{parsed}
use Rattle.words.proofs.numbers.number.Goals.{else-eq-via-then-eq+then-least-n+else-n-greatest, else-eq-via-then-eq+else-least-n, else-eq-via-else-eq}
use Rattle.words.proofs.numbers.number.Goals as goal

pub returns-in_err-n-clause-number : goal.returns-in_err-n-clause-number
returns-in_err-n-clause-number c =
    subst (Finds (IsNumber c.args.least c.args.greatest c.args.text.now)) (sym c.from_residual.ensures)
    (λ n is.
    let e = parsed c.args.least c.args.greatest c.args.text.now c.parse.result c.ranges.greatest.fits c.parse.ensures.value.0 n is in
    let bad : None ≡ Some n = c.in_err-n.ensures.value ∙ ap result_ok e in absurd cc)

pub returns-else-eq-clause-number : goal.returns-else-eq-clause-number
returns-else-eq-clause-number c n is =
    let e = parsed c.args.least c.args.greatest c.args.text.now c.parse.result c.ranges.greatest.fits c.parse.ensures.value.0 n is in
    let found : Some c.in_ok-n.n ≡ Some n = c.in_ok-n.ensures.value ∙ ap result_ok e in
    let same : c.in_ok-n.n ≡ n = cc in
    elim c.else-eq.branch [
      | else-eq-via-then-eq+then-least-n+else-n-greatest w ↦ omega (arith, same, is.high, w.if-n-greatest.false)
      | else-eq-via-then-eq+else-least-n w ↦ omega (arith, same, is.low, w.if-least-n.false)
      | else-eq-via-else-eq w ↦
          let text : c.format.result.now ≡ c.args.text.now = c.format.ensures.text ∙ ap decimal same ∙ sym is.text_is in
          let bad : false ≡ true = w.if-eq.ensures ∙ (bytes_eq-Decides c.format.result.now c.args.text.now).1 text in absurd cc
    ]
