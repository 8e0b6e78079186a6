use Rattle.std.proofs.Common.{◌∙◌, sym}
use Rattle.rw_numbers.proofs.Values.{too_great}
use Rattle.rw_numbers.proofs.numbers.value_of.Goals as goal

pub returns-in_default : goal.returns-in_default
returns-in_default c =
    (sym c.are_digits.ensures ∙ c.if-not-are_digits.false, too_great c.args.digits.now c.loop-digit.value c.loop-digit.digit-index c.loop-digit-test.true c.loop-digit.invariant c.in_default.ensures)
