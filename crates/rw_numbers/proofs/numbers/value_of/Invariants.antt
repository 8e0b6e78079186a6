use Rattle.std.proofs.Common.{◌≡◌, drop}
use Rattle.rich_text.specs.Numbers.{value_after}
use Rattle.rw_numbers.proofs.numbers.value_of.Given as goal

abbrev pub invariant-loop-digit : goal.invariant-loop-digit
invariant-loop-digit l = value_after 0 l.digits ≡ value_after l.value (drop l.digit-index l.digits)
