-- The rows, computed.
use Rattle.std.proofs.Common.{refl}
use Rattle.rich_operators.specs.Rows.{WorkedOperators, WorkedWidths}

pub operators : WorkedOperators
operators = record { first_test = refl; first_comparison = refl; last_comparison = refl; first_count = refl; last_count = refl; sum = refl; quotient = refl; last_rotation = refl; wrapped = refl; extended = refl }

pub widths : WorkedWidths
widths = record { test_takes = refl; test_gives = refl; comparison_takes = refl; comparison_gives = refl; quotient_takes = refl; quotient_gives = refl; wrap_takes = refl; wrap_gives = refl; extension_takes = refl; extension_gives = refl }
