-- The rows, computed.
use Rattle.std.proofs.Common.{refl}
use Rattle.heap_blocks.specs.Rows.{TwoInTurn, LastInFirstOut, Splits, Broken}

pub two_in_turn : TwoInTurn
two_in_turn = record {
  first = record { block = _; fits = refl; address = refl; words = refl };
  second = record { block = _; fits = refl; address = refl; words = refl };
  read = refl;
}

pub last_in_first_out : LastInFirstOut
last_in_first_out = record {
  first = record { block = _; fits = refl; address = refl; words = refl };
  second = record { block = _; fits = refl; address = refl; words = refl };
  third = record { block = _; fits = refl; address = refl; words = refl };
  again = record { block = _; fits = refl; address = refl; words = refl };
  read = refl;
  walk = refl;
}

pub splits : Splits
splits = record {
  all = record { block = _; fits = refl; address = refl; words = refl };
  one_more = record { block = _; fits = refl; address = refl; words = refl };
  rest = record { block = _; fits = refl; address = refl; words = refl };
  passed = record { block = _; fits = refl; address = refl; words = refl };
  none = refl;
}

pub broken : Broken
broken = record { misaligned = refl; low = refl; high = refl; last = refl; round = refl; empty = refl }
