-- What number instructions take and give, by the widths of numbers (WebAssembly Core Specification 1.0, section 3.3.1).
use Rattle.rw_types.specs.declared.types.Ty.{Ty}
use Rattle.rich_rules.specs.Numbers.{NumSig, convert, unary, binary, test, compare}
use Rattle.rich_rules.specs.Takers.{unr_i32, unr_i64}
use Rattle.rw_plain_rows.specs.declared.numbers.Width.{Width}
use Rattle.rw_plain_rows.specs.declared.numbers.Width.TheVariants.{W32, W64}
use Rattle.rw_plain_rows.specs.declared.numbers.Shape.{Shape}
use Rattle.rw_plain_rows.specs.declared.numbers.Shape.TheVariants.{Test, Compare, Unary, Binary, Convert}

-- the type of numbers of a width
abbrev pub number : Width → Ty
number W32 = unr_i32
number W64 = unr_i64

-- what is taken and given
abbrev pub sig_of : Shape → NumSig
sig_of (Test w) = test (number w)
sig_of (Compare w) = compare (number w)
sig_of (Unary w) = unary (number w)
sig_of (Binary w) = binary (number w)
sig_of (Convert v w) = convert (number v) (number w)
