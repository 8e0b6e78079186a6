-- The value of the reduction that one in code means. This project's own.
use Rattle.rich_reduction.specs.Configurations as rich
use Rattle.rw_values.specs.declared.value.Location as code
use Rattle.rw_values.specs.declared.value.Value.{Value, Number, Empty, Tuple', Ref, Ptr, Cap, Own, Fold', Pack', Code, Row_of-Value, end_of-Value, more_of-Value}

abbrev pub location_of : code.Location → rich.Location
location_of l = record { mem = l.mem; number = l.number }

abbrev mutual
  pub value_of : Value → rich.Val
  value_of (Number n) = rich.Number n
  value_of Empty = rich.Empty
  value_of (Tuple' shape parts) = rich.Tuple (values_of parts)
  value_of (Ref l p) = rich.Ref (location_of l) p
  value_of (Ptr l) = rich.Ptr (location_of l)
  value_of (Cap l p) = rich.Cap (location_of l) p
  value_of (Own l) = rich.Own (location_of l)
  value_of (Fold' p v) = rich.Fold (value_of v)
  value_of (Pack' p v) = rich.Pack (value_of v)
  value_of (Code f) = rich.Code f

  pub values_of : {n : _} → Row_of-Value n → rich.Vals
  values_of end_of-Value = rich.none
  values_of (more_of-Value v rest) = rich.more (value_of v) (values_of rest)
