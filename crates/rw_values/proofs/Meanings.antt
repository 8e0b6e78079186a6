-- What values that hold others mean, by what these mean.
use Rattle.std.proofs.Common.{◌≡◌, List, map, refl, ap, ◌∙◌}
use Rattle.rich_reduction.specs.Configurations as rich
use Rattle.rich_reduction.specs.Values.{parts_of}
use Rattle.rw_values.specs.declared.value.Value.{Value, Tuple, Fold, Pack, Row_of-Value, end_of-Value, more_of-Value, items-the_row-Value, items_hidden-the_row-Value-0}
use Rattle.rw_values.specs.declared.value.Value.TheBlock.{hidden-the_row-Value-0}
use Rattle.rw_values.specs.Values.{value_of, values_of}

values_of-items : {n : _} (row : Row_of-Value n) → values_of row ≡ parts_of (map value_of (items-the_row-Value _ row))
values_of-items end_of-Value = refl
values_of-items (more_of-Value v rest) = ap (λ (vs : rich.Vals). rich.more (value_of v) vs) (values_of-items rest)

pub tuple_means : (v : _) → value_of (Tuple v) ≡ rich.Tuple (parts_of (map value_of v.items))
tuple_means v = ap rich.Tuple (values_of-items (hidden-the_row-Value-0 v) ∙ ap (λ (vs : List Value). parts_of (map value_of vs)) (items_hidden-the_row-Value-0 v))

pub fold_means : (b : _) → value_of (Fold b) ≡ rich.Fold (value_of b.value)
fold_means b = refl

pub pack_means : (b : _) → value_of (Pack b) ≡ rich.Pack (value_of b.value)
pack_means b = refl
