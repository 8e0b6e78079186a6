-- The rows, computed.
use Rattle.std.proofs.Common.{refl, rules, arith}
use Rattle.rich_types.specs.Walks.{below_location, below_variable}
use Rattle.rich_types.specs.Rows.{WorkedSizes, WorkedForms, WorkedInstances}
use Rattle.rw_types.specs.declared.types.Heap.TheBlock.{hidden-the_row-Ty-1, hidden-the_row-Ty-2, hidden-the_row-Slot-0, hidden-the_row-FunType-3}

pub sizes : WorkedSizes
unfolding hidden-the_row-Ty-1 hidden-the_row-Ty-2 hidden-the_row-Slot-0 hidden-the_row-FunType-3 denote.Hole.Carrier.hidden
sizes = record { unit_size = refl; short_size = refl; long_size = refl; address_size = refl; reference_size = refl; function_size = refl; capability_size = refl; own_size = refl; tuple_size = refl; hidden_size = refl; recursive_size = refl; inner_size = refl; outer_size = refl; large_size = refl; inner_qual = refl; outer_qual = refl; recursive_qual = refl; struct_words = refl; variant_words = refl; no_case_words = refl; array_words = refl; package_words = refl }

pub forms : WorkedForms
unfolding hidden-the_row-Ty-1 hidden-the_row-Ty-2 hidden-the_row-Slot-0 hidden-the_row-FunType-3 denote.Hole.Carrier.hidden
forms = record {
  cell_form = search rules;
  closure_form = search rules;
  list_form = search rules;
  function_form = search rules;
  greatest_variable = search rules;
  linear_case = search rules;
  linear_slot = search rules;
  free_location = λ h. (let e = h.1 in cc);
  free_variable = λ h. h;
  free_in_function = λ h. (let e = h.1.0.2.0.1 in cc);
  large_variable = λ h. absurd (omega arith);
  large_tuple = λ h. absurd (omega (arith, h.0));
  large_variant = λ h. absurd (omega (arith, h.1.0.1.1.0));
  linear_part = λ h. h.1.1;
  linear_body = λ h. h.1.1;
  unrestricted_capability = λ h. (let e = h.1.0.0 in cc);
  capability_elsewhere = λ h. (let e = h.1.0.1 in cc);
  own_elsewhere = λ h. (let e = h.1.1 in cc);
  unrestricted_reference = λ h. (let e = h.1.0 in cc);
  reading_reference = λ h. (let e = h.1.0 in cc);
  body_of_other_size = λ h. absurd (omega (arith, h.2.1));
  body_of_other_qualifier = λ h. (let e = h.2.0 in cc);
  small_slot = λ h. absurd (omega (arith, h.1.1.1.1));
  linear_element = λ h. h.1.1.2;
  linear_case_elsewhere = λ h. h.1.1.1.1;
  linear_package_elsewhere = λ h. h.1.1.2;
}

pub instances : WorkedInstances
unfolding hidden-the_row-Ty-1 hidden-the_row-Ty-2 hidden-the_row-Slot-0 hidden-the_row-FunType-3 below_location below_variable denote.Hole.Carrier.hidden
instances = record { raised = refl; raised_below = refl; unfolded = refl; packed = refl; in_order = refl; apart = refl; put_below = refl; put_in_function = refl; put_in_package = refl }
