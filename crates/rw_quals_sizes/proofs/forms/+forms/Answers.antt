-- What is said of the parts of a form is said of the form; what has too many words is not well formed.
use Rattle.rw_quals_sizes.specs.Chains.{scope_seen}
use Rattle.rw_quals_sizes.proofs.Formed.{tuple_formed, hidden_formed, code_formed, struct_formed, variant_formed, array_formed, exist_formed, rec_formed, rec_too_large, heap_too_large, slot_formed}
use Rattle.rw_quals_sizes.proofs.forms.+forms.Goals as goal

pub has_well_formed_content-returns-in-Struct : goal.has_well_formed_content-returns-in-Struct
has_well_formed_content-returns-in-Struct t c = struct_formed _ _ _ _ c.as_slice.ensures.items c.are_slots.ensures _ _ c.in-Struct.is

pub has_well_formed_content-returns-in-Variant : goal.has_well_formed_content-returns-in-Variant
has_well_formed_content-returns-in-Variant t c = variant_formed _ _ _ _ _ c.as_slice-in-Variant.ensures.items c.are_parts.ensures _ _ c.content.ensures c.in-Variant.is

pub has_well_formed_content-returns-in-Array : goal.has_well_formed_content-returns-in-Array
has_well_formed_content-returns-in-Array t c = array_formed _ _ _ _ c.get.ensures c.is_part.ensures _ _ c.in-Array.is

pub has_well_formed_content-returns-in-Exist : goal.has_well_formed_content-returns-in-Exist
has_well_formed_content-returns-in-Exist t c = exist_formed _ _ _ _ _ c.get-in-Exist.ensures _ c.is_part-in-Exist.ensures _ c.content-in-Exist.ensures _ _ _ c.in-Exist.is c.inside.ensures

pub is_slot-returns-then-is_well_formed : goal.is_slot-returns-then-is_well_formed
is_slot-returns-then-is_well_formed t c = slot_formed (scope_seen c.args.chain.now) c.args.slot.now.ty _ _ (c.is_well_formed.ensures.0 c.if-is_well_formed.true) c.size.ensures

pub is_well_formed-returns-then-s-le-MOST_WORDS : goal.is_well_formed-returns-then-s-le-MOST_WORDS
is_well_formed-returns-then-s-le-MOST_WORDS t c = rec_formed _ _ _ _ _ c.get.ensures _ _ c.if-s-le-MOST_WORDS.true c.is_well_formed_body.ensures _ c.in-Rec.is c.inside.ensures

pub is_well_formed-returns-else-s-le-MOST_WORDS : goal.is_well_formed-returns-else-s-le-MOST_WORDS
is_well_formed-returns-else-s-le-MOST_WORDS t c = rec_too_large _ _ _ _ _ c.in-Rec.is c.if-s-le-MOST_WORDS.false

pub is_well_formed_heap-returns-else-words-le-MOST_WORDS : goal.is_well_formed_heap-returns-else-words-le-MOST_WORDS
is_well_formed_heap-returns-else-words-le-MOST_WORDS t c = heap_too_large (scope_seen c.args.chain.now) c.args.memory c.args.heap.now _ c.words.ensures c.if-words-le-MOST_WORDS.false

pub is_well_formed_pre-returns-in-Tuple : goal.is_well_formed_pre-returns-in-Tuple
is_well_formed_pre-returns-in-Tuple t c = tuple_formed _ _ _ _ _ c.as_slice.ensures.items c.are_parts.ensures _ c.in-Tuple.is

pub is_well_formed_pre-returns-in-Hidden : goal.is_well_formed_pre-returns-in-Hidden
is_well_formed_pre-returns-in-Hidden t c = hidden_formed _ _ _ _ _ c.get.ensures _ c.is_part.ensures _ _ c.in-Hidden.is c.inside.ensures

pub is_well_formed_pre-returns-in-Code : goal.is_well_formed_pre-returns-in-Code
is_well_formed_pre-returns-in-Code t c = code_formed _ _ _ _ c.get-in-Code.ensures c.is_well_formed_function.ensures _ _ c.in-Code.is
