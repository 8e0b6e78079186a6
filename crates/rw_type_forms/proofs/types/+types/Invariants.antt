use Rattle.std.proofs.Common.{◌+◌, ◌*◌, length}
use Rattle.rich_text.specs.Forms.{slot_form, type_form}
use Rattle.rich_text.specs.Grammars.{a_form}
use Rattle.rw_parser.specs.Reads.{tokens_left}
use Rattle.rw_parser.proofs.Looping.{Going}
use Rattle.rw_type_forms.proofs.types.+types.Given as goal

abbrev pub decreases-read_type : goal.decreases-read_type
decreases-read_type l = 2 * length (tokens_left l.parser.now)

abbrev pub decreases-read_pretype : goal.decreases-read_pretype
decreases-read_pretype l = 2 * length (tokens_left l.parser.now)

abbrev pub decreases-read_heap : goal.decreases-read_heap
decreases-read_heap l = 2 * length (tokens_left l.parser.now)

abbrev pub decreases-read_function_type : goal.decreases-read_function_type
decreases-read_function_type l = 2 * length (tokens_left l.parser.now)

abbrev pub decreases-read_type_list : goal.decreases-read_type_list
decreases-read_type_list l = 2 * length (tokens_left l.parser.now)

abbrev pub decreases-read_types : goal.decreases-read_types
decreases-read_types l = 2 * length (tokens_left l.parser.now) + 1

abbrev pub decreases-read_slots : goal.decreases-read_slots
decreases-read_slots l = 2 * length (tokens_left l.parser.now) + 1

abbrev pub decreases-read_slot : goal.decreases-read_slot
decreases-read_slot l = 2 * length (tokens_left l.parser.now)

abbrev pub decreases-read_bound : goal.decreases-read_bound
decreases-read_bound l = 2 * length (tokens_left l.parser.now)

abbrev pub decreases-read_located : goal.decreases-read_located
decreases-read_located l = 2 * length (tokens_left l.parser.now)

abbrev pub invariant-read_types-loop-types : goal.invariant-read_types-loop-types
invariant-read_types-loop-types l = Going (a_form type_form) l.initial.parser l.parser l.types

abbrev pub decreases-read_types-loop-types : goal.decreases-read_types-loop-types
decreases-read_types-loop-types l = length (tokens_left l.parser)

abbrev pub invariant-read_slots-loop-slots : goal.invariant-read_slots-loop-slots
invariant-read_slots-loop-slots l = Going (a_form slot_form) l.initial.parser l.parser l.slots

abbrev pub decreases-read_slots-loop-slots : goal.decreases-read_slots-loop-slots
decreases-read_slots-loop-slots l = length (tokens_left l.parser)
