use Rattle.std.proofs.Common.{List, ap, refl, sym, subst}
use Rattle.rw_types.specs.declared.types.Heap.{Array}
use Rattle.rw_types.specs.declared.types.Pre.{Hidden, Code}
use Rattle.rw_types.specs.declared.types.Slot.{Slot}
use Rattle.rw_types.specs.declared.types.Ty.{Ty}
use Rattle.rich_text.specs.Forms.{function_type_form, heap_form, pretype_form, slot_form, type_form, types_form}
use Rattle.rich_text.specs.Grammars.{a_form, many}
use Rattle.rw_parser.specs.Reads.{Gave, a_part, the_fields}
use Rattle.rw_parser.proofs.Composing.{first_fails, later_fails, one_gave}
use Rattle.rw_parser.proofs.Firsts.{handed}
use Rattle.rw_parser.proofs.Looping.{Going, going_fails, going_more}
use Rattle.rw_parser.proofs.Plain.{opening_fails, plain_fails, plain_gave}
use Rattle.rw_type_forms.specs.Heads.{bound_fields, heap_word, located_fields, type_word}
use Rattle.rw_type_forms.proofs.Heading.{began_as, form_fails, form_gave, form_same, handed_on, qualified, started_pretype}
use Rattle.rw_type_forms.proofs.types.+types.Goals as goal

pub read_type-returns-in_err-head : goal.read_type-returns-in_err-head
read_type-returns-in_err-head t c = handed (a_part (a_form type_form)) 0 _ _ c.from_residual.result _ c.from_residual.ensures.1 c.in_err-head.ensures

pub read_type-returns-in_err-pretype-in-Of : goal.read_type-returns-in_err-pretype-in-Of
read_type-returns-in_err-pretype-in-Of t c = handed (a_part (a_form type_form)) 0 _ _ c.from_residual-in_err-pretype-in-Of.result _ c.from_residual-in_err-pretype-in-Of.ensures.1 (form_fails type_form (began_as type_word c.in-Of.is c.in_ok-head.ensures) refl (qualified _) (first_fails c.in_err-pretype-in-Of.ensures))

pub read_type-returns-in_err-close-in-Of : goal.read_type-returns-in_err-close-in-Of
read_type-returns-in_err-close-in-Of t c = handed (a_part (a_form type_form)) 0 _ _ c.from_residual-in_err-close-in-Of.result _ c.from_residual-in_err-close-in-Of.ensures.1 (form_fails type_form (began_as type_word c.in-Of.is c.in_ok-head.ensures) refl (qualified _) (later_fails c.in_ok-pretype-in-Of.ensures c.in_err-close-in-Of.ensures))

pub read_type-returns-in_ok-close-in-Of : goal.read_type-returns-in_ok-close-in-Of
read_type-returns-in_ok-close-in-Of t c = form_gave type_form (began_as type_word c.in-Of.is c.in_ok-head.ensures) refl (qualified _) (one_gave c.in_ok-pretype-in-Of.ensures c.in_ok-close-in-Of.ensures)

pub read_type-returns-in_err-only_index-in-Var : goal.read_type-returns-in_err-only_index-in-Var
read_type-returns-in_err-only_index-in-Var t c = handed (a_part (a_form type_form)) 0 _ _ c.from_residual-in_err-only_index-in-Var.result _ c.from_residual-in_err-only_index-in-Var.ensures.1 (form_fails type_form (began_as type_word c.in-Var.is c.in_ok-head.ensures) refl refl c.in_err-only_index-in-Var.ensures)

pub read_type-returns-in_ok-only_index-in-Var : goal.read_type-returns-in_ok-only_index-in-Var
read_type-returns-in_ok-only_index-in-Var t c = form_gave type_form (began_as type_word c.in-Var.is c.in_ok-head.ensures) refl refl c.in_ok-only_index-in-Var.ensures

pub read_type-returns-in_err-bound-in-Rec : goal.read_type-returns-in_err-bound-in-Rec
read_type-returns-in_err-bound-in-Rec t c = handed (a_part (a_form type_form)) 0 _ _ c.from_residual-in_err-bound-in-Rec.result _ c.from_residual-in_err-bound-in-Rec.ensures.1 (form_fails type_form (began_as type_word c.in-Rec.is c.in_ok-head.ensures) refl refl c.in_err-bound-in-Rec.ensures)

pub read_type-returns-in_ok-bound-in-Rec : goal.read_type-returns-in_ok-bound-in-Rec
read_type-returns-in_ok-bound-in-Rec t c = form_gave type_form (began_as type_word c.in-Rec.is c.in_ok-head.ensures) refl refl c.in_ok-bound-in-Rec.ensures

pub read_pretype-returns-in_err-pretype : goal.read_pretype-returns-in_err-pretype
read_pretype-returns-in_err-pretype t c = handed (a_part (a_form pretype_form)) 0 _ _ c.from_residual.result _ c.from_residual.ensures.1 c.in_err-pretype.ensures

pub read_pretype-returns-in_err-only_index-in-Ptr : goal.read_pretype-returns-in_err-only_index-in-Ptr
read_pretype-returns-in_err-only_index-in-Ptr t c = handed (a_part (a_form pretype_form)) 0 _ _ c.from_residual-in_err-only_index-in-Ptr.result _ c.from_residual-in_err-only_index-in-Ptr.ensures.1 (form_fails pretype_form (started_pretype _ c.in-Head.is c.in-Ptr.is c.in_ok-pretype.ensures) refl refl c.in_err-only_index-in-Ptr.ensures)

pub read_pretype-returns-in_ok-only_index-in-Ptr : goal.read_pretype-returns-in_ok-only_index-in-Ptr
read_pretype-returns-in_ok-only_index-in-Ptr t c = form_gave pretype_form (started_pretype _ c.in-Head.is c.in-Ptr.is c.in_ok-pretype.ensures) refl refl c.in_ok-only_index-in-Ptr.ensures

pub read_pretype-returns-in_err-only_index-in-Own : goal.read_pretype-returns-in_err-only_index-in-Own
read_pretype-returns-in_err-only_index-in-Own t c = handed (a_part (a_form pretype_form)) 0 _ _ c.from_residual-in_err-only_index-in-Own.result _ c.from_residual-in_err-only_index-in-Own.ensures.1 (form_fails pretype_form (started_pretype _ c.in-Head.is c.in-Own.is c.in_ok-pretype.ensures) refl refl c.in_err-only_index-in-Own.ensures)

pub read_pretype-returns-in_ok-only_index-in-Own : goal.read_pretype-returns-in_ok-only_index-in-Own
read_pretype-returns-in_ok-only_index-in-Own t c = form_gave pretype_form (started_pretype _ c.in-Head.is c.in-Own.is c.in_ok-pretype.ensures) refl refl c.in_ok-only_index-in-Own.ensures

pub read_pretype-returns-in_err-held-in-Cap : goal.read_pretype-returns-in_err-held-in-Cap
read_pretype-returns-in_err-held-in-Cap t c = handed (a_part (a_form pretype_form)) 0 _ _ c.from_residual-in_err-held-in-Cap.result _ c.from_residual-in_err-held-in-Cap.ensures.1 (form_fails pretype_form (started_pretype _ c.in-Head.is c.in-Cap.is c.in_ok-pretype.ensures) refl refl c.in_err-held-in-Cap.ensures)

pub read_pretype-returns-in_ok-held-in-Cap : goal.read_pretype-returns-in_ok-held-in-Cap
read_pretype-returns-in_ok-held-in-Cap t c = form_gave pretype_form (started_pretype _ c.in-Head.is c.in-Cap.is c.in_ok-pretype.ensures) refl refl c.in_ok-held-in-Cap.ensures

pub read_pretype-returns-in_err-read_types-in-Tuple : goal.read_pretype-returns-in_err-read_types-in-Tuple
read_pretype-returns-in_err-read_types-in-Tuple t c = handed (a_part (a_form pretype_form)) 0 _ _ c.from_residual-in_err-read_types-in-Tuple.result _ c.from_residual-in_err-read_types-in-Tuple.ensures.1 (form_fails pretype_form (started_pretype _ c.in-Head.is c.in-Tuple.is c.in_ok-pretype.ensures) refl refl c.in_err-read_types-in-Tuple.ensures)

pub read_pretype-returns-in_ok-read_types-in-Tuple : goal.read_pretype-returns-in_ok-read_types-in-Tuple
read_pretype-returns-in_ok-read_types-in-Tuple t c = form_gave pretype_form (started_pretype _ c.in-Head.is c.in-Tuple.is c.in_ok-pretype.ensures) refl refl c.in_ok-read_types-in-Tuple.ensures

pub read_pretype-returns-in_err-located-in-Ref : goal.read_pretype-returns-in_err-located-in-Ref
read_pretype-returns-in_err-located-in-Ref t c = handed (a_part (a_form pretype_form)) 0 _ _ c.from_residual-in_err-located-in-Ref.result _ c.from_residual-in_err-located-in-Ref.ensures.1 (form_fails pretype_form (started_pretype _ c.in-Head.is c.in-Ref.is c.in_ok-pretype.ensures) refl refl c.in_err-located-in-Ref.ensures)

pub read_pretype-returns-in_ok-located-in-Ref : goal.read_pretype-returns-in_ok-located-in-Ref
read_pretype-returns-in_ok-located-in-Ref t c = form_gave pretype_form (started_pretype _ c.in-Head.is c.in-Ref.is c.in_ok-pretype.ensures) refl refl c.in_ok-located-in-Ref.ensures

pub read_pretype-returns-in_err-memory-in-Hidden : goal.read_pretype-returns-in_err-memory-in-Hidden
read_pretype-returns-in_err-memory-in-Hidden t c = handed (a_part (a_form pretype_form)) 0 _ _ c.from_residual-in_err-memory-in-Hidden.result _ c.from_residual-in_err-memory-in-Hidden.ensures.1 (form_fails pretype_form (started_pretype _ c.in-Head.is c.in-Hidden.is c.in_ok-pretype.ensures) refl refl (first_fails c.in_err-memory-in-Hidden.ensures))

pub read_pretype-returns-in_err-body-in-Hidden : goal.read_pretype-returns-in_err-body-in-Hidden
read_pretype-returns-in_err-body-in-Hidden t c = handed (a_part (a_form pretype_form)) 0 _ _ c.from_residual-in_err-body-in-Hidden.result _ c.from_residual-in_err-body-in-Hidden.ensures.1 (form_fails pretype_form (started_pretype _ c.in-Head.is c.in-Hidden.is c.in_ok-pretype.ensures) refl refl (later_fails c.in_ok-memory-in-Hidden.ensures (first_fails c.in_err-body-in-Hidden.ensures)))

pub read_pretype-returns-in_err-close-in-Hidden : goal.read_pretype-returns-in_err-close-in-Hidden
read_pretype-returns-in_err-close-in-Hidden t c = handed (a_part (a_form pretype_form)) 0 _ _ c.from_residual-in_err-close-in-Hidden.result _ c.from_residual-in_err-close-in-Hidden.ensures.1 (form_fails pretype_form (started_pretype _ c.in-Head.is c.in-Hidden.is c.in_ok-pretype.ensures) refl refl (later_fails c.in_ok-memory-in-Hidden.ensures (later_fails c.in_ok-body-in-Hidden.ensures c.in_err-close-in-Hidden.ensures)))

pub read_pretype-returns-in_ok-new-in-Hidden : goal.read_pretype-returns-in_ok-new-in-Hidden
read_pretype-returns-in_ok-new-in-Hidden t c = form_same pretype_form (ap (Hidden c.in_ok-memory-in-Hidden.memory) c.in_ok-new-in-Hidden.ensures) (form_gave pretype_form (started_pretype _ c.in-Head.is c.in-Hidden.is c.in_ok-pretype.ensures) refl refl (one_gave c.in_ok-memory-in-Hidden.ensures (one_gave c.in_ok-body-in-Hidden.ensures c.in_ok-close-in-Hidden.ensures)))

pub read_pretype-returns-in_err-function-in-Code : goal.read_pretype-returns-in_err-function-in-Code
read_pretype-returns-in_err-function-in-Code t c = handed (a_part (a_form pretype_form)) 0 _ _ c.from_residual-in_err-function-in-Code.result _ c.from_residual-in_err-function-in-Code.ensures.1 (form_fails pretype_form (started_pretype _ c.in-Head.is c.in-Code.is c.in_ok-pretype.ensures) refl refl (first_fails c.in_err-function-in-Code.ensures))

pub read_pretype-returns-in_err-close-in-Code : goal.read_pretype-returns-in_err-close-in-Code
read_pretype-returns-in_err-close-in-Code t c = handed (a_part (a_form pretype_form)) 0 _ _ c.from_residual-in_err-close-in-Code.result _ c.from_residual-in_err-close-in-Code.ensures.1 (form_fails pretype_form (started_pretype _ c.in-Head.is c.in-Code.is c.in_ok-pretype.ensures) refl refl (later_fails c.in_ok-function-in-Code.ensures c.in_err-close-in-Code.ensures))

pub read_pretype-returns-in_ok-new-in-Code : goal.read_pretype-returns-in_ok-new-in-Code
read_pretype-returns-in_ok-new-in-Code t c = form_same pretype_form (ap Code c.in_ok-new-in-Code.ensures) (form_gave pretype_form (started_pretype _ c.in-Head.is c.in-Code.is c.in_ok-pretype.ensures) refl refl (one_gave c.in_ok-function-in-Code.ensures c.in_ok-close-in-Code.ensures))

pub read_heap-returns-in_err-head : goal.read_heap-returns-in_err-head
read_heap-returns-in_err-head t c = handed (a_part (a_form heap_form)) 0 _ _ c.from_residual.result _ c.from_residual.ensures.1 c.in_err-head.ensures

pub read_heap-returns-in_err-read_slots-in-Struct : goal.read_heap-returns-in_err-read_slots-in-Struct
read_heap-returns-in_err-read_slots-in-Struct t c = handed (a_part (a_form heap_form)) 0 _ _ c.from_residual-in_err-read_slots-in-Struct.result _ c.from_residual-in_err-read_slots-in-Struct.ensures.1 (form_fails heap_form (began_as heap_word c.in-Struct.is c.in_ok-head.ensures) refl refl c.in_err-read_slots-in-Struct.ensures)

pub read_heap-returns-in_ok-read_slots-in-Struct : goal.read_heap-returns-in_ok-read_slots-in-Struct
read_heap-returns-in_ok-read_slots-in-Struct t c = form_gave heap_form (began_as heap_word c.in-Struct.is c.in_ok-head.ensures) refl refl c.in_ok-read_slots-in-Struct.ensures

pub read_heap-returns-in_err-read_types-in-Variant : goal.read_heap-returns-in_err-read_types-in-Variant
read_heap-returns-in_err-read_types-in-Variant t c = handed (a_part (a_form heap_form)) 0 _ _ c.from_residual-in_err-read_types-in-Variant.result _ c.from_residual-in_err-read_types-in-Variant.ensures.1 (form_fails heap_form (began_as heap_word c.in-Variant.is c.in_ok-head.ensures) refl refl c.in_err-read_types-in-Variant.ensures)

pub read_heap-returns-in_ok-read_types-in-Variant : goal.read_heap-returns-in_ok-read_types-in-Variant
read_heap-returns-in_ok-read_types-in-Variant t c = form_gave heap_form (began_as heap_word c.in-Variant.is c.in_ok-head.ensures) refl refl c.in_ok-read_types-in-Variant.ensures

pub read_heap-returns-in_err-element-in-Array : goal.read_heap-returns-in_err-element-in-Array
read_heap-returns-in_err-element-in-Array t c = handed (a_part (a_form heap_form)) 0 _ _ c.from_residual-in_err-element-in-Array.result _ c.from_residual-in_err-element-in-Array.ensures.1 (form_fails heap_form (began_as heap_word c.in-Array.is c.in_ok-head.ensures) refl refl (first_fails c.in_err-element-in-Array.ensures))

pub read_heap-returns-in_err-close-in-Array : goal.read_heap-returns-in_err-close-in-Array
read_heap-returns-in_err-close-in-Array t c = handed (a_part (a_form heap_form)) 0 _ _ c.from_residual-in_err-close-in-Array.result _ c.from_residual-in_err-close-in-Array.ensures.1 (form_fails heap_form (began_as heap_word c.in-Array.is c.in_ok-head.ensures) refl refl (later_fails c.in_ok-element-in-Array.ensures c.in_err-close-in-Array.ensures))

pub read_heap-returns-in_ok-new-in-Array : goal.read_heap-returns-in_ok-new-in-Array
read_heap-returns-in_ok-new-in-Array t c = form_same heap_form (ap Array c.in_ok-new-in-Array.ensures) (form_gave heap_form (began_as heap_word c.in-Array.is c.in_ok-head.ensures) refl refl (one_gave c.in_ok-element-in-Array.ensures c.in_ok-close-in-Array.ensures))

pub read_heap-returns-in_err-bound-in-Exist : goal.read_heap-returns-in_err-bound-in-Exist
read_heap-returns-in_err-bound-in-Exist t c = handed (a_part (a_form heap_form)) 0 _ _ c.from_residual-in_err-bound-in-Exist.result _ c.from_residual-in_err-bound-in-Exist.ensures.1 (form_fails heap_form (began_as heap_word c.in-Exist.is c.in_ok-head.ensures) refl refl c.in_err-bound-in-Exist.ensures)

pub read_heap-returns-in_ok-bound-in-Exist : goal.read_heap-returns-in_ok-bound-in-Exist
read_heap-returns-in_ok-bound-in-Exist t c = form_gave heap_form (began_as heap_word c.in-Exist.is c.in_ok-head.ensures) refl refl c.in_ok-bound-in-Exist.ensures

pub read_function_type-returns-in_err-start_function_type : goal.read_function_type-returns-in_err-start_function_type
read_function_type-returns-in_err-start_function_type t c = handed (a_part (a_form function_type_form)) 0 _ _ c.from_residual.result _ c.from_residual.ensures.1 c.in_err-start_function_type.ensures

pub read_function_type-returns-in_err-binders : goal.read_function_type-returns-in_err-binders
read_function_type-returns-in_err-binders t c = handed (a_part (a_form function_type_form)) 0 _ _ c.from_residual-in_err-binders.result _ c.from_residual-in_err-binders.ensures.1 (form_fails function_type_form c.in_ok-start_function_type.ensures refl refl (first_fails c.in_err-binders.ensures))

pub read_function_type-returns-in_err-params : goal.read_function_type-returns-in_err-params
read_function_type-returns-in_err-params t c = handed (a_part (a_form function_type_form)) 0 _ _ c.from_residual-in_err-params.result _ c.from_residual-in_err-params.ensures.1 (form_fails function_type_form c.in_ok-start_function_type.ensures refl refl (later_fails c.in_ok-binders.ensures (first_fails c.in_err-params.ensures)))

pub read_function_type-returns-in_err-results : goal.read_function_type-returns-in_err-results
read_function_type-returns-in_err-results t c = handed (a_part (a_form function_type_form)) 0 _ _ c.from_residual-in_err-results.result _ c.from_residual-in_err-results.ensures.1 (form_fails function_type_form c.in_ok-start_function_type.ensures refl refl (later_fails c.in_ok-binders.ensures (later_fails c.in_ok-params.ensures (first_fails c.in_err-results.ensures))))

pub read_function_type-returns-in_err-close : goal.read_function_type-returns-in_err-close
read_function_type-returns-in_err-close t c = handed (a_part (a_form function_type_form)) 0 _ _ c.from_residual-in_err-close.result _ c.from_residual-in_err-close.ensures.1 (form_fails function_type_form c.in_ok-start_function_type.ensures refl refl (later_fails c.in_ok-binders.ensures (later_fails c.in_ok-params.ensures (later_fails c.in_ok-results.ensures c.in_err-close.ensures))))

pub read_function_type-returns : goal.read_function_type-returns
read_function_type-returns t c = form_gave function_type_form c.in_ok-start_function_type.ensures refl refl (one_gave c.in_ok-binders.ensures (one_gave c.in_ok-params.ensures (one_gave c.in_ok-results.ensures c.in_ok-close.ensures)))

pub read_type_list-returns-in_err-open : goal.read_type_list-returns-in_err-open
read_type_list-returns-in_err-open t c = handed (a_part (a_form types_form)) 0 _ _ c.from_residual.result _ c.from_residual.ensures.1 (opening_fails (λ w. refl) c.in_err-open.ensures)

pub read_type_list-returns-in_err-types : goal.read_type_list-returns-in_err-types
read_type_list-returns-in_err-types t c = handed (a_part (a_form types_form)) 0 _ _ c.from_residual-in_err-types.result _ c.from_residual-in_err-types.ensures.1 (plain_fails refl refl c.in_ok-open.ensures c.in_err-types.ensures)

pub read_type_list-returns : goal.read_type_list-returns
read_type_list-returns t c = plain_gave refl refl c.in_ok-open.ensures c.in_ok-types.ensures

pub read_slot-returns-in_err-open : goal.read_slot-returns-in_err-open
read_slot-returns-in_err-open t c = handed (a_part (a_form slot_form)) 0 _ _ c.from_residual.result _ c.from_residual.ensures.1 (opening_fails (λ w. refl) c.in_err-open.ensures)

pub read_slot-returns-in_err-ty : goal.read_slot-returns-in_err-ty
read_slot-returns-in_err-ty t c = handed (a_part (a_form slot_form)) 0 _ _ c.from_residual-in_err-ty.result _ c.from_residual-in_err-ty.ensures.1 (plain_fails refl refl c.in_ok-open.ensures (first_fails c.in_err-ty.ensures))

pub read_slot-returns-in_err-size : goal.read_slot-returns-in_err-size
read_slot-returns-in_err-size t c = handed (a_part (a_form slot_form)) 0 _ _ c.from_residual-in_err-size.result _ c.from_residual-in_err-size.ensures.1 (plain_fails refl refl c.in_ok-open.ensures (later_fails c.in_ok-ty.ensures (first_fails c.in_err-size.ensures)))

pub read_slot-returns-in_err-close : goal.read_slot-returns-in_err-close
read_slot-returns-in_err-close t c = handed (a_part (a_form slot_form)) 0 _ _ c.from_residual-in_err-close.result _ c.from_residual-in_err-close.ensures.1 (plain_fails refl refl c.in_ok-open.ensures (later_fails c.in_ok-ty.ensures (later_fails c.in_ok-size.ensures c.in_err-close.ensures)))

pub read_slot-returns : goal.read_slot-returns
read_slot-returns t c = plain_gave refl refl c.in_ok-open.ensures (one_gave c.in_ok-ty.ensures (one_gave c.in_ok-size.ensures c.in_ok-close.ensures))

pub read_bound-returns-in_err-qualifier : goal.read_bound-returns-in_err-qualifier
read_bound-returns-in_err-qualifier t c = handed_on _ (the_fields bound_fields) _ c.from_residual.result _ c.from_residual.ensures.1 (first_fails c.in_err-qualifier.ensures)

pub read_bound-returns-in_err-size : goal.read_bound-returns-in_err-size
read_bound-returns-in_err-size t c = handed_on _ (the_fields bound_fields) _ c.from_residual-in_err-size.result _ c.from_residual-in_err-size.ensures.1 (later_fails c.in_ok-qualifier.ensures (first_fails c.in_err-size.ensures))

pub read_bound-returns-in_err-ty : goal.read_bound-returns-in_err-ty
read_bound-returns-in_err-ty t c = handed_on _ (the_fields bound_fields) _ c.from_residual-in_err-ty.result _ c.from_residual-in_err-ty.ensures.1 (later_fails c.in_ok-qualifier.ensures (later_fails c.in_ok-size.ensures (first_fails c.in_err-ty.ensures)))

pub read_bound-returns-in_err-close : goal.read_bound-returns-in_err-close
read_bound-returns-in_err-close t c = handed_on _ (the_fields bound_fields) _ c.from_residual-in_err-close.result _ c.from_residual-in_err-close.ensures.1 (later_fails c.in_ok-qualifier.ensures (later_fails c.in_ok-size.ensures (later_fails c.in_ok-ty.ensures c.in_err-close.ensures)))

pub read_bound-returns : goal.read_bound-returns
read_bound-returns t c =
    let P : Ty → Type 0 = λ b. Gave (the_fields bound_fields) 1 c.args.parser.now c.close.new.self (c.in_ok-qualifier.qualifier, (c.in_ok-size.size, (b, tt))) in
    subst P (sym c.in_ok-body.ensures) (one_gave c.in_ok-qualifier.ensures (one_gave c.in_ok-size.ensures (one_gave c.in_ok-ty.ensures c.in_ok-close.ensures)))

pub read_located-returns-in_err-privilege : goal.read_located-returns-in_err-privilege
read_located-returns-in_err-privilege t c = handed_on _ (the_fields located_fields) _ c.from_residual.result _ c.from_residual.ensures.1 (first_fails c.in_err-privilege.ensures)

pub read_located-returns-in_err-location : goal.read_located-returns-in_err-location
read_located-returns-in_err-location t c = handed_on _ (the_fields located_fields) _ c.from_residual-in_err-location.result _ c.from_residual-in_err-location.ensures.1 (later_fails c.in_ok-privilege.ensures (first_fails c.in_err-location.ensures))

pub read_located-returns-in_err-heap : goal.read_located-returns-in_err-heap
read_located-returns-in_err-heap t c = handed_on _ (the_fields located_fields) _ c.from_residual-in_err-heap.result _ c.from_residual-in_err-heap.ensures.1 (later_fails c.in_ok-privilege.ensures (later_fails c.in_ok-location.ensures (first_fails c.in_err-heap.ensures)))

pub read_located-returns-in_err-close : goal.read_located-returns-in_err-close
read_located-returns-in_err-close t c = handed_on _ (the_fields located_fields) _ c.from_residual-in_err-close.result _ c.from_residual-in_err-close.ensures.1 (later_fails c.in_ok-privilege.ensures (later_fails c.in_ok-location.ensures (later_fails c.in_ok-heap.ensures c.in_err-close.ensures)))

pub read_located-returns : goal.read_located-returns
read_located-returns t c = one_gave c.in_ok-privilege.ensures (one_gave c.in_ok-location.ensures (one_gave c.in_ok-heap.ensures c.in_ok-close.ensures))

pub read_types-returns-in_err-read_type : goal.read_types-returns-in_err-read_type
read_types-returns-in_err-read_type t c = handed (the_fields (many (a_form type_form))) 1 _ _ c.from_residual.result _ c.from_residual.ensures.1 (going_fails {k = a_form type_form} c.loop-types.invariant c.loop-types-test.ensures c.in_err-read_type.ensures)

pub read_types-loop-types-preserved : goal.read_types-loop-types-preserved
read_types-loop-types-preserved t c =
    let P : List Ty → Type 0 = λ xs. Going (a_form type_form) c.args.parser.now c.read_type.new.parser xs in
    subst P (sym c.in_ok-push.ensures.ok) (going_more {k = a_form type_form} c.loop-types.invariant c.loop-types-test.ensures c.in_ok-read_type.ensures)

pub read_slots-returns-in_err-read_slot : goal.read_slots-returns-in_err-read_slot
read_slots-returns-in_err-read_slot t c = handed (the_fields (many (a_form slot_form))) 1 _ _ c.from_residual.result _ c.from_residual.ensures.1 (going_fails {k = a_form slot_form} c.loop-slots.invariant c.loop-slots-test.ensures c.in_err-read_slot.ensures)

pub read_slots-loop-slots-preserved : goal.read_slots-loop-slots-preserved
read_slots-loop-slots-preserved t c =
    let P : List Slot → Type 0 = λ xs. Going (a_form slot_form) c.args.parser.now c.read_slot.new.parser xs in
    subst P (sym c.in_ok-push.ensures.ok) (going_more {k = a_form slot_form} c.loop-slots.invariant c.loop-slots-test.ensures c.in_ok-read_slot.ensures)
