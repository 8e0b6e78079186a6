-- Rows on arrays, where a type is a reference to an array.
use Rattle.std.proofs.Common.{◌≡◌, ◌∙◌, ℕ, List, [], ◌∷◌, Bool, true, false, Option, Some, None, refl, ap, sym}
use Rattle.std.proofs.Math.Path.{subst⁻¹}
use Rattle.rw_types.specs.declared.types.Heap.TheVariants.{Array}
use Rattle.rw_types.specs.declared.types.Heap.TheBlock.{hidden-the_row-Ty-2}
use Rattle.rw_types.specs.declared.types.Mem.{Mem}
use Rattle.rw_types.specs.declared.types.Pre.{Ref}
use Rattle.rw_types.specs.declared.types.Priv.{Priv}
use Rattle.rw_types.specs.declared.types.Qual.{Qual}
use Rattle.rw_types.specs.declared.types.Ty.{Ty, Of}
use Rattle.rich_types.specs.Scopes.{Scope, memory_of}
use Rattle.rich_typing.specs.declared.rules.Rule.TheVariants as rule
use Rattle.rich_rules.specs.Equality.{same}
use Rattle.rich_rules.specs.Forms.{is_rw, is_linear_memory}
use Rattle.rich_rules.specs.Points.{Outcome, Breaks, Broke}
use Rattle.rich_rules.specs.Takers.{Reference, unr_i32, need, with_some, array_at, array_form, of_type, gives}
use Rattle.rich_rules.specs.Cells.{array_get_row, array_set_row, array_len_row, array_free_row}
use Rattle.rw_row_answers.specs.declared.answers.CapError.{CapError}
use Rattle.rw_row_answers.specs.Answers.{Breaking}

array_seen : (t element : Ty) (rest : Ty → Outcome) → array_at t (Array element) rest ≡ rest element
unfolding hidden-the_row-Ty-2 denote.Hole.Carrier.hidden
array_seen t element rest = refl

module _ (c : Scope) (t : Ty) where
  module _ (q : Qual) (p : Priv) (l : ℕ) (m : Mem) (element : Ty) (is : t ≡ Of q (Ref p l (Array element))) (found : Some m ≡ memory_of c l) where
    here : (rest : Reference → Ty → Outcome) → array_form c t rest ≡ rest (record { qual = q; privilege = p; location = l; memory = m }) element
    here rest =
        subst⁻¹ (λ (u : Ty). array_form c u rest ≡ rest (record { qual = q; privilege = p; location = l; memory = m }) element) is
        (ap (λ (x : Option Mem). with_some x rule.OperandType (Some (Of q (Ref p l (Array element)))) (λ n. array_at (Of q (Ref p l (Array element))) (Array element) (rest (record { qual = q; privilege = p; location = l; memory = n })))) (sym found)
        ∙ array_seen (Of q (Ref p l (Array element))) element (rest (record { qual = q; privilege = p; location = l; memory = m })))

    module _ (u : Ty) (beneath : List Ty) where
      get_row : array_get_row c (u ∷ t ∷ beneath) ≡ need (same u unr_i32) rule.OperandType (Some u) (Some unr_i32) (gives (element ∷ t ∷ []) beneath)
      get_row = here (λ r x. of_type unr_i32 u (gives (x ∷ t ∷ []) beneath))

      pub get_given : (top : Ty) → same u unr_i32 ≡ true → top ≡ element → array_get_row c (u ∷ t ∷ beneath) ≡ gives (top ∷ t ∷ []) beneath
      get_given top number copied = get_row ∙ ap (λ (b : Bool). need b rule.OperandType (Some u) (Some unr_i32) (gives (element ∷ t ∷ []) beneath)) number ∙ ap (λ (x : Ty). gives (x ∷ t ∷ []) beneath) (sym copied)

      pub get_index : (e : CapError) → same u unr_i32 ≡ false → Breaking e (Breaks (Broke rule.OperandType (Some u) (Some unr_i32))) → Breaking e (array_get_row c (u ∷ t ∷ beneath))
      get_index e other told = subst⁻¹ (Breaking e) (get_row ∙ ap (λ (b : Bool). need b rule.OperandType (Some u) (Some unr_i32) (gives (element ∷ t ∷ []) beneath)) other) told

      module _ (v : Ty) where
        set_row : array_set_row c (v ∷ u ∷ t ∷ beneath) ≡ need (same u unr_i32) rule.OperandType (Some u) (Some unr_i32) (need (same v element) rule.OperandType (Some v) (Some element) (need (is_rw p) rule.Privilege (Some t) None (gives (t ∷ []) beneath)))
        set_row = here (λ r x. of_type unr_i32 u (of_type x v (need (is_rw r.privilege) rule.Privilege (Some t) None (gives (t ∷ []) beneath))))

        pub set_index : (e : CapError) → same u unr_i32 ≡ false → Breaking e (Breaks (Broke rule.OperandType (Some u) (Some unr_i32))) → Breaking e (array_set_row c (v ∷ u ∷ t ∷ beneath))
        set_index e other told = subst⁻¹ (Breaking e) (set_row ∙ ap (λ (b : Bool). need b rule.OperandType (Some u) (Some unr_i32) (need (same v element) rule.OperandType (Some v) (Some element) (need (is_rw p) rule.Privilege (Some t) None (gives (t ∷ []) beneath)))) other) told

        set_indexed : same u unr_i32 ≡ true → array_set_row c (v ∷ u ∷ t ∷ beneath) ≡ need (same v element) rule.OperandType (Some v) (Some element) (need (is_rw p) rule.Privilege (Some t) None (gives (t ∷ []) beneath))
        set_indexed number = set_row ∙ ap (λ (b : Bool). need b rule.OperandType (Some u) (Some unr_i32) (need (same v element) rule.OperandType (Some v) (Some element) (need (is_rw p) rule.Privilege (Some t) None (gives (t ∷ []) beneath)))) number

        pub set_value : (e : CapError) → same u unr_i32 ≡ true → same v element ≡ false → Breaking e (Breaks (Broke rule.OperandType (Some v) (Some element))) → Breaking e (array_set_row c (v ∷ u ∷ t ∷ beneath))
        set_value e number other told = subst⁻¹ (Breaking e) (set_indexed number ∙ ap (λ (b : Bool). need b rule.OperandType (Some v) (Some element) (need (is_rw p) rule.Privilege (Some t) None (gives (t ∷ []) beneath))) other) told

        set_valued : same u unr_i32 ≡ true → same v element ≡ true → array_set_row c (v ∷ u ∷ t ∷ beneath) ≡ need (is_rw p) rule.Privilege (Some t) None (gives (t ∷ []) beneath)
        set_valued number value = set_indexed number ∙ ap (λ (b : Bool). need b rule.OperandType (Some v) (Some element) (need (is_rw p) rule.Privilege (Some t) None (gives (t ∷ []) beneath))) value

        pub set_reader : (e : CapError) → same u unr_i32 ≡ true → same v element ≡ true → is_rw p ≡ false → Breaking e (Breaks (Broke rule.Privilege (Some t) None)) → Breaking e (array_set_row c (v ∷ u ∷ t ∷ beneath))
        set_reader e number value reads told = subst⁻¹ (Breaking e) (set_valued number value ∙ ap (λ (b : Bool). need b rule.Privilege (Some t) None (gives (t ∷ []) beneath)) reads) told

        pub set_given : same u unr_i32 ≡ true → same v element ≡ true → is_rw p ≡ true → array_set_row c (v ∷ u ∷ t ∷ beneath) ≡ gives (t ∷ []) beneath
        set_given number value writes = set_valued number value ∙ ap (λ (b : Bool). need b rule.Privilege (Some t) None (gives (t ∷ []) beneath)) writes

    module _ (beneath : List Ty) where
      pub len_given : array_len_row c (t ∷ beneath) ≡ gives (unr_i32 ∷ t ∷ []) beneath
      len_given = here (λ r x. gives (unr_i32 ∷ t ∷ []) beneath)

      free_row : array_free_row c (t ∷ beneath) ≡ need (is_linear_memory m) rule.Memory (Some t) None (need (is_rw p) rule.Privilege (Some t) None (gives [] beneath))
      free_row = here (λ r x. need (is_linear_memory r.memory) rule.Memory (Some t) None (need (is_rw r.privilege) rule.Privilege (Some t) None (gives [] beneath)))

      free_linear : is_linear_memory m ≡ true → array_free_row c (t ∷ beneath) ≡ need (is_rw p) rule.Privilege (Some t) None (gives [] beneath)
      free_linear linear = free_row ∙ ap (λ (b : Bool). need b rule.Memory (Some t) None (need (is_rw p) rule.Privilege (Some t) None (gives [] beneath))) linear

      pub free_memory : (e : CapError) → is_linear_memory m ≡ false → Breaking e (Breaks (Broke rule.Memory (Some t) None)) → Breaking e (array_free_row c (t ∷ beneath))
      free_memory e other told = subst⁻¹ (Breaking e) (free_row ∙ ap (λ (b : Bool). need b rule.Memory (Some t) None (need (is_rw p) rule.Privilege (Some t) None (gives [] beneath))) other) told

      pub free_reader : (e : CapError) → is_linear_memory m ≡ true → is_rw p ≡ false → Breaking e (Breaks (Broke rule.Privilege (Some t) None)) → Breaking e (array_free_row c (t ∷ beneath))
      free_reader e linear reads told = subst⁻¹ (Breaking e) (free_linear linear ∙ ap (λ (b : Bool). need b rule.Privilege (Some t) None (gives [] beneath)) reads) told

      pub free_given : is_linear_memory m ≡ true → is_rw p ≡ true → array_free_row c (t ∷ beneath) ≡ gives [] beneath
      free_given linear writes = free_linear linear ∙ ap (λ (b : Bool). need b rule.Privilege (Some t) None (gives [] beneath)) writes
