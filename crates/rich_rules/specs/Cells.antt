-- Rows on variants, arrays and existential packages, but for those that enter lists. This project's own.
use Rattle.std.specs.Prelude.{ℕ, List, [], ◌∷◌, ◌==◌, Some, None, slice_get}
use Rattle.rw_types.specs.declared.types.Arg.TheVariants.{Given}
use Rattle.rw_types.specs.declared.types.Heap.TheVariants.{Variant, Array, Exist}
use Rattle.rw_types.specs.declared.types.Mem.{Mem}
use Rattle.rw_types.specs.declared.types.Qual.{Qual}
use Rattle.rw_types.specs.declared.types.Ty.{Ty}
use Rattle.rich_types.specs.Scopes.{Scope, with_variable}
use Rattle.rich_types.specs.Sizes.{size_under}
use Rattle.rich_types.specs.Instances.{raise, instance}
use Rattle.rich_typing.specs.declared.rules.Rule.TheVariants as rule
use Rattle.rich_rules.specs.Forms.{has_qual, is_rw, is_linear_memory, is_unr_type, is_formed, first_ill_formed}
use Rattle.rich_rules.specs.Points.{Outcome}
use Rattle.rich_rules.specs.Raised.{one_location, raise_all}
use Rattle.rich_rules.specs.Structs.{new_cell}
use Rattle.rich_rules.specs.Takers.{unr_i32, need, with_some, without, one, two, three, these, of_type, array_form, gives, gives_formed}

-- `variant.malloc` makes a variant of the case with this number
abbrev pub variant_malloc_row : Scope → Mem → ℕ → List Ty → List Ty → Outcome
variant_malloc_row c m i ts operands = with_some (slice_get ts i) rule.Index None (λ t. without (first_ill_formed c ts) rule.TypeForm (these (t ∷ []) operands (λ beneath. gives_formed c (new_cell m (Variant (raise_all one_location ts))) beneath)))

-- `array.malloc` makes an array of copies of a value that is `unr`
abbrev pub array_malloc_row : Scope → Mem → List Ty → Outcome
array_malloc_row c m operands = two operands (λ u t beneath. of_type unr_i32 u (need (is_unr_type c t) rule.LinearCopy (Some t) None (gives_formed c (new_cell m (Array (raise one_location t))) beneath)))

-- `array.get`
abbrev pub array_get_row : Scope → List Ty → Outcome
array_get_row c operands = two operands (λ u t beneath. array_form c t (λ r element. of_type unr_i32 u (gives (element ∷ t ∷ []) beneath)))

-- `array.set`
abbrev pub array_set_row : Scope → List Ty → Outcome
array_set_row c operands = three operands (λ v u t beneath. array_form c t (λ r element. of_type unr_i32 u (of_type element v (need (is_rw r.privilege) rule.Privilege (Some t) None (gives (t ∷ []) beneath)))))

-- `array.len`
abbrev pub array_len_row : Scope → List Ty → Outcome
array_len_row c operands = one operands (λ t beneath. array_form c t (λ r element. gives (unr_i32 ∷ t ∷ []) beneath))

-- `array.free`
abbrev pub array_free_row : Scope → List Ty → Outcome
array_free_row c operands = one operands (λ t beneath. array_form c t (λ r element. need (is_linear_memory r.memory) rule.Memory (Some t) None (need (is_rw r.privilege) rule.Privilege (Some t) None (gives [] beneath))))

-- `exist.pack` hides a type t, of this qualifier and size, in a body
abbrev pub exist_pack_row : Scope → Mem → Qual → ℕ → Ty → Ty → List Ty → Outcome
exist_pack_row c m q s t body operands = need (is_formed c t) rule.TypeForm (Some t) None (need (is_formed (with_variable q s c) body) rule.TypeForm (Some body) None (need (has_qual c q t) rule.Qualifier (Some t) None (need (size_under c t == s) rule.Size (Some t) None (these (instance body (Given t ∷ []) ∷ []) operands (λ beneath. gives_formed c (new_cell m (Exist q s (raise one_location body))) beneath)))))
