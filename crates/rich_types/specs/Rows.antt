-- Types with their sizes and qualifiers, types that are well formed or not, and instances, written out. This
-- project's own.
use Rattle.std.specs.Prelude.{◌≡◌, ℕ, List, [], ◌∷◌}
use Rattle.rw_types.specs.declared.types.Arg.TheVariants.{Loc as to_location, Given as to_type}
use Rattle.rw_types.specs.declared.types.Binder.{Binder}
use Rattle.rw_types.specs.declared.types.Binder.TheVariants.{Loc, Kind}
use Rattle.rw_types.specs.declared.types.Heap.TheVariants.{Struct, Variant, Array, Exist}
use Rattle.rw_types.specs.declared.types.Mem.{Mem}
use Rattle.rw_types.specs.declared.types.Mem.TheVariants.{L, U}
use Rattle.rw_types.specs.declared.types.Pre.{Unit, I32, I64, Ref, Ptr, Cap, Own}
use Rattle.rw_types.specs.declared.types.Pre.TheVariants.{Tuple, Hidden, Code}
use Rattle.rw_types.specs.declared.types.Priv.TheVariants.{Rw, R}
use Rattle.rw_types.specs.declared.types.Qual.{Qual}
use Rattle.rw_types.specs.declared.types.Qual.TheVariants.{Unr, Lin}
use Rattle.rw_types.specs.declared.types.Heap.{Heap}
use Rattle.rw_types.specs.declared.types.Slot.{Slot}
use Rattle.rw_types.specs.declared.types.Ty.{Ty, Of, Var}
use Rattle.rw_types.specs.declared.types.Ty.TheVariants.{Rec}
use Rattle.rich_types.specs.Scopes.{no_scope, scope_of}
use Rattle.rich_types.specs.Sizes.{size_under, qual_under, heap_words}
use Rattle.rich_types.specs.WellFormed.{IsWellFormed, IsWellFormedHeap}
use Rattle.rich_types.specs.Instances.{raise, instance}

-- numbers, the unit, and the address of a location
abbrev pub long : Ty
long = Of Unr I64

abbrev pub short : Ty
short = Of Unr I32

abbrev pub unit_type : Ty
unit_type = Of Unr Unit

abbrev pub address : ℕ → Ty
address l = Of Unr (Ptr l)

-- parts in a tuple that may be dropped and copied
abbrev pub tuple : List Ty → Ty
tuple ts = Of Unr (Tuple ts)

abbrev pub slot : Ty → ℕ → Slot
slot t s = record { ty = t; size = s }

-- a hidden location of this memory, with a reference to it
abbrev pub hidden_reference : Qual → Mem → Heap → Ty
hidden_reference q m h = Of q (Hidden m (Of q (Ref Rw 0 h)))

-- a linear cell that holds a number
abbrev pub cell : Ty
cell = hidden_reference Lin L (Struct (slot long 1 ∷ []))

-- a function from numbers to numbers beside what it captured, whose type is hidden
abbrev pub closure : Ty
closure = hidden_reference Unr U (Exist Unr 1 (tuple (Var 0 ∷ Of Unr (Code (record { binders = []; params = Var 0 ∷ long ∷ []; results = long ∷ [] })) ∷ [])))

-- nothing, or a number and another such list
abbrev pub list_body : Ty → Ty
list_body rest = hidden_reference Unr U (Variant (unit_type ∷ tuple (long ∷ rest ∷ []) ∷ []))

abbrev pub number_list : Ty
number_list = Rec Unr 1 (list_body (Var 0))

-- a function that takes the address of its own location and that of the one outside, and gives what it is given
abbrev pub function : ℕ → Ty → Ty
function l t = Of Unr (Code (record { binders = Loc L ∷ []; params = address 0 ∷ address l ∷ []; results = t ∷ [] }))

-- sizes in words: a number has one whatever its bits, a right to a location none, a tuple those of its parts, a
-- hidden location those of its body, and a variable or a recursive type what its binder says; variables are counted
-- outwards, apart from locations; no sum wraps
pub record WorkedSizes : Type 0 where
  pub unit_size : size_under no_scope unit_type ≡ 0
  pub short_size : size_under no_scope short ≡ 1
  pub long_size : size_under no_scope long ≡ 1
  pub address_size : size_under no_scope (address 0) ≡ 1
  pub reference_size : size_under no_scope (Of Lin (Ref Rw 0 (Struct []))) ≡ 1
  pub function_size : size_under no_scope (function 1 long) ≡ 1
  pub capability_size : size_under no_scope (Of Lin (Cap Rw 0 (Struct []))) ≡ 0
  pub own_size : size_under no_scope (Of Lin (Own 0)) ≡ 0
  pub tuple_size : size_under no_scope (tuple (long ∷ unit_type ∷ Of Lin (Own 0) ∷ tuple (short ∷ short ∷ []) ∷ [])) ≡ 3
  pub hidden_size : size_under no_scope (Of Unr (Hidden L (tuple (address 0 ∷ long ∷ [])))) ≡ 2
  pub recursive_size : size_under no_scope (Rec Lin 7 long) ≡ 7
  pub inner_size : size_under (scope_of (Kind Unr 3 ∷ Loc L ∷ Kind Lin 5 ∷ [])) (Var 0) ≡ 5
  pub outer_size : size_under (scope_of (Kind Unr 3 ∷ Loc L ∷ Kind Lin 5 ∷ [])) (Var 1) ≡ 3
  pub large_size : size_under (scope_of (Kind Unr 4294967295 ∷ [])) (tuple (Var 0 ∷ Var 0 ∷ [])) ≡ 8589934590
  pub inner_qual : qual_under (scope_of (Kind Unr 3 ∷ Kind Lin 5 ∷ [])) (Var 0) ≡ Lin
  pub outer_qual : qual_under (scope_of (Kind Unr 3 ∷ Kind Lin 5 ∷ [])) (Var 1) ≡ Unr
  pub recursive_qual : qual_under no_scope (Rec Lin 7 long) ≡ Lin
  pub struct_words : heap_words no_scope (Struct (slot long 1 ∷ slot unit_type 4 ∷ [])) ≡ 5
  pub variant_words : heap_words no_scope (Variant (long ∷ tuple (long ∷ long ∷ []) ∷ unit_type ∷ [])) ≡ 3
  pub no_case_words : heap_words no_scope (Variant []) ≡ 1
  pub array_words : heap_words no_scope (Array (tuple (long ∷ long ∷ []))) ≡ 3
  pub package_words : heap_words no_scope (Exist Unr 3 (tuple (Var 0 ∷ long ∷ []))) ≡ 4

-- a type that is not well formed
abbrev pub IsRefused : List Binder → Ty → Type 0
IsRefused bs t = IsWellFormed (scope_of bs) t → ⊥

-- well-formed types, and types that lack one rule each
pub record WorkedForms : Type 0 where
  pub cell_form : IsWellFormed no_scope cell
  pub closure_form : IsWellFormed no_scope closure
  pub list_form : IsWellFormed no_scope number_list
  pub function_form : IsWellFormed (scope_of (Loc U ∷ Kind Lin 2 ∷ [])) (function 1 (Var 0))
  pub greatest_variable : IsWellFormed (scope_of (Kind Unr 10000 ∷ [])) (Var 0)
  pub linear_case : IsWellFormedHeap no_scope L (Variant (cell ∷ long ∷ []))
  pub linear_slot : IsWellFormedHeap no_scope U (Struct (slot cell 1 ∷ []))
  pub free_location : IsRefused [] (address 0)
  pub free_variable : IsRefused (Loc L ∷ []) (Var 0)
  pub free_in_function : IsRefused (Loc U ∷ []) (function 2 long)
  pub large_variable : IsRefused (Kind Unr 10001 ∷ []) (Var 0)
  pub large_tuple : IsRefused (Kind Unr 10000 ∷ []) (tuple (Var 0 ∷ long ∷ []))
  pub large_variant : IsRefused (Kind Unr 10000 ∷ []) (hidden_reference Unr U (Variant (Var 0 ∷ [])))
  pub linear_part : IsRefused [] (tuple (cell ∷ []))
  pub linear_body : IsRefused [] (Of Unr (Hidden U cell))
  pub unrestricted_capability : IsRefused (Loc L ∷ []) (Of Unr (Cap Rw 0 (Struct [])))
  pub capability_elsewhere : IsRefused (Loc U ∷ []) (Of Lin (Cap Rw 0 (Struct [])))
  pub own_elsewhere : IsRefused (Loc U ∷ []) (Of Lin (Own 0))
  pub unrestricted_reference : IsRefused (Loc L ∷ []) (Of Unr (Ref Rw 0 (Struct [])))
  pub reading_reference : IsRefused (Loc U ∷ []) (Of Unr (Ref R 0 (Struct [])))
  pub body_of_other_size : IsRefused [] (Rec Unr 2 long)
  pub body_of_other_qualifier : IsRefused [] (Rec Lin 1 long)
  pub small_slot : IsRefused (Loc U ∷ []) (Of Unr (Ref Rw 0 (Struct (slot long 0 ∷ []))))
  pub linear_element : IsRefused (Loc L ∷ []) (Of Lin (Ref Rw 0 (Array cell)))
  pub linear_case_elsewhere : IsRefused (Loc U ∷ []) (Of Unr (Ref Rw 0 (Variant (cell ∷ []))))
  pub linear_package_elsewhere : IsRefused (Loc U ∷ []) (Of Unr (Ref Rw 0 (Exist Lin 1 (Var 0))))

-- instances: an argument stands where its number was, the last one for the innermost binder; it is raised by the
-- binders within; what was free is lowered, and each kind of number is counted apart
pub record WorkedInstances : Type 0 where
  pub raised : raise (record { locations = 1; variables = 0 }) (tuple (address 0 ∷ Var 0 ∷ [])) ≡ tuple (address 1 ∷ Var 0 ∷ [])
  pub raised_below : raise (record { locations = 2; variables = 0 }) (Of Unr (Hidden L (tuple (address 0 ∷ address 1 ∷ [])))) ≡ Of Unr (Hidden L (tuple (address 0 ∷ address 3 ∷ [])))
  pub unfolded : instance (list_body (Var 0)) (to_type number_list ∷ []) ≡ list_body number_list
  pub packed : instance (Of Lin (Ref Rw 0 (Struct (slot (address 1) 1 ∷ [])))) (to_location 3 ∷ []) ≡ Of Lin (Ref Rw 3 (Struct (slot (address 0) 1 ∷ [])))
  pub in_order : instance (tuple (address 0 ∷ address 1 ∷ address 2 ∷ [])) (to_location 5 ∷ to_location 6 ∷ []) ≡ tuple (address 6 ∷ address 5 ∷ address 0 ∷ [])
  pub apart : instance (tuple (address 0 ∷ Var 0 ∷ Var 1 ∷ [])) (to_type long ∷ []) ≡ tuple (address 0 ∷ long ∷ Var 0 ∷ [])
  pub put_below : instance (Of Unr (Hidden L (tuple (address 0 ∷ Var 0 ∷ [])))) (to_type (address 0) ∷ []) ≡ Of Unr (Hidden L (tuple (address 0 ∷ address 1 ∷ [])))
  pub put_in_function : instance (function 1 (Var 0)) (to_location 2 ∷ to_type (address 2) ∷ []) ≡ function 3 (address 3)
  pub put_in_package : instance (Of Lin (Ref Rw 0 (Exist Unr 1 (tuple (Var 0 ∷ Var 1 ∷ []))))) (to_type (Var 4) ∷ []) ≡ Of Lin (Ref Rw 0 (Exist Unr 1 (tuple (Var 0 ∷ Var 5 ∷ []))))
