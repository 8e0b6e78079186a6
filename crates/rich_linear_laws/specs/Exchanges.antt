-- The ways in which an instruction exchanges operands for others. In none is an operand that is not `unr` dropped or copied: it
-- is passed on, it becomes a part of what is given, its parts are given, its cell is freed, or a function or a local gets it. This
-- project's own.
use Rattle.std.specs.Prelude.{◌≡◌, ℕ, List, [], ◌∷◌, ◌++◌, if◌then◌else◌, IsFalse, IsTrue, None, Option, Some, ⊤, length, reverse, slice_get}
use Rattle.rw_types.specs.declared.types.Arg.{Arg}
use Rattle.rw_types.specs.declared.types.Arg.TheVariants.{Given, Loc as to_location}
use Rattle.rw_types.specs.declared.types.FunType.{FunType}
use Rattle.rw_types.specs.declared.types.Heap.{Heap}
use Rattle.rw_types.specs.declared.types.Heap.TheVariants.{Array, Exist, Struct, Variant}
use Rattle.rw_types.specs.declared.types.Mem.{Mem}
use Rattle.rw_types.specs.declared.types.Mem.TheVariants.{L}
use Rattle.rw_types.specs.declared.types.Pre.{Cap, Own, Pre, Ptr, Ref}
use Rattle.rw_types.specs.declared.types.Pre.TheVariants.{Code, Hidden, Tuple}
use Rattle.rw_types.specs.declared.types.Priv.{Priv}
use Rattle.rw_types.specs.declared.types.Priv.TheVariants.{R, Rw}
use Rattle.rw_types.specs.declared.types.Qual.{Qual}
use Rattle.rw_types.specs.declared.types.Qual.TheVariants.{Lin, Unr}
use Rattle.rw_types.specs.declared.types.Slot.{Slot}
use Rattle.rw_types.specs.declared.types.Ty.{Of, Ty}
use Rattle.rw_types.specs.declared.types.Ty.TheVariants.{Rec}
use Rattle.rich_types.specs.Scopes.{Scope, memory_of, no_scope, scope_of, with_location}
use Rattle.rich_types.specs.Sizes.{qual_under, size_under}
use Rattle.rich_types.specs.Instances.{instance, raise}
use Rattle.rich_rules.specs.Forms.{is_unr_type}
use Rattle.rich_rules.specs.Points.{Becomes, Breaks, Change, Ends, Enters, Frame, GlobalType, Gives, Outcome, Point}
use Rattle.rich_rules.specs.Raised.{instances, one_location, raise_all}
use Rattle.rich_rules.specs.Structs.{new_cell, ref_with, slot_types, slots_of}
use Rattle.rich_rules.specs.Takers.{Reference, unr_i32, unr_unit}
use Rattle.rich_rules_inversions.specs.Cells.{IsReference}

-- those of these types that are not `unr`
abbrev pub linear : Scope → List Ty → List Ty
linear c [] = []
linear c (t ∷ ts) = if is_unr_type c t then linear c ts else t ∷ linear c ts

-- each global is `unr`, so that it may be got and set any number of times
abbrev pub AreGlobalsUnrestricted : List GlobalType → Type 0
AreGlobalsUnrestricted [] = ⊤
AreGlobalsUnrestricted (g ∷ gs) = IsTrue (is_unr_type no_scope g.ty) × AreGlobalsUnrestricted gs

-- operands that are taken, and others that are given for them
pub data Exchange (f : Frame) (c : Scope) (taken given : List Ty) : Type 0 where
  -- what is not `unr` is passed on as it is, in the same order
  passed_on : linear c given ≡ linear c taken → Exchange f c taken given
  qualified : (p : Pre) → taken ≡ Of Unr p ∷ [] → given ≡ Of Lin p ∷ [] → Exchange f c taken given
  -- what is taken becomes a part, or the body, of what is given; and the other way round
  grouped : (q : Qual) → given ≡ Of q (Tuple (reverse taken)) ∷ [] → Exchange f c taken given
  ungrouped : (q : Qual) (parts : List Ty) → taken ≡ Of q (Tuple parts) ∷ [] → given ≡ reverse parts → Exchange f c taken given
  folded : (q : Qual) (s : ℕ) (body : Ty) → taken ≡ instance body (Given (Rec q s body) ∷ []) ∷ [] → given ≡ Rec q s body ∷ [] → Exchange f c taken given
  unfolded : (q : Qual) (s : ℕ) (body : Ty) → taken ≡ Rec q s body ∷ [] → given ≡ instance body (Given (Rec q s body) ∷ []) ∷ [] → Exchange f c taken given
  hidden : (l : ℕ) (m : Mem) (t : Ty) → memory_of c l ≡ Some m → taken ≡ instance t (to_location l ∷ []) ∷ [] → given ≡ Of (qual_under (with_location m c) t) (Hidden m t) ∷ [] → Exchange f c taken given
  -- rights to a location, apart and together
  reference_split : (q : Qual) (p : Priv) (l : ℕ) (h : Heap) → taken ≡ Of q (Ref p l h) ∷ [] → given ≡ Of Unr (Ptr l) ∷ Of Lin (Cap p l h) ∷ [] → Exchange f c taken given
  reference_joined : (q r : Qual) (p : Priv) (l : ℕ) (h : Heap) → taken ≡ Of q (Ptr l) ∷ Of r (Cap p l h) ∷ [] → given ≡ Of Lin (Ref p l h) ∷ [] → Exchange f c taken given
  capability_split : (q : Qual) (l : ℕ) (h : Heap) → taken ≡ Of q (Cap Rw l h) ∷ [] → given ≡ Of Lin (Own l) ∷ Of Lin (Cap R l h) ∷ [] → Exchange f c taken given
  capability_joined : (q r : Qual) (l : ℕ) (h : Heap) → taken ≡ Of q (Own l) ∷ Of r (Cap R l h) ∷ [] → given ≡ Of Lin (Cap Rw l h) ∷ [] → Exchange f c taken given
  -- a new cell, that holds what is taken
  struct_made : (m : Mem) (sizes : List ℕ) → length taken ≡ length sizes → given ≡ new_cell m (Struct (slots_of (raise_all one_location (reverse taken)) sizes)) ∷ [] → Exchange f c taken given
  variant_made : (m : Mem) (i : ℕ) (t : Ty) (ts : List Ty) → slice_get ts i ≡ Some t → taken ≡ t ∷ [] → given ≡ new_cell m (Variant (raise_all one_location ts)) ∷ [] → Exchange f c taken given
  array_made : (m : Mem) (t : Ty) → IsTrue (is_unr_type c t) → taken ≡ unr_i32 ∷ t ∷ [] → given ≡ new_cell m (Array (raise one_location t)) ∷ [] → Exchange f c taken given
  package_made : (m : Mem) (q : Qual) (s : ℕ) (t body : Ty) → size_under c t ≡ s → taken ≡ instance body (Given t ∷ []) ∷ [] → given ≡ new_cell m (Exist q s (raise one_location body)) ∷ [] → Exchange f c taken given
  -- a slot gets another value: the old one is `unr`, or it is given
  slot_set : (u t : Ty) (r : Reference) (slots : List Slot) (i : ℕ) (s : Slot) → IsReference c t r (Struct slots) → slice_get slots i ≡ Some s → IsTrue (is_unr_type c s.ty) → taken ≡ u ∷ t ∷ [] → given ≡ ref_with r slots i s u ∷ [] → Exchange f c taken given
  slot_swapped : (u t : Ty) (r : Reference) (slots : List Slot) (i : ℕ) (s : Slot) → IsReference c t r (Struct slots) → slice_get slots i ≡ Some s → taken ≡ u ∷ t ∷ [] → given ≡ s.ty ∷ ref_with r slots i s u ∷ [] → Exchange f c taken given
  -- a cell of the linear memory is freed, of which all that it holds is `unr`
  struct_freed : (t : Ty) (r : Reference) (slots : List Slot) → IsReference c t r (Struct slots) → r.memory ≡ L → r.privilege ≡ Rw → linear c (slot_types slots) ≡ [] → taken ≡ t ∷ [] → given ≡ [] → Exchange f c taken given
  array_freed : (t : Ty) (r : Reference) (element : Ty) → IsReference c t r (Array element) → r.memory ≡ L → r.privilege ≡ Rw → IsTrue (is_unr_type c element) → taken ≡ t ∷ [] → given ≡ [] → Exchange f c taken given
  -- a function takes its parameters and gives its results
  called : (n : ℕ) (g : FunType) (args : List Arg) → slice_get f.functions n ≡ Some g → taken ≡ reverse (instances args g.params) → given ≡ reverse (instances args g.results) → Exchange f c taken given
  value_called : (g : FunType) → g.binders ≡ [] → taken ≡ Of Unr (Code g) ∷ reverse g.params → given ≡ reverse g.results → Exchange f c taken given

-- an exchange that changes no local; or what is not `unr` is moved out of a local, which becomes a unit; or an operand is moved
-- into a local whose old value is `unr`
pub data Moves (f : Frame) (c : Scope) (locals : List Ty) (change : Option Change) (taken given : List Ty) : Type 0 where
  exchanged : change ≡ None → Exchange f c taken given → Moves f c locals change taken given
  out_of_local : (n : ℕ) (t : Ty) → slice_get locals n ≡ Some t → IsFalse (is_unr_type c t) → change ≡ Some (Becomes n unr_unit) → taken ≡ [] → given ≡ t ∷ [] → Moves f c locals change taken given
  into_local : (n : ℕ) (t old : Ty) → slice_get locals n ≡ Some old → IsTrue (is_unr_type c old) → change ≡ Some (Becomes n t) → taken ≡ t ∷ [] → given ≡ [] → Moves f c locals change taken given

-- the operands after an instruction are those before, but for those on top that it exchanges
pub record ExchangesTop (f : Frame) (p : Point) (operands : List Ty) (change : Option Change) : Type 0 where
  pub taken : List Ty
  pub given : List Ty
  pub beneath : List Ty
  pub before : p.operands ≡ taken ++ beneath
  pub behind : operands ≡ given ++ beneath
  pub moves : Moves f (scope_of p.binders) p.locals change taken given

-- where operands are given
abbrev pub GivesByExchange : Frame → Point → Outcome → Type 0
GivesByExchange f p (Gives operands change) = ExchangesTop f p operands change
GivesByExchange f p Ends = ⊤
GivesByExchange f p (Enters e) = ⊤
GivesByExchange f p (Breaks b) = ⊤
