-- The rows on rights and on cells, inverted: taker by taker.
use Rattle.std.proofs.Common.{◌≡◌, ◌∙◌, ℕ, List, [], ◌∷◌, Some, None, ap, sym, subst, length, take, reverse}
use Rattle.std.specs.Prelude.{slice_get, ◌==◌}
use Rattle.std.proofs.lemmas.Bool.{eqb-true}
use Rattle.rw_types.specs.declared.types.Arg.TheVariants.{Given}
use Rattle.rw_types.specs.declared.types.Heap.TheVariants.{Exist, Struct, Variant}
use Rattle.rw_types.specs.declared.types.Mem.{Mem}
use Rattle.rw_types.specs.declared.types.Mem.TheVariants.{L, U}
use Rattle.rw_types.specs.declared.types.Pre.{Own, Ptr}
use Rattle.rw_types.specs.declared.types.Priv.{Priv}
use Rattle.rw_types.specs.declared.types.Qual.{Qual}
use Rattle.rw_types.specs.declared.types.Slot.{Slot}
use Rattle.rw_types.specs.declared.types.Ty.{Of, Ty}
use Rattle.rich_types.specs.Scopes.{Scope, memory_of, with_variable}
use Rattle.rich_types.specs.Sizes.{size_under}
use Rattle.rich_types.specs.Instances.{instance, raise}
use Rattle.rich_typing.specs.declared.rules.Rule.TheVariants as rule
use Rattle.rich_rules.specs.Equality.{same}
use Rattle.rich_rules.specs.Forms.{first_ill_formed, fits, has_qual, is_formed, is_linear_location, is_linear_memory, is_r, is_rw, is_unr_type}
use Rattle.rich_rules.specs.Points.{Outcome}
use Rattle.rich_rules.specs.Raised.{one_location, raise_all}
use Rattle.rich_rules.specs.Takers.{first_held, gives_formed, unr_i32, without}
use Rattle.rich_rules.specs.Rights.{cap_join_row, cap_split_row, ref_join_row, ref_split_row}
use Rattle.rich_rules.specs.Structs.{first_larger, new_cell, slot_takes, slot_types, slots_of, struct_free_row, struct_get_row, struct_malloc_row, struct_set_row, struct_swap_row}
use Rattle.rich_rules.specs.Cells.{array_free_row, array_get_row, array_len_row, array_malloc_row, array_set_row, exist_pack_row, variant_malloc_row}
use Rattle.rich_rules_laws.proofs.Compared.{sound}
use Rattle.rich_rules_inversions.specs.Cells as s
use Rattle.rich_rules_inversions.specs.Cells.{Goes, CellRowsInverted, IsCapability, SlotTakes}
use Rattle.rich_rules_inversions.proofs.Takers.{array_form-passed, cap_form-passed, gives_formed-passed, held_ref_form-passed, location_is, memory_is, need-passed, of_type-passed, one-passed, own_form-passed, ptr_form-passed, r_is, rw_is, struct_form-passed, taking-passed, this-passed, three-passed, two-passed, with_some-passed, without-passed}

-- an operand in the place of a type that it is
in_place : (operands beneath : List Ty) (t u : Ty) → operands ≡ t ∷ beneath → t ≡ u → operands ≡ u ∷ beneath
in_place operands beneath t u e f = e ∙ ap (λ (x : Ty). x ∷ beneath) f

in_second : (operands beneath : List Ty) (v t u : Ty) → operands ≡ v ∷ t ∷ beneath → t ≡ u → operands ≡ v ∷ u ∷ beneath
in_second operands beneath v t u e f = e ∙ ap (λ (x : Ty). v ∷ x ∷ beneath) f

-- what a slot takes
slot_takes-passed : (o : Outcome) → Goes o → (c : Scope) (m : Mem) (x : Slot) (t : Ty) (rest : Outcome) → slot_takes c m x t rest ≡ o → SlotTakes c m x t × (rest ≡ o)
slot_takes-passed o go c L x t rest r = need-passed o go (fits c x.size t) rule.SlotSize (Some t) None rest r
slot_takes-passed o go c U x t rest r = let y = need-passed o go (same t x.ty) rule.SlotType (Some t) (Some x.ty) rest r in (sound t x.ty y.0, y.1)

ref_split : (c : Scope) (operands : List Ty) (o : Outcome) → ref_split_row c operands ≡ o → Goes o → s.SplitsReference c operands o
ref_split c operands o r go =
    let a = one-passed o go operands _ r in
    let b = held_ref_form-passed o go a.0 _ a.3 in
    let d = need-passed o go (is_linear_location (memory_of c b.2)) _ _ _ _ b.6 in
    record { beneath = a.1; qual = b.0; privilege = b.1; location = b.2; content = b.3; taken = in_place operands a.1 a.0 _ a.2 b.4; held = b.5; memory = location_is (memory_of c b.2) d.0; given = sym d.1 }

ref_join : (operands : List Ty) (o : Outcome) → ref_join_row operands ≡ o → Goes o → s.JoinsReference operands o
ref_join operands o r go =
    let a = two-passed o go operands _ r in
    let b = cap_form-passed o go a.1 _ a.4 in
    let d = ptr_form-passed o go a.0 _ b.4 in
    let e = need-passed o go (b.1 == d.1) _ _ _ _ d.4 in
    let at : a.0 ≡ Of d.0 (Ptr b.1) = d.2 ∙ ap (λ (l : ℕ). Of d.0 (Ptr l)) (sym (eqb-true b.1 d.1 e.0)) in
    record { beneath = a.2; first = a.1; privilege = b.0; location = b.1; content = b.2; qual = d.0; taken = in_place operands (a.1 ∷ a.2) a.0 _ a.3 at; unrestricted = d.3; capability = b.3; given = sym e.1 }

cap_split : (operands : List Ty) (o : Outcome) → cap_split_row operands ≡ o → Goes o → s.SplitsCapability operands o
cap_split operands o r go =
    let a = one-passed o go operands _ r in
    let b = cap_form-passed o go a.0 _ a.3 in
    let d = need-passed o go (is_rw b.0) _ _ _ _ b.4 in
    record { beneath = a.1; first = a.0; location = b.1; content = b.2; taken = a.2; capability = subst (λ (p : Priv). IsCapability a.0 p b.1 b.2) (rw_is b.0 d.0) b.3; given = sym d.1 }

cap_join : (operands : List Ty) (o : Outcome) → cap_join_row operands ≡ o → Goes o → s.JoinsCapability operands o
cap_join operands o r go =
    let a = two-passed o go operands _ r in
    let b = cap_form-passed o go a.1 _ a.4 in
    let d = own_form-passed o go a.0 _ b.4 in
    let e = need-passed o go (is_r b.0) _ _ _ _ d.4 in
    let f = need-passed o go (b.1 == d.1) _ _ _ _ e.1 in
    let at : a.0 ≡ Of d.0 (Own b.1) = d.2 ∙ ap (λ (l : ℕ). Of d.0 (Own l)) (sym (eqb-true b.1 d.1 f.0)) in
    record { beneath = a.2; first = a.1; location = b.1; content = b.2; qual = d.0; taken = in_place operands (a.1 ∷ a.2) a.0 _ a.3 at; held = d.3; capability = subst (λ (p : Priv). IsCapability a.1 p b.1 b.2) (r_is b.0 e.0) b.3; given = sym f.1 }

struct_malloc : (c : Scope) (m : Mem) (sizes : List ℕ) (operands : List Ty) (o : Outcome) → struct_malloc_row c m sizes operands ≡ o → Goes o → s.MakesStruct c m sizes operands o
struct_malloc c m sizes operands o r go =
    let a = taking-passed o go (length sizes) operands (λ taken beneath. without (first_larger c (reverse taken) sizes) rule.SlotSize (gives_formed c (new_cell m (Struct (slots_of (raise_all one_location (reverse taken)) sizes))) beneath)) r in
    let b = without-passed o go (first_larger c (reverse (take (length sizes) operands)) sizes) rule.SlotSize _ a.1 in
    let d = gives_formed-passed o go c _ _ b.1 in
    record { enough = a.0; fit = b.0; formed = d.0; given = d.1 }

struct_free : (c : Scope) (operands : List Ty) (o : Outcome) → struct_free_row c operands ≡ o → Goes o → s.FreesStruct c operands o
struct_free c operands o r go =
    let a = one-passed o go operands _ r in
    let b = struct_form-passed o go c a.0 _ a.3 in
    let d = need-passed o go (is_linear_memory b.0.memory) _ _ _ _ b.3 in
    let e = need-passed o go (is_rw b.0.privilege) _ _ _ _ d.1 in
    let f = without-passed o go (first_held c (slot_types b.1)) _ _ e.1 in
    record { beneath = a.1; first = a.0; reference = b.0; slots = b.1; taken = a.2; form = b.2; memory = memory_is b.0.memory d.0; privilege = rw_is b.0.privilege e.0; unrestricted = f.0; given = sym f.1 }

struct_get : (c : Scope) (i : ℕ) (operands : List Ty) (o : Outcome) → struct_get_row c i operands ≡ o → Goes o → s.GetsSlot c i operands o
struct_get c i operands o r go =
    let a = one-passed o go operands _ r in
    let b = struct_form-passed o go c a.0 _ a.3 in
    let d = with_some-passed o go (slice_get b.1 i) _ _ _ b.3 in
    let e = need-passed o go (is_unr_type c d.0.ty) _ _ _ _ d.2 in
    record { beneath = a.1; first = a.0; reference = b.0; slots = b.1; slot = d.0; taken = a.2; form = b.2; found = d.1; unrestricted = e.0; given = sym e.1 }

struct_set : (c : Scope) (i : ℕ) (operands : List Ty) (o : Outcome) → struct_set_row c i operands ≡ o → Goes o → s.SetsSlot c i operands o
struct_set c i operands o r go =
    let a = two-passed o go operands _ r in
    let b = struct_form-passed o go c a.1 _ a.4 in
    let d = need-passed o go (is_rw b.0.privilege) _ _ _ _ b.3 in
    let e = with_some-passed o go (slice_get b.1 i) _ _ _ d.1 in
    let f = need-passed o go (is_unr_type c e.0.ty) _ _ _ _ e.2 in
    let g = slot_takes-passed o go c b.0.memory e.0 a.0 _ f.1 in
    record { beneath = a.2; value = a.0; first = a.1; reference = b.0; slots = b.1; slot = e.0; taken = a.3; form = b.2; privilege = rw_is b.0.privilege d.0; found = e.1; unrestricted = f.0; takes = g.0; given = sym g.1 }

struct_swap : (c : Scope) (i : ℕ) (operands : List Ty) (o : Outcome) → struct_swap_row c i operands ≡ o → Goes o → s.SwapsSlot c i operands o
struct_swap c i operands o r go =
    let a = two-passed o go operands _ r in
    let b = struct_form-passed o go c a.1 _ a.4 in
    let d = need-passed o go (is_rw b.0.privilege) _ _ _ _ b.3 in
    let e = with_some-passed o go (slice_get b.1 i) _ _ _ d.1 in
    let g = slot_takes-passed o go c b.0.memory e.0 a.0 _ e.2 in
    record { beneath = a.2; value = a.0; first = a.1; reference = b.0; slots = b.1; slot = e.0; taken = a.3; form = b.2; privilege = rw_is b.0.privilege d.0; found = e.1; takes = g.0; given = sym g.1 }

variant_malloc : (c : Scope) (m : Mem) (i : ℕ) (ts operands : List Ty) (o : Outcome) → variant_malloc_row c m i ts operands ≡ o → Goes o → s.MakesVariant c m i ts operands o
variant_malloc c m i ts operands o r go =
    let a = with_some-passed o go (slice_get ts i) _ _ _ r in
    let b = without-passed o go (first_ill_formed c ts) _ _ a.2 in
    let d = this-passed o go a.0 operands (gives_formed c (new_cell m (Variant (raise_all one_location ts)))) b.1 in
    let e = gives_formed-passed o go c _ _ d.2 in
    record { beneath = d.0; value = a.0; found = a.1; written = b.0; taken = d.1; formed = e.0; given = e.1 }

array_malloc : (c : Scope) (m : Mem) (operands : List Ty) (o : Outcome) → array_malloc_row c m operands ≡ o → Goes o → s.MakesArray c m operands o
array_malloc c m operands o r go =
    let a = two-passed o go operands _ r in
    let b = of_type-passed o go unr_i32 a.0 _ a.4 in
    let d = need-passed o go (is_unr_type c a.1) _ _ _ _ b.1 in
    let e = gives_formed-passed o go c _ _ d.1 in
    record { beneath = a.2; value = a.1; taken = in_place operands (a.1 ∷ a.2) a.0 _ a.3 b.0; unrestricted = d.0; formed = e.0; given = e.1 }

array_get : (c : Scope) (operands : List Ty) (o : Outcome) → array_get_row c operands ≡ o → Goes o → s.GetsElement c operands o
array_get c operands o r go =
    let a = two-passed o go operands _ r in
    let b = array_form-passed o go c a.1 _ a.4 in
    let d = of_type-passed o go unr_i32 a.0 _ b.3 in
    record { beneath = a.2; first = a.1; reference = b.0; element = b.1; taken = in_place operands (a.1 ∷ a.2) a.0 _ a.3 d.0; form = b.2; given = sym d.1 }

array_set : (c : Scope) (operands : List Ty) (o : Outcome) → array_set_row c operands ≡ o → Goes o → s.SetsElement c operands o
array_set c operands o r go =
    let a = three-passed o go operands _ r in
    let b = array_form-passed o go c a.2 _ a.5 in
    let d = of_type-passed o go unr_i32 a.1 _ b.3 in
    let e = of_type-passed o go b.1 a.0 _ d.1 in
    let f = need-passed o go (is_rw b.0.privilege) _ _ _ _ e.1 in
    record { beneath = a.3; first = a.2; reference = b.0; element = b.1; taken = in_second operands (a.2 ∷ a.3) b.1 a.1 _ (in_place operands (a.1 ∷ a.2 ∷ a.3) a.0 _ a.4 e.0) d.0; form = b.2; privilege = rw_is b.0.privilege f.0; given = sym f.1 }

array_len : (c : Scope) (operands : List Ty) (o : Outcome) → array_len_row c operands ≡ o → Goes o → s.GetsLength c operands o
array_len c operands o r go =
    let a = one-passed o go operands _ r in
    let b = array_form-passed o go c a.0 _ a.3 in
    record { beneath = a.1; first = a.0; reference = b.0; element = b.1; taken = a.2; form = b.2; given = sym b.3 }

array_free : (c : Scope) (operands : List Ty) (o : Outcome) → array_free_row c operands ≡ o → Goes o → s.FreesArray c operands o
array_free c operands o r go =
    let a = one-passed o go operands _ r in
    let b = array_form-passed o go c a.0 _ a.3 in
    let d = need-passed o go (is_linear_memory b.0.memory) _ _ _ _ b.3 in
    let e = need-passed o go (is_rw b.0.privilege) _ _ _ _ d.1 in
    record { beneath = a.1; first = a.0; reference = b.0; element = b.1; taken = a.2; form = b.2; memory = memory_is b.0.memory d.0; privilege = rw_is b.0.privilege e.0; given = sym e.1 }

exist_pack : (c : Scope) (m : Mem) (q : Qual) (size : ℕ) (t body : Ty) (operands : List Ty) (o : Outcome) → exist_pack_row c m q size t body operands ≡ o → Goes o → s.MakesPackage c m q size t body operands o
exist_pack c m q size t body operands o r go =
    let a = need-passed o go (is_formed c t) _ _ _ _ r in
    let b = need-passed o go (is_formed (with_variable q size c) body) _ _ _ _ a.1 in
    let d = need-passed o go (has_qual c q t) _ _ _ _ b.1 in
    let e = need-passed o go (size_under c t == size) _ _ _ _ d.1 in
    let f = this-passed o go (instance body (Given t ∷ [])) operands (gives_formed c (new_cell m (Exist q size (raise one_location body)))) e.1 in
    let g = gives_formed-passed o go c _ _ f.2 in
    record { beneath = f.0; written = a.0; written_body = b.0; qual = d.0; size = eqb-true (size_under c t) size e.0; taken = f.1; formed = g.0; given = g.1 }

pub rows : CellRowsInverted
rows = record { ref_split = ref_split; ref_join = ref_join; cap_split = cap_split; cap_join = cap_join; struct_malloc = struct_malloc; struct_free = struct_free; struct_get = struct_get; struct_set = struct_set; struct_swap = struct_swap; variant_malloc = variant_malloc; array_malloc = array_malloc; array_get = array_get; array_set = array_set; array_len = array_len; array_free = array_free; exist_pack = exist_pack }
