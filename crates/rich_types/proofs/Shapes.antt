-- Walks over the trees that code makes: one equation for each constructor with types in it.
use Rattle.std.proofs.Common.{◌≡◌, ℕ, List, ◌∷◌, refl, ap, ◌∙◌}
use Rattle.rw_types.specs.declared.types.Mem.{Mem}
use Rattle.rw_types.specs.declared.types.Qual.{Qual}
use Rattle.rw_types.specs.declared.types.Slot.{Slot}
use Rattle.rw_types.specs.declared.types.FunType.{FunType}
use Rattle.rw_types.specs.declared.types.Ty.{Ty, Row_of-Ty, end_of-Ty, more_of-Ty, items-the_row-Ty, items_hidden-the_row-Ty-1}
use Rattle.rw_types.specs.declared.types.Ty.TheVariants.{Rec}
use Rattle.rw_types.specs.declared.types.Pre.TheVariants.{Tuple, Hidden, Code}
use Rattle.rw_types.specs.declared.types.Heap.{Row_of-Slot, end_of-Slot, more_of-Slot, items-the_row-Slot, items_hidden-the_row-Slot-0}
use Rattle.rw_types.specs.declared.types.Heap.TheVariants.{Struct, Variant, Array, Exist}
use Rattle.rw_types.specs.declared.types.Heap.TheBlock.{hidden-the_row-Ty-1, hidden-the_row-Ty-2, hidden-the_row-Slot-0, hidden-the_row-FunType-3}
use Rattle.rich_types.specs.declared.depth.Depth.{Depth}
use Rattle.rich_types.specs.Walks.{Leaves, below, below_location, below_variable, walk, walk_pre, walk_heap, walk_row, walk_slot_row, walk_list, walk_slots, walk_function}

module _ (f : Leaves) (d : Depth) where
  pub walk_row-items : {n : _} (row : Row_of-Ty n) → walk_row f d row ≡ walk_list f d (items-the_row-Ty _ row)
  walk_row-items end_of-Ty = refl
  walk_row-items (more_of-Ty t ts) = ap (λ (l : List Ty). walk f d t ∷ l) (walk_row-items ts)

  pub walk_slot_row-items : {n : _} (row : Row_of-Slot n) → walk_slot_row f d row ≡ walk_slots f d (items-the_row-Slot _ row)
  walk_slot_row-items end_of-Slot = refl
  walk_slot_row-items (more_of-Slot t s ss) = ap (λ (l : List Slot). record { ty = walk f d t; size = s } ∷ l) (walk_slot_row-items ss)

  walk_row-hidden : (ts : List Ty) → walk_row f d (hidden-the_row-Ty-1 ts) ≡ walk_list f d ts
  walk_row-hidden ts = walk_row-items (hidden-the_row-Ty-1 ts) ∙ ap (walk_list f d) (items_hidden-the_row-Ty-1 ts)

  pub walk-Rec : (q : Qual) (s : ℕ) (t : Ty) → walk f d (Rec q s t) ≡ Rec q s (walk f (below_variable d) t)
  unfolding hidden-the_row-Ty-2 denote.Hole.Carrier.hidden
  walk-Rec q s t = refl

  pub walk-Tuple : (ts : List Ty) → walk_pre f d (Tuple ts) ≡ Tuple (walk_list f d ts)
  walk-Tuple ts = ap Tuple (walk_row-hidden ts)

  pub walk-Hidden : (m : Mem) (t : Ty) → walk_pre f d (Hidden m t) ≡ Hidden m (walk f (below_location d) t)
  unfolding hidden-the_row-Ty-2 denote.Hole.Carrier.hidden
  walk-Hidden m t = refl

  pub walk-Struct : (ss : List Slot) → walk_heap f d (Struct ss) ≡ Struct (walk_slots f d ss)
  walk-Struct ss = ap Struct (walk_slot_row-items (hidden-the_row-Slot-0 ss) ∙ ap (walk_slots f d) (items_hidden-the_row-Slot-0 ss))

  pub walk-Variant : (ts : List Ty) → walk_heap f d (Variant ts) ≡ Variant (walk_list f d ts)
  walk-Variant ts = ap Variant (walk_row-hidden ts)

  pub walk-Array : (t : Ty) → walk_heap f d (Array t) ≡ Array (walk f d t)
  unfolding hidden-the_row-Ty-2 denote.Hole.Carrier.hidden
  walk-Array t = refl

  pub walk-Exist : (q : Qual) (s : ℕ) (t : Ty) → walk_heap f d (Exist q s t) ≡ Exist q s (walk f (below_variable d) t)
  unfolding hidden-the_row-Ty-2 denote.Hole.Carrier.hidden
  walk-Exist q s t = refl

pub walk-Code : (f : Leaves) (d : Depth) (g : FunType) → walk_pre f d (Code g) ≡ Code (walk_function f d g)
unfolding hidden-the_row-FunType-3 hidden-the_row-Ty-1 denote.Hole.Carrier.hidden
walk-Code f d g =
    ap (λ (l : List Ty). Code (record { binders = g.binders; params = l; results = walk_row f (below g.binders d) (hidden-the_row-Ty-1 g.results) })) (walk_row-hidden f (below g.binders d) g.params)
    ∙ ap (λ (l : List Ty). Code (record { binders = g.binders; params = walk_list f (below g.binders d) g.params; results = l })) (walk_row-hidden f (below g.binders d) g.results)

pub ruleset walks = (walk-Rec, walk-Tuple, walk-Hidden, walk-Code, walk-Struct, walk-Variant, walk-Array, walk-Exist)
