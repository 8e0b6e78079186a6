-- One walk after another is one walk, and walks whose leaves answer alike are the same: by induction on types.
use Rattle.std.proofs.Common.{◌≡◌, ℕ, List, [], ◌∷◌, refl, ap, ◌∙◌}
use Rattle.rich_types.specs.declared.depth.Depth.{Depth}
use Rattle.rw_types.specs.declared.types.Binder.{Binder}
use Rattle.rw_types.specs.declared.types.Binder.TheVariants.{Loc, Kind}
use Rattle.rw_types.specs.declared.types.Slot.{Slot}
use Rattle.rw_types.specs.declared.types.Ty.{Ty, Of, Var, Rec', Row_of-Ty, end_of-Ty, more_of-Ty}
use Rattle.rw_types.specs.declared.types.Ty.TheVariants.{Rec}
use Rattle.rw_types.specs.declared.types.Pre.{Pre, Unit, I32, I64, Tuple', Ref, Ptr, Cap, Own, Hidden', Code', end_of-FunType, more_of-FunType}
use Rattle.rw_types.specs.declared.types.Pre.TheVariants.{Tuple, Hidden, Code}
use Rattle.rw_types.specs.declared.types.Heap.{Heap, Struct', Variant', Array', Exist', Row_of-Slot, end_of-Slot, more_of-Slot}
use Rattle.rw_types.specs.declared.types.Heap.TheVariants.{Struct, Variant, Array, Exist}
use Rattle.rich_types.specs.Walks.{Leaves, walk, walk_pre, walk_heap, walk_row, walk_slot_row, walk_list, walk_slots, below, below_location, below_variable}
use Rattle.rich_types.proofs.Shapes.{walk-Rec, walk-Tuple, walk-Hidden, walk-Code, walk-Struct, walk-Variant, walk-Array, walk-Exist}

-- one change after another
abbrev pub after : Leaves → Leaves → Leaves
after f g = record {
  location = λ d n. f.location d (g.location d n);
  variable = λ d n. walk f d (g.variable d n);
}

module _ (f g : Leaves) where
  mutual
    pub walk_walk : (d : Depth) (t : Ty) → walk f d (walk g d t) ≡ walk (after f g) d t
    walk_walk d (Of q p) = ap (Of q) (walk_walk_pre d p)
    walk_walk d (Var n) = refl
    walk_walk d (Rec' q s a (more_of-Ty t end_of-Ty)) = walk-Rec f d q s (walk g (below_variable d) t) ∙ ap (Rec q s) (walk_walk (below_variable d) t)

    pub walk_walk_pre : (d : Depth) (p : Pre) → walk_pre f d (walk_pre g d p) ≡ walk_pre (after f g) d p
    walk_walk_pre d Unit = refl
    walk_walk_pre d I32 = refl
    walk_walk_pre d I64 = refl
    walk_walk_pre d (Tuple' m ts) = walk-Tuple f d (walk_row g d ts) ∙ ap Tuple (walk_walk_row d ts)
    walk_walk_pre d (Ref p l h) = ap (Ref p (f.location d (g.location d l))) (walk_walk_heap d h)
    walk_walk_pre d (Ptr l) = refl
    walk_walk_pre d (Cap p l h) = ap (Cap p (f.location d (g.location d l))) (walk_walk_heap d h)
    walk_walk_pre d (Own l) = refl
    walk_walk_pre d (Hidden' m a (more_of-Ty t end_of-Ty)) = walk-Hidden f d m (walk g (below_location d) t) ∙ ap (Hidden m) (walk_walk (below_location d) t)
    walk_walk_pre d (Code' a (more_of-FunType bs m ps n rs end_of-FunType)) =
        walk-Code f d (record { binders = bs; params = walk_row g (below bs d) ps; results = walk_row g (below bs d) rs })
        ∙ ap (λ (l : List Ty). Code (record { binders = bs; params = l; results = walk_list f (below bs d) (walk_row g (below bs d) rs) })) (walk_walk_row (below bs d) ps)
        ∙ ap (λ (l : List Ty). Code (record { binders = bs; params = walk_row (after f g) (below bs d) ps; results = l })) (walk_walk_row (below bs d) rs)

    pub walk_walk_heap : (d : Depth) (h : Heap) → walk_heap f d (walk_heap g d h) ≡ walk_heap (after f g) d h
    walk_walk_heap d (Struct' m ss) = walk-Struct f d (walk_slot_row g d ss) ∙ ap Struct (walk_walk_slots d ss)
    walk_walk_heap d (Variant' m ts) = walk-Variant f d (walk_row g d ts) ∙ ap Variant (walk_walk_row d ts)
    walk_walk_heap d (Array' a (more_of-Ty t end_of-Ty)) = walk-Array f d (walk g d t) ∙ ap Array (walk_walk d t)
    walk_walk_heap d (Exist' q s a (more_of-Ty t end_of-Ty)) = walk-Exist f d q s (walk g (below_variable d) t) ∙ ap (Exist q s) (walk_walk (below_variable d) t)

    pub walk_walk_row : (d : Depth) {n : _} (ts : Row_of-Ty n) → walk_list f d (walk_row g d ts) ≡ walk_row (after f g) d ts
    walk_walk_row d end_of-Ty = refl
    walk_walk_row d (more_of-Ty t ts) = ap (λ (u : Ty). u ∷ walk_list f d (walk_row g d ts)) (walk_walk d t) ∙ ap (λ (l : List Ty). walk (after f g) d t ∷ l) (walk_walk_row d ts)

    pub walk_walk_slots : (d : Depth) {n : _} (ss : Row_of-Slot n) → walk_slots f d (walk_slot_row g d ss) ≡ walk_slot_row (after f g) d ss
    walk_walk_slots d end_of-Slot = refl
    walk_walk_slots d (more_of-Slot t s ss) = ap (λ (u : Ty). record { ty = u; size = s } ∷ walk_slots f d (walk_slot_row g d ss)) (walk_walk d t) ∙ ap (λ (l : List Slot). record { ty = walk (after f g) d t; size = s } ∷ l) (walk_walk_slots d ss)

-- leaves that answer alike, at depths that stand in step
pub record Alike (f g : Leaves) (Meets : Depth → Depth → Type 0) : Type 0 where
  pub location : (d e : Depth) → Meets d e → (n : ℕ) → f.location d n ≡ g.location e n
  pub variable : (d e : Depth) → Meets d e → (n : ℕ) → f.variable d n ≡ g.variable e n
  pub deeper_location : (d e : Depth) → Meets d e → Meets (below_location d) (below_location e)
  pub deeper_variable : (d e : Depth) → Meets d e → Meets (below_variable d) (below_variable e)

module _ {f g : Leaves} {Meets : Depth → Depth → Type 0} (al : Alike f g Meets) where
  meets_under : (bs : List Binder) (d e : Depth) → Meets d e → Meets (below bs d) (below bs e)
  meets_under [] d e m = m
  meets_under (Loc x ∷ bs) d e m = meets_under bs (below_location d) (below_location e) (al.deeper_location d e m)
  meets_under (Kind q s ∷ bs) d e m = meets_under bs (below_variable d) (below_variable e) (al.deeper_variable d e m)

  mutual
    pub walk_alike : (d e : Depth) → Meets d e → (t : Ty) → walk f d t ≡ walk g e t
    walk_alike d e m (Of q p) = ap (Of q) (alike_pre d e m p)
    walk_alike d e m (Var n) = al.variable d e m n
    walk_alike d e m (Rec' q s a (more_of-Ty t end_of-Ty)) = ap (Rec q s) (walk_alike (below_variable d) (below_variable e) (al.deeper_variable d e m) t)

    pub alike_pre : (d e : Depth) → Meets d e → (p : Pre) → walk_pre f d p ≡ walk_pre g e p
    alike_pre d e m Unit = refl
    alike_pre d e m I32 = refl
    alike_pre d e m I64 = refl
    alike_pre d e m (Tuple' a ts) = ap Tuple (alike_row d e m ts)
    alike_pre d e m (Ref p l h) = ap (λ (n : ℕ). Ref p n (walk_heap f d h)) (al.location d e m l) ∙ ap (Ref p (g.location e l)) (alike_heap d e m h)
    alike_pre d e m (Ptr l) = ap Ptr (al.location d e m l)
    alike_pre d e m (Cap p l h) = ap (λ (n : ℕ). Cap p n (walk_heap f d h)) (al.location d e m l) ∙ ap (Cap p (g.location e l)) (alike_heap d e m h)
    alike_pre d e m (Own l) = ap Own (al.location d e m l)
    alike_pre d e m (Hidden' x a (more_of-Ty t end_of-Ty)) = ap (Hidden x) (walk_alike (below_location d) (below_location e) (al.deeper_location d e m) t)
    alike_pre d e m (Code' a (more_of-FunType bs x ps y rs end_of-FunType)) =
        ap (λ (l : List Ty). Code (record { binders = bs; params = l; results = walk_row f (below bs d) rs })) (alike_row (below bs d) (below bs e) (meets_under bs d e m) ps)
        ∙ ap (λ (l : List Ty). Code (record { binders = bs; params = walk_row g (below bs e) ps; results = l })) (alike_row (below bs d) (below bs e) (meets_under bs d e m) rs)

    pub alike_heap : (d e : Depth) → Meets d e → (h : Heap) → walk_heap f d h ≡ walk_heap g e h
    alike_heap d e m (Struct' a ss) = ap Struct (alike_slots d e m ss)
    alike_heap d e m (Variant' a ts) = ap Variant (alike_row d e m ts)
    alike_heap d e m (Array' a (more_of-Ty t end_of-Ty)) = ap Array (walk_alike d e m t)
    alike_heap d e m (Exist' q s a (more_of-Ty t end_of-Ty)) = ap (Exist q s) (walk_alike (below_variable d) (below_variable e) (al.deeper_variable d e m) t)

    pub alike_row : (d e : Depth) → Meets d e → {n : _} (ts : Row_of-Ty n) → walk_row f d ts ≡ walk_row g e ts
    alike_row d e m end_of-Ty = refl
    alike_row d e m (more_of-Ty t ts) = ap (λ (u : Ty). u ∷ walk_row f d ts) (walk_alike d e m t) ∙ ap (λ (l : List Ty). walk g e t ∷ l) (alike_row d e m ts)

    pub alike_slots : (d e : Depth) → Meets d e → {n : _} (ss : Row_of-Slot n) → walk_slot_row f d ss ≡ walk_slot_row g e ss
    alike_slots d e m end_of-Slot = refl
    alike_slots d e m (more_of-Slot t s ss) = ap (λ (u : Ty). record { ty = u; size = s } ∷ walk_slot_row f d ss) (walk_alike d e m t) ∙ ap (λ (l : List Slot). record { ty = walk g e t; size = s } ∷ l) (alike_slots d e m ss)
