-- A walk whose leaves give back what they get gives back the type.
use Rattle.std.proofs.Common.{◌≡◌, ◌∙◌, ℕ, ◌+◌, List, [], ◌∷◌, refl, ap, sym, cond, true, false, arith}
use Rattle.std.proofs.Math.Dec.{ltb}
use Rattle.rw_types.specs.declared.types.Binder.{Binder}
use Rattle.rw_types.specs.declared.types.Slot.{Slot}
use Rattle.rw_types.specs.declared.types.Ty.{Ty, Of, Var, Rec', Row_of-Ty, end_of-Ty, more_of-Ty, items-the_row-Ty}
use Rattle.rw_types.specs.declared.types.Ty.TheVariants.{Rec}
use Rattle.rw_types.specs.declared.types.Pre.{Pre, Unit, I32, I64, Tuple', Ref, Ptr, Cap, Own, Hidden', Code', end_of-FunType, more_of-FunType, out-Pre, roll-out-Pre}
use Rattle.rw_types.specs.declared.types.Pre.TheVariants.{Tuple, Hidden, Code, rolls-Tuple, rolls-Code}
use Rattle.rw_types.specs.declared.types.Heap.{Heap, Struct', Variant', Array', Exist', Row_of-Slot, end_of-Slot, more_of-Slot, items-the_row-Slot, out-Heap, roll-out-Heap}
use Rattle.rw_types.specs.declared.types.Heap.TheVariants.{Struct, Variant, Array, Exist, rolls-Struct, rolls-Variant}
use Rattle.rw_types.specs.declared.types.Ty.{items_hidden-the_row-Ty-1}
use Rattle.rw_types.specs.declared.types.Heap.{items_hidden-the_row-Slot-0}
use Rattle.rw_types.specs.declared.types.Heap.TheBlock.{shown-the_row-Ty-1, shown-the_row-Slot-0, shown-the_row-FunType-3, hidden-the_row-FunType-3, hidden-the_row-Ty-2}
use Rattle.rich_types.specs.declared.depth.Depth.{Depth}
use Rattle.rich_types.specs.Walks.{Leaves, below, below_location, below_variable, outside, walk, walk_pre, walk_heap, walk_row, walk_slot_row}
use Rattle.rich_types.specs.Instances.{raise_number, raising}
use Rattle.rich_types_laws.specs.Laws.{RaisedByNothing}

-- the types and slots that stand in a form
parts_of : Pre → List Ty
parts_of (Tuple' m ts) = items-the_row-Ty _ ts
parts_of p = []

params_of : Pre → List Ty
params_of (Code' a (more_of-FunType bs m ps n rs end_of-FunType)) = items-the_row-Ty _ ps
params_of p = []

results_of : Pre → List Ty
results_of (Code' a (more_of-FunType bs m ps n rs end_of-FunType)) = items-the_row-Ty _ rs
results_of p = []

cases_of : Heap → List Ty
cases_of (Variant' m ts) = items-the_row-Ty _ ts
cases_of h = []

slots_of : Heap → List Slot
slots_of (Struct' m ss) = items-the_row-Slot _ ss
slots_of h = []

-- a form is made of what stands in it
pub whole-Tuple : (m : _) (ts : _) → Tuple (items-the_row-Ty _ ts) ≡ Tuple' m ts
unfolding out-Pre parts_of denote.Hole.Carrier.out
whole-Tuple m ts =
    let e : Tuple (shown-the_row-Ty-1 m ts) ≡ Tuple' m ts = sym (rolls-Tuple (shown-the_row-Ty-1 m ts)) ∙ roll-out-Pre (Tuple' m ts) in
    ap Tuple (sym (ap parts_of e) ∙ items_hidden-the_row-Ty-1 (shown-the_row-Ty-1 m ts)) ∙ e

pub whole-Variant : (m : _) (ts : _) → Variant (items-the_row-Ty _ ts) ≡ Variant' m ts
unfolding out-Heap cases_of denote.Hole.Carrier.out
whole-Variant m ts =
    let e : Variant (shown-the_row-Ty-1 m ts) ≡ Variant' m ts = sym (rolls-Variant (shown-the_row-Ty-1 m ts)) ∙ roll-out-Heap (Variant' m ts) in
    ap Variant (sym (ap cases_of e) ∙ items_hidden-the_row-Ty-1 (shown-the_row-Ty-1 m ts)) ∙ e

pub whole-Struct : (m : _) (ss : _) → Struct (items-the_row-Slot _ ss) ≡ Struct' m ss
unfolding out-Heap slots_of denote.Hole.Carrier.out
whole-Struct m ss =
    let e : Struct (shown-the_row-Slot-0 m ss) ≡ Struct' m ss = sym (rolls-Struct (shown-the_row-Slot-0 m ss)) ∙ roll-out-Heap (Struct' m ss) in
    ap Struct (sym (ap slots_of e) ∙ items_hidden-the_row-Slot-0 (shown-the_row-Slot-0 m ss)) ∙ e

pub whole-Code : (a : _) (bs : List Binder) (m : _) (ps : _) (n : _) (rs : _) → Code (record { binders = bs; params = items-the_row-Ty _ ps; results = items-the_row-Ty _ rs }) ≡ Code' a (more_of-FunType bs m ps n rs end_of-FunType)
unfolding out-Pre params_of results_of hidden-the_row-FunType-3 shown-the_row-FunType-3 denote.Hole.Carrier.out denote.Hole.Carrier.hidden denote.Hole.Carrier.shown
whole-Code a bs m ps n rs =
    let e : Code (record { binders = bs; params = shown-the_row-Ty-1 m ps; results = shown-the_row-Ty-1 n rs }) ≡ Code' a (more_of-FunType bs m ps n rs end_of-FunType) = sym (rolls-Code (record { binders = bs; params = shown-the_row-Ty-1 m ps; results = shown-the_row-Ty-1 n rs })) ∙ roll-out-Pre (Code' a (more_of-FunType bs m ps n rs end_of-FunType)) in
    ap (λ (l : List Ty). Code (record { binders = bs; params = l; results = items-the_row-Ty _ rs })) (sym (ap params_of e) ∙ items_hidden-the_row-Ty-1 (shown-the_row-Ty-1 m ps))
    ∙ ap (λ (l : List Ty). Code (record { binders = bs; params = shown-the_row-Ty-1 m ps; results = l })) (sym (ap results_of e) ∙ items_hidden-the_row-Ty-1 (shown-the_row-Ty-1 n rs))
    ∙ e

-- what is given back
pub record GivesBack (f : Leaves) : Type 0 where
  pub location : (d : Depth) (n : ℕ) → f.location d n ≡ n
  pub variable : (d : Depth) (n : ℕ) → f.variable d n ≡ Var n

module _ (f : Leaves) (back : GivesBack f) where
  mutual
    unfolding hidden-the_row-Ty-2 denote.Hole.Carrier.hidden

    pub unchanged : (d : Depth) (t : Ty) → walk f d t ≡ t
    unchanged d (Of q p) = ap (Of q) (unchanged_pre d p)
    unchanged d (Var n) = back.variable d n
    unchanged d (Rec' q s a (more_of-Ty t end_of-Ty)) = ap (Rec q s) (unchanged (below_variable d) t)

    unchanged_pre : (d : Depth) (p : Pre) → walk_pre f d p ≡ p
    unchanged_pre d Unit = refl
    unchanged_pre d I32 = refl
    unchanged_pre d I64 = refl
    unchanged_pre d (Tuple' m ts) = ap Tuple (unchanged_row d ts) ∙ whole-Tuple m ts
    unchanged_pre d (Ref p l h) = ap (λ (n : ℕ). Ref p n (walk_heap f d h)) (back.location d l) ∙ ap (Ref p l) (unchanged_heap d h)
    unchanged_pre d (Ptr l) = ap Ptr (back.location d l)
    unchanged_pre d (Cap p l h) = ap (λ (n : ℕ). Cap p n (walk_heap f d h)) (back.location d l) ∙ ap (Cap p l) (unchanged_heap d h)
    unchanged_pre d (Own l) = ap Own (back.location d l)
    unchanged_pre d (Hidden' m a (more_of-Ty t end_of-Ty)) = ap (Hidden m) (unchanged (below_location d) t)
    unchanged_pre d (Code' a (more_of-FunType bs m ps n rs end_of-FunType)) =
        ap (λ (l : List Ty). Code (record { binders = bs; params = l; results = walk_row f (below bs d) rs })) (unchanged_row (below bs d) ps)
        ∙ ap (λ (l : List Ty). Code (record { binders = bs; params = items-the_row-Ty _ ps; results = l })) (unchanged_row (below bs d) rs)
        ∙ whole-Code a bs m ps n rs

    unchanged_heap : (d : Depth) (h : Heap) → walk_heap f d h ≡ h
    unchanged_heap d (Struct' m ss) = ap Struct (unchanged_slots d ss) ∙ whole-Struct m ss
    unchanged_heap d (Variant' m ts) = ap Variant (unchanged_row d ts) ∙ whole-Variant m ts
    unchanged_heap d (Array' a (more_of-Ty t end_of-Ty)) = ap Array (unchanged d t)
    unchanged_heap d (Exist' q s a (more_of-Ty t end_of-Ty)) = ap (Exist q s) (unchanged (below_variable d) t)

    unchanged_row : (d : Depth) {n : _} (ts : Row_of-Ty n) → walk_row f d ts ≡ items-the_row-Ty _ ts
    unchanged_row d end_of-Ty = refl
    unchanged_row d (more_of-Ty t ts) = ap (λ (u : Ty). u ∷ walk_row f d ts) (unchanged d t) ∙ ap (λ (l : List Ty). t ∷ l) (unchanged_row d ts)

    unchanged_slots : (d : Depth) {n : _} (ss : Row_of-Slot n) → walk_slot_row f d ss ≡ items-the_row-Slot _ ss
    unchanged_slots d end_of-Slot = refl
    unchanged_slots d (more_of-Slot t s ss) = ap (λ (u : Ty). record { ty = u; size = s } ∷ walk_slot_row f d ss) (unchanged d t) ∙ ap (λ (l : List Slot). record { ty = t; size = s } ∷ l) (unchanged_slots d ss)

by_nothing : (d n : ℕ) → raise_number d 0 n ≡ n
by_nothing d n = let e : n + 0 ≡ n = omega arith in elim (ltb n d) as (λ b. cond b n (n + 0) ≡ n) [ true ↦ refl | false ↦ e ]

pub raised_by_nothing : RaisedByNothing
raised_by_nothing t = unchanged (raising outside) (record { location = λ d n. by_nothing d.locations n; variable = λ d n. ap Var (by_nothing d.variables n) }) outside t
