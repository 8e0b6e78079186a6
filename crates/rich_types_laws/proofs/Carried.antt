-- A walk that keeps what numbers stand for keeps well-formed types, their qualifiers and their sizes: by induction on
-- types.
use Rattle.std.proofs.Common.{◌≡◌, ◌≤◌, ◌∙◌, ℕ, ◌+◌, List, [], ◌∷◌, Option, Some, None, refl, ap, sym, subst}
use Rattle.std.specs.Prelude.{IsSome, max}
use Rattle.std.specs.Option.{IsSomeAnd}
use Rattle.std.proofs.Math.Path.{subst⁻¹}
use Rattle.rw_types.specs.declared.types.Binder.{Binder}
use Rattle.rw_types.specs.declared.types.Binder.TheVariants.{Loc, Kind}
use Rattle.rw_types.specs.declared.types.Mem.{Mem}
use Rattle.rw_types.specs.declared.types.Mem.TheVariants.{L}
use Rattle.rw_types.specs.declared.types.Qual.{Qual}
use Rattle.rw_types.specs.declared.types.Qual.TheVariants.{Unr, Lin}
use Rattle.rw_types.specs.declared.types.Ty.{Ty, Of, Var, Rec', Row_of-Ty, end_of-Ty, more_of-Ty}
use Rattle.rw_types.specs.declared.types.Pre.{Pre, Unit, I32, I64, Tuple', Ref, Ptr, Cap, Own, Hidden', Code', end_of-FunType, more_of-FunType}
use Rattle.rw_types.specs.declared.types.Heap.{Heap, Struct', Variant', Array', Exist', Row_of-Slot, end_of-Slot, more_of-Slot}
use Rattle.rich_types.specs.declared.depth.Depth.{Depth}
use Rattle.rich_types.specs.declared.variables.VariableKind.{VariableKind}
use Rattle.rich_types.specs.Scopes.{Scope, within, with_location, with_variable, memory_of, variable_of}
use Rattle.rich_types.specs.Sizes.{qual_under, size_under, pre_size, row_size, row_greatest, row_slot_words, list_size, list_greatest, slot_words, variable_qual, variable_size}
use Rattle.rich_types.specs.Walks.{Leaves, below, below_location, below_variable, walk, walk_pre, walk_heap, walk_row, walk_slot_row}
use Rattle.rich_types.specs.WellFormed.{most_words, content_qual, IsAtMost, MayRefer, MayOwn, IsWellFormed, IsWellFormedPre, IsWellFormedHeap, IsRowOfParts, IsRowOfSlots, AreParts, AreSlots}
use Rattle.rich_types.proofs.Sized.{size-Tuple, size-Hidden, form-Rec, form-Tuple, form-Hidden, form-Code, form-Struct, form-Variant, form-Array, form-Exist}

-- a type is well formed, of this qualifier and this size
pub record Keeps (c : Scope) (t : Ty) (q : Qual) (s : ℕ) : Type 0 where
  pub form : IsWellFormed c t
  pub qual : qual_under c t ≡ q
  pub size : size_under c t ≡ s

-- at depths and scopes that stand in step, what a number stands for is kept
pub record Carries (f : Leaves) (At : Depth → Scope → Scope → Type 0) : Type 0 where
  pub location : (d : Depth) (c e : Scope) → At d c e → (n : ℕ) (m : Mem) → memory_of c n ≡ Some m → memory_of e (f.location d n) ≡ Some m
  pub variable : (d : Depth) (c e : Scope) → At d c e → (n : ℕ) (k : VariableKind) → variable_of c n ≡ Some k → k.size ≤ most_words → Keeps e (f.variable d n) k.qual k.size
  pub deeper_location : (d : Depth) (c e : Scope) → At d c e → (m : Mem) → At (below_location d) (with_location m c) (with_location m e)
  pub deeper_variable : (d : Depth) (c e : Scope) → At d c e → (q : Qual) (s : ℕ) → At (below_variable d) (with_variable q s c) (with_variable q s e)

-- by what is there
bound : {A : Type 0} (P : A → Type 0) (o : Option A) → IsSomeAnd o P → (x : A) × (o ≡ Some x) × P x
bound P (Some x) h = (x, refl, h)
bound P None h = absurd h

is_there : {A : Type 0} (o : Option A) → IsSome o → (x : A) × (o ≡ Some x)
is_there (Some x) h = (x, refl)
is_there None h = cc

there : {A : Type 0} (P : A → Type 0) (o : Option A) (x : A) → o ≡ Some x → P x → IsSomeAnd o P
there P o x e h = subst⁻¹ (λ o'. IsSomeAnd o' P) e h

-- along an equation of types
turn : {A B : Type 0} → A ≡ B → A → B
turn e a = subst (λ (X : Type 0). X) e a

unturn : {A B : Type 0} → A ≡ B → B → A
unturn e b = subst⁻¹ (λ (X : Type 0). X) e b

-- a type of the same qualifier may stand where it could
at_most : (q r most : Qual) → q ≡ r → IsAtMost r most → IsAtMost q most
at_most q r most e h = subst⁻¹ (λ x. IsAtMost x most) e h

-- a number that is not greater, being the same
few : (n m s : ℕ) → n ≡ m → m ≤ s → n ≤ s
few n m s e h = subst⁻¹ (λ (x : ℕ). x ≤ s) e h

module _ {f : Leaves} {At : Depth → Scope → Scope → Type 0} (carries : Carries f At) where
  at_within : (bs : List Binder) (d : Depth) (c e : Scope) → At d c e → At (below bs d) (within bs c) (within bs e)
  at_within [] d c e at = at
  at_within (Loc m ∷ bs) d c e at = at_within bs (below_location d) (with_location m c) (with_location m e) (carries.deeper_location d c e at m)
  at_within (Kind q s ∷ bs) d c e at = at_within bs (below_variable d) (with_variable q s c) (with_variable q s e) (carries.deeper_variable d c e at q s)

  own_kept : (d : Depth) (c e : Scope) → At d c e → (q : Qual) (l : ℕ) → MayOwn q (memory_of c l) → MayOwn q (memory_of e (f.location d l))
  own_kept d c e at q l h = (h.0, carries.location d c e at l L h.1)

  mutual
    pub carried : (d : Depth) (c e : Scope) → At d c e → (t : Ty) → IsWellFormed c t → Keeps e (walk f d t) (qual_under c t) (size_under c t)
    carried d c e at (Of q p) h =
        let r = carried_pre d c e at q p h.1 in
        record { form = (few (pre_size e (walk_pre f d p)) (pre_size c p) most_words r.1 h.0, r.0); qual = refl; size = r.1 }
    carried d c e at (Var n) h =
        let b = bound (λ (k : VariableKind). k.size ≤ most_words) (variable_of c n) h in
        let r = carries.variable d c e at n b.0 b.1 b.2 in
        record { form = r.form; qual = r.qual ∙ sym (ap variable_qual b.1); size = r.size ∙ sym (ap variable_size b.1) }
    carried d c e at (Rec' q s a (more_of-Ty t end_of-Ty)) h =
        let r = carried (below_variable d) (with_variable q s c) (with_variable q s e) (carries.deeper_variable d c e at q s) t h.1 in
        record {
          form = unturn (form-Rec e q s (walk f (below_variable d) t)) (h.0, r.form, (r.qual ∙ h.2.0, r.size ∙ h.2.1));
          qual = refl;
          size = refl;
        }

    carried_pre : (d : Depth) (c e : Scope) → At d c e → (q : Qual) (p : Pre) → IsWellFormedPre c q p → IsWellFormedPre e q (walk_pre f d p) × (pre_size e (walk_pre f d p) ≡ pre_size c p)
    carried_pre d c e at q Unit h = (tt, refl)
    carried_pre d c e at q I32 h = (tt, refl)
    carried_pre d c e at q I64 h = (tt, refl)
    carried_pre d c e at q (Tuple' m ts) h =
        let r = carried_row d c e at q ts h in
        (unturn (form-Tuple e q (walk_row f d ts)) r.0, size-Tuple e (walk_row f d ts) ∙ r.1)
    carried_pre d c e at q (Ref p l h) w =
        let b = bound (λ (m : Mem). MayRefer q p m × IsWellFormedHeap c m h) (memory_of c l) w in
        (there (λ (m : Mem). MayRefer q p m × IsWellFormedHeap e m (walk_heap f d h)) (memory_of e (f.location d l)) b.0 (carries.location d c e at l b.0 b.1) (b.2.0, carried_heap d c e at b.0 h b.2.1), refl)
    carried_pre d c e at q (Ptr l) h =
        let b = is_there (memory_of c l) h in
        (rw (carries.location d c e at l b.0 b.1) refl, refl)
    carried_pre d c e at q (Cap p l h) w = ((own_kept d c e at q l w.0, carried_heap d c e at L h w.1), refl)
    carried_pre d c e at q (Own l) h = (own_kept d c e at q l h, refl)
    carried_pre d c e at q (Hidden' m a (more_of-Ty t end_of-Ty)) h =
        let r = carried (below_location d) (with_location m c) (with_location m e) (carries.deeper_location d c e at m) t h.0 in (
          unturn (form-Hidden e q m (walk f (below_location d) t)) (r.form, at_most (qual_under (with_location m e) (walk f (below_location d) t)) (qual_under (with_location m c) t) q r.qual h.1),
          size-Hidden e m (walk f (below_location d) t) ∙ r.size,
        )
    carried_pre d c e at q (Code' a (more_of-FunType bs m ps n rs end_of-FunType)) h =
        let inner = at_within bs d c e at in
        let p = carried_row (below bs d) (within bs c) (within bs e) inner Lin ps h.0 in
        let r = carried_row (below bs d) (within bs c) (within bs e) inner Lin rs h.1 in
        (unturn (form-Code e q (record { binders = bs; params = walk_row f (below bs d) ps; results = walk_row f (below bs d) rs })) (p.0, r.0), refl)

    carried_heap : (d : Depth) (c e : Scope) → At d c e → (m : Mem) (h : Heap) → IsWellFormedHeap c m h → IsWellFormedHeap e m (walk_heap f d h)
    carried_heap d c e at m (Struct' n ss) h =
        let r = carried_slots d c e at ss h.1 in
        unturn (form-Struct e m (walk_slot_row f d ss)) (few (slot_words (walk_slot_row f d ss)) (row_slot_words ss) most_words r.1 h.0, r.0)
    carried_heap d c e at m (Variant' n ts) h =
        let r = carried_row d c e at (content_qual m) ts h.1 in
        unturn (form-Variant e m (walk_row f d ts)) (few (1 + list_greatest e (walk_row f d ts)) (1 + row_greatest c ts) most_words (ap (λ (x : ℕ). 1 + x) r.2) h.0, r.0)
    carried_heap d c e at m (Array' a (more_of-Ty t end_of-Ty)) h =
        let r = carried d c e at t h.1 in
        unturn (form-Array e m (walk f d t)) (few (1 + size_under e (walk f d t)) (1 + size_under c t) most_words (ap (λ (x : ℕ). 1 + x) r.size) h.0, r.form, at_most (qual_under e (walk f d t)) (qual_under c t) Unr r.qual h.2)
    carried_heap d c e at m (Exist' q s a (more_of-Ty t end_of-Ty)) h =
        let r = carried (below_variable d) (with_variable q s c) (with_variable q s e) (carries.deeper_variable d c e at q s) t h.1 in
        unturn (form-Exist e m q s (walk f (below_variable d) t)) (
          few (size_under (with_variable q s e) (walk f (below_variable d) t)) (size_under (with_variable q s c) t) most_words r.size h.0,
          r.form,
          at_most (qual_under (with_variable q s e) (walk f (below_variable d) t)) (qual_under (with_variable q s c) t) (content_qual m) r.qual h.2,
        )

    carried_row : (d : Depth) (c e : Scope) → At d c e → (q : Qual) {n : _} (ts : Row_of-Ty n) → IsRowOfParts c q ts → AreParts e q (walk_row f d ts) × (list_size e (walk_row f d ts) ≡ row_size c ts) × (list_greatest e (walk_row f d ts) ≡ row_greatest c ts)
    carried_row d c e at q end_of-Ty h = (tt, refl, refl)
    carried_row d c e at q (more_of-Ty t ts) h =
        let r = carried d c e at t h.0 in
        let rest = carried_row d c e at q ts h.2 in (
          (r.form, at_most (qual_under e (walk f d t)) (qual_under c t) q r.qual h.1, rest.0),
          ap (λ (x : ℕ). x + list_size e (walk_row f d ts)) r.size ∙ ap (λ (x : ℕ). size_under c t + x) rest.1,
          ap (λ (x : ℕ). max x (list_greatest e (walk_row f d ts))) r.size ∙ ap (λ (x : ℕ). max (size_under c t) x) rest.2,
        )

    carried_slots : (d : Depth) (c e : Scope) → At d c e → {n : _} (ss : Row_of-Slot n) → IsRowOfSlots c ss → AreSlots e (walk_slot_row f d ss) × (slot_words (walk_slot_row f d ss) ≡ row_slot_words ss)
    carried_slots d c e at end_of-Slot h = (tt, refl)
    carried_slots d c e at (more_of-Slot t s ss) h =
        let r = carried d c e at t h.0 in
        let rest = carried_slots d c e at ss h.2 in
        ((r.form, few (size_under e (walk f d t)) (size_under c t) s r.size h.1, rest.0), ap (λ (x : ℕ). s + x) rest.1)
