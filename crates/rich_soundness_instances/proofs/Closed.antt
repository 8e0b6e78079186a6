-- Walks whose leaves answer alike at all numbers in scope are the same on well-formed types, by induction on types; so closed types
-- stay.
use Rattle.std.proofs.Common.{◌≡◌, ◌∙◌, ◌<◌, ◌≤◌, ℕ, zero, suc, ◌+◌, ◌-◌, List, [], ◌∷◌, Option, Some, None, length, true, false, refl, sym, ap, arith}
use Rattle.std.specs.Prelude.{IsSome, slice_get, nat_lt, if◌then◌else◌}
use Rattle.std.specs.Option.{IsSomeAnd}
use Rattle.rw_types.specs.declared.types.Binder.{Binder}
use Rattle.rw_types.specs.declared.types.Binder.TheVariants.{Loc, Kind}
use Rattle.rw_types.specs.declared.types.Mem.{Mem}
use Rattle.rw_types.specs.declared.types.Mem.TheVariants.{L}
use Rattle.rw_types.specs.declared.types.Qual.{Qual}
use Rattle.rw_types.specs.declared.types.Qual.TheVariants.{Lin}
use Rattle.rw_types.specs.declared.types.Slot.{Slot}
use Rattle.rw_types.specs.declared.types.Ty.{Ty, Of, Var, Rec', Row_of-Ty, end_of-Ty, more_of-Ty}
use Rattle.rw_types.specs.declared.types.Ty.TheVariants.{Rec}
use Rattle.rw_types.specs.declared.types.Pre.{Pre, Unit, I32, I64, Tuple', Ref, Ptr, Cap, Own, Hidden', Code', end_of-FunType, more_of-FunType}
use Rattle.rw_types.specs.declared.types.Pre.TheVariants.{Tuple, Hidden, Code}
use Rattle.rw_types.specs.declared.types.Heap.{Heap, Struct', Variant', Array', Exist', Row_of-Slot, end_of-Slot, more_of-Slot}
use Rattle.rw_types.specs.declared.types.Heap.TheVariants.{Struct, Variant, Array, Exist}
use Rattle.rich_types.specs.declared.depth.Depth.{Depth}
use Rattle.rich_types.specs.declared.variables.VariableKind.{VariableKind}
use Rattle.rich_types.specs.Scopes.{Scope, no_scope, within, with_location, with_variable, memory_of, variable_of}
use Rattle.rich_types.specs.WellFormed.{most_words, content_qual, MayRefer, IsWellFormed, IsWellFormedPre, IsWellFormedHeap, IsRowOfParts, IsRowOfSlots, AreParts}
use Rattle.rich_types.specs.Walks.{Leaves, below, below_location, below_variable, outside, walk, walk_pre, walk_heap, walk_row, walk_slot_row, walk_list}
use Rattle.rich_types.specs.Instances.{Substitution, look, raise, substituting, no_substitution}
use Rattle.rich_types_laws.proofs.Composed.{look_in}
use Rattle.rich_types_laws.proofs.Unchanged.{unchanged}
use Rattle.rich_soundness_values.specs.Heaps.{all_at}
use Rattle.rich_soundness_instances.specs.Laws.{TypesAreClosed, FunctionsAreClosed}

-- leaves that answer alike at the numbers in scope, at depths and scopes that stand in step
record AlikeWithin (f g : Leaves) (At : Depth → Scope → Type 0) : Type 0 where
  pub location : (d : Depth) (c : Scope) → At d c → (n : ℕ) (m : Mem) → memory_of c n ≡ Some m → f.location d n ≡ g.location d n
  pub variable : (d : Depth) (c : Scope) → At d c → (n : ℕ) (k : VariableKind) → variable_of c n ≡ Some k → f.variable d n ≡ g.variable d n
  pub deeper_location : (d : Depth) (c : Scope) → At d c → (m : Mem) → At (below_location d) (with_location m c)
  pub deeper_variable : (d : Depth) (c : Scope) → At d c → (q : Qual) (s : ℕ) → At (below_variable d) (with_variable q s c)

bound : {A : Type 0} (P : A → Type 0) (o : Option A) → IsSomeAnd o P → (x : A) × (o ≡ Some x) × P x
bound P (Some x) h = (x, refl, h)
bound P None h = absurd h

is_there : {A : Type 0} (o : Option A) → IsSome o → (x : A) × (o ≡ Some x)
is_there (Some x) h = (x, refl)
is_there None h = cc

module _ {f g : Leaves} {At : Depth → Scope → Type 0} (al : AlikeWithin f g At) where
  at_within : (bs : List Binder) (d : Depth) (c : Scope) → At d c → At (below bs d) (within bs c)
  at_within [] d c a = a
  at_within (Loc m ∷ bs) d c a = at_within bs (below_location d) (with_location m c) (al.deeper_location d c a m)
  at_within (Kind q s ∷ bs) d c a = at_within bs (below_variable d) (with_variable q s c) (al.deeper_variable d c a q s)

  mutual
    alike : (d : Depth) (c : Scope) → At d c → (t : Ty) → IsWellFormed c t → walk f d t ≡ walk g d t
    alike d c a (Of q p) w = ap (Of q) (alike_pre d c a q p w.1)
    alike d c a (Var n) w = let b = bound (λ (k : VariableKind). k.size ≤ most_words) (variable_of c n) w in al.variable d c a n b.0 b.1
    alike d c a (Rec' q s r (more_of-Ty t end_of-Ty)) w = ap (Rec q s) (alike (below_variable d) (with_variable q s c) (al.deeper_variable d c a q s) t w.1)

    alike_pre : (d : Depth) (c : Scope) → At d c → (q : Qual) (p : Pre) → IsWellFormedPre c q p → walk_pre f d p ≡ walk_pre g d p
    alike_pre d c a q Unit w = refl
    alike_pre d c a q I32 w = refl
    alike_pre d c a q I64 w = refl
    alike_pre d c a q (Tuple' m ts) w = ap Tuple (alike_row d c a q ts w)
    alike_pre d c a q (Ref p l h) w =
        let b = bound (λ (m : Mem). MayRefer q p m × IsWellFormedHeap c m h) (memory_of c l) w in
        ap (λ (n : ℕ). Ref p n (walk_heap f d h)) (al.location d c a l b.0 b.1) ∙ ap (Ref p (g.location d l)) (alike_heap d c a b.0 h b.2.1)
    alike_pre d c a q (Ptr l) w = let b = is_there (memory_of c l) w in ap Ptr (al.location d c a l b.0 b.1)
    alike_pre d c a q (Cap p l h) w = ap (λ (n : ℕ). Cap p n (walk_heap f d h)) (al.location d c a l L w.0.1) ∙ ap (Cap p (g.location d l)) (alike_heap d c a L h w.1)
    alike_pre d c a q (Own l) w = ap Own (al.location d c a l L w.1)
    alike_pre d c a q (Hidden' m r (more_of-Ty t end_of-Ty)) w = ap (Hidden m) (alike (below_location d) (with_location m c) (al.deeper_location d c a m) t w.0)
    alike_pre d c a q (Code' r (more_of-FunType bs m ps n rs end_of-FunType)) w =
        ap (λ (l : List Ty). Code (record { binders = bs; params = l; results = walk_row f (below bs d) rs })) (alike_row (below bs d) (within bs c) (at_within bs d c a) Lin ps w.0)
        ∙ ap (λ (l : List Ty). Code (record { binders = bs; params = walk_row g (below bs d) ps; results = l })) (alike_row (below bs d) (within bs c) (at_within bs d c a) Lin rs w.1)

    alike_heap : (d : Depth) (c : Scope) → At d c → (m : Mem) (h : Heap) → IsWellFormedHeap c m h → walk_heap f d h ≡ walk_heap g d h
    alike_heap d c a m (Struct' n ss) w = ap Struct (alike_slots d c a ss w.1)
    alike_heap d c a m (Variant' n ts) w = ap Variant (alike_row d c a (content_qual m) ts w.1)
    alike_heap d c a m (Array' r (more_of-Ty t end_of-Ty)) w = ap Array (alike d c a t w.1)
    alike_heap d c a m (Exist' q s r (more_of-Ty t end_of-Ty)) w = ap (Exist q s) (alike (below_variable d) (with_variable q s c) (al.deeper_variable d c a q s) t w.1)

    alike_row : (d : Depth) (c : Scope) → At d c → (q : Qual) {n : _} (ts : Row_of-Ty n) → IsRowOfParts c q ts → walk_row f d ts ≡ walk_row g d ts
    alike_row d c a q end_of-Ty w = refl
    alike_row d c a q (more_of-Ty t ts) w = ap (λ (u : Ty). u ∷ walk_row f d ts) (alike d c a t w.0) ∙ ap (λ (l : List Ty). walk g d t ∷ l) (alike_row d c a q ts w.2)

    alike_slots : (d : Depth) (c : Scope) → At d c → {n : _} (ss : Row_of-Slot n) → IsRowOfSlots c ss → walk_slot_row f d ss ≡ walk_slot_row g d ss
    alike_slots d c a end_of-Slot w = refl
    alike_slots d c a (more_of-Slot t s ss) w = ap (λ (u : Ty). record { ty = u; size = s } ∷ walk_slot_row f d ss) (alike d c a t w.0) ∙ ap (λ (l : List Slot). record { ty = walk g d t; size = s } ∷ l) (alike_slots d c a ss w.2)

  alike_list : (d : Depth) (c : Scope) → At d c → (q : Qual) (ts : List Ty) → AreParts c q ts → walk_list f d ts ≡ walk_list g d ts
  alike_list d c a q [] w = refl
  alike_list d c a q (t ∷ ts) w = ap (λ (u : Ty). u ∷ walk_list f d ts) (alike d c a t w.0) ∙ ap (λ (l : List Ty). walk g d t ∷ l) (alike_list d c a q ts w.2)

-- nothing put in
nothing : {A B : Type 0} (hit : A → B) (free : ℕ → B) (d n : ℕ) → look [] hit free d n ≡ free n
nothing hit free d n = let e : n - 0 ≡ n = omega arith in elim (nat_lt n d) as (λ b. (let k : _ = if b then free n else free (n - 0) in k ≡ free n)) [ true ↦ refl | false ↦ ap free e ]

unwalked : (d : Depth) (t : Ty) → walk (substituting no_substitution) d t ≡ t
unwalked d t = unchanged (substituting no_substitution) (record {
  location = λ d n. nothing (λ (l : ℕ). l + d.locations) (λ m. m) d.locations n;
  variable = λ d n. nothing (λ (u : Ty). raise d u) (λ m. Var m) d.variables n;
}) d t

unwalked_list : (d : Depth) (ts : List Ty) → walk_list (substituting no_substitution) d ts ≡ ts
unwalked_list d [] = refl
unwalked_list d (t ∷ ts) = ap (λ (u : Ty). u ∷ walk_list (substituting no_substitution) d ts) (unwalked d t) ∙ ap (λ (l : List Ty). t ∷ l) (unwalked_list d ts)

pub nothing_put_in : (ts : List Ty) → all_at no_substitution ts ≡ ts
nothing_put_in ts = unwalked_list outside ts

-- as deep as its scope
record Level (d : Depth) (c : Scope) : Type 0 where
  pub locations : length c.locations ≡ d.locations
  pub variables : length c.variables ≡ d.variables

in_range : {A : Type 0} (xs : List A) (n : ℕ) (x : A) → slice_get xs n ≡ Some x → n < length xs
in_range [] n x e = cc
in_range (y ∷ xs) zero x e = omega arith
in_range (y ∷ xs) (suc n) x e = omega (arith, in_range xs n x e)

alike_closed : (g : Substitution) → AlikeWithin (substituting g) (substituting no_substitution) Level
unfolding below_location below_variable
alike_closed g = record {
  location = λ d c a n m e. (let lt : n < d.locations = omega (arith, in_range c.locations n m e, a.locations) in
      look_in g.locations (λ l. l + d.locations) (λ m. m) d.locations n lt ∙ sym (look_in no_substitution.locations (λ l. l + d.locations) (λ m. m) d.locations n lt));
  variable = λ d c a n k e. (let lt : n < d.variables = omega (arith, in_range c.variables n k e, a.variables) in
      look_in g.variables (λ (u : Ty). raise d u) (λ m. Var m) d.variables n lt ∙ sym (look_in no_substitution.variables (λ (u : Ty). raise d u) (λ m. Var m) d.variables n lt));
  deeper_location = λ d c a m. record { locations = omega (arith, a.locations); variables = a.variables };
  deeper_variable = λ d c a q s. record { locations = a.locations; variables = omega (arith, a.variables) };
}

pub types_are_closed : TypesAreClosed
types_are_closed g t w = alike (alike_closed g) outside no_scope (record { locations = refl; variables = refl }) t w ∙ unwalked outside t

parts_closed : (g : Substitution) (bs : List Binder) (ts : List Ty) → AreParts (within bs no_scope) Lin ts → walk_list (substituting g) (below bs outside) ts ≡ ts
parts_closed g bs ts w =
    alike_list (alike_closed g) (below bs outside) (within bs no_scope) (at_within (alike_closed g) bs outside no_scope (record { locations = refl; variables = refl })) Lin ts w
    ∙ unwalked_list (below bs outside) ts

pub functions_are_closed : FunctionsAreClosed
functions_are_closed g f w =
    ap (λ (l : List Ty). record { binders = f.binders; params = l; results = walk_list (substituting g) (below f.binders outside) f.results }) (parts_closed g f.binders f.params w.0)
    ∙ ap (λ (l : List Ty). record { binders = f.binders; params = f.params; results = l }) (parts_closed g f.binders f.results w.1)
