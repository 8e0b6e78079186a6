-- Types are told to be well formed exactly where they are, by induction on the type.
use Rattle.std.proofs.Common.{◌≡◌, ◌≤◌, ◌∙◌, ℕ, List, [], ◌∷◌, Bool, true, false, ◌&&◌, Option, Some, None, refl, ap, sym, subst, arith, cond}
use Rattle.std.specs.Prelude.{nat_le}
use Rattle.std.specs.Option.{IsSomeAnd}
use Rattle.std.proofs.lemmas.Bool.{and_parts, and_from, leb-true, le-leb, false≢true}
use Rattle.rw_types.specs.declared.types.Mem.{Mem}
use Rattle.rw_types.specs.declared.types.Mem.TheVariants.{L, U}
use Rattle.rw_types.specs.declared.types.Priv.{Priv}
use Rattle.rw_types.specs.declared.types.Priv.TheVariants.{Rw, R}
use Rattle.rw_types.specs.declared.types.Qual.{Qual}
use Rattle.rw_types.specs.declared.types.Qual.TheVariants.{Unr, Lin}
use Rattle.rw_types.specs.declared.types.Ty.{Ty, Of, Var, Rec', Row_of-Ty, end_of-Ty, more_of-Ty}
use Rattle.rw_types.specs.declared.types.Pre.{Pre, Unit, I32, I64, Tuple', Ref, Ptr, Cap, Own, Hidden', Code', end_of-FunType, more_of-FunType}
use Rattle.rw_types.specs.declared.types.Heap.{Heap, Struct', Variant', Array', Exist', Row_of-Slot, end_of-Slot, more_of-Slot}
use Rattle.rich_types.specs.declared.variables.VariableKind.{VariableKind}
use Rattle.rich_types.specs.Scopes.{Scope, with_location, with_variable, within, memory_of, variable_of}
use Rattle.rich_types.specs.Sizes.{qual_under, size_under}
use Rattle.rich_types.specs.WellFormed.{most_words, content_qual, IsAtMost, MayRefer, MayOwn, IsWellFormed, IsWellFormedPre, IsWellFormedHeap, IsRowOfParts, IsRowOfSlots, AreParts}
use Rattle.rich_rules.specs.Forms.{at_most, has_qual, is_rw, is_linear_location, may_refer, holds_of, is_formed_variable, is_formed, is_formed_pre, is_formed_heap, is_row_of_parts, is_row_of_slots, first_ill_formed}

at_most-true : (q r : Qual) → at_most q r ≡ true → IsAtMost q r
at_most-true Unr r e = tt
at_most-true Lin Lin e = tt
at_most-true Lin Unr e = absurd (false≢true e)

at_most-from : (q r : Qual) → IsAtMost q r → at_most q r ≡ true
at_most-from Unr r a = refl
at_most-from Lin Lin a = refl
at_most-from Lin Unr a = absurd a

same_qual : (q r : Qual) → (at_most q r && at_most r q) ≡ true → q ≡ r
same_qual Unr Unr e = refl
same_qual Lin Lin e = refl
same_qual Unr Lin e = absurd (false≢true e)
same_qual Lin Unr e = absurd (false≢true e)

own_qual : (q : Qual) → (at_most q q && at_most q q) ≡ true
own_qual Unr = refl
own_qual Lin = refl

pub has_qual-true : (c : Scope) (q : Qual) (t : Ty) → has_qual c q t ≡ true → qual_under c t ≡ q
has_qual-true c q t e = same_qual (qual_under c t) q e

pub has_qual-from : (c : Scope) (q : Qual) (t : Ty) → qual_under c t ≡ q → has_qual c q t ≡ true
has_qual-from c q t e = subst (λ r. (at_most (qual_under c t) r && at_most r (qual_under c t)) ≡ true) e (own_qual (qual_under c t))

is_lin : (q : Qual) → at_most Lin q ≡ true → q ≡ Lin
is_lin Lin e = refl
is_lin Unr e = absurd (false≢true e)

lin_is : (q : Qual) → q ≡ Lin → at_most Lin q ≡ true
lin_is q e = subst (λ r. at_most Lin r ≡ true) (sym e) refl

may_refer-true : (q : Qual) (p : Priv) (m : Mem) → may_refer q p m ≡ true → MayRefer q p m
may_refer-true q p L e = is_lin q e
may_refer-true q Rw U e = refl
may_refer-true q R U e = absurd (false≢true e)

may_refer-from : (q : Qual) (p : Priv) (m : Mem) → MayRefer q p m → may_refer q p m ≡ true
may_refer-from q p L a = lin_is q a
may_refer-from q p U a = subst (λ r. is_rw r ≡ true) (sym a) refl

linear-true : (o : Option Mem) → is_linear_location o ≡ true → o ≡ Some L
linear-true (Some L) e = refl
linear-true (Some U) e = absurd (false≢true e)
linear-true None e = absurd (false≢true e)

linear-from : (o : Option Mem) → o ≡ Some L → is_linear_location o ≡ true
linear-from o e = subst (λ x. is_linear_location x ≡ true) (sym e) refl

own-true : (q : Qual) (o : Option Mem) → (at_most Lin q && is_linear_location o) ≡ true → MayOwn q o
own-true q o e = let x = and_parts _ _ e in (is_lin q x.0, linear-true o x.1)

own-from : (q : Qual) (o : Option Mem) → MayOwn q o → (at_most Lin q && is_linear_location o) ≡ true
own-from q o a = and_from _ _ (lin_is q a.0) (linear-from o a.1)

variable-true : (o : Option VariableKind) → is_formed_variable o ≡ true → IsSomeAnd o (λ k. k.size ≤ most_words)
variable-true (Some k) e = leb-true k.size most_words e
variable-true None e = absurd (false≢true e)

variable-from : (o : Option VariableKind) → IsSomeAnd o (λ k. k.size ≤ most_words) → is_formed_variable o ≡ true
variable-from (Some k) a = le-leb k.size most_words a
variable-from None a = absurd a

holds-true : (o : Option Mem) (f : Mem → Bool) (P : Mem → Type 0) → ((m : Mem) → f m ≡ true → P m) → holds_of o f ≡ true → IsSomeAnd o P
holds-true (Some m) f P go e = go m e
holds-true None f P go e = absurd (false≢true e)

holds-from : (o : Option Mem) (f : Mem → Bool) (P : Mem → Type 0) → ((m : Mem) → P m → f m ≡ true) → IsSomeAnd o P → holds_of o f ≡ true
holds-from (Some m) f P go a = go m a
holds-from None f P go a = absurd a

same_size : (n s : ℕ) → (nat_le n s && nat_le s n) ≡ true → n ≡ s
same_size n s e = let x : (nat_le n s ≡ true) × (nat_le s n ≡ true) = and_parts _ _ e in omega (arith, leb-true n s x.0, leb-true s n x.1)

size_same : (n s : ℕ) → n ≡ s → (nat_le n s && nat_le s n) ≡ true
size_same n s e = let up : n ≤ s = omega arith in let down : s ≤ n = omega arith in and_from _ _ (le-leb n s up) (le-leb s n down)

mutual
  pub formed-true : (c : Scope) (t : Ty) → is_formed c t ≡ true → IsWellFormed c t
  formed-true c (Of q p) e = let x = and_parts _ _ e in (leb-true _ _ x.0, pre-true c q p x.1)
  formed-true c (Var n) e = variable-true (variable_of c n) e
  formed-true c (Rec' q s a (more_of-Ty t end_of-Ty)) e =
      let x = and_parts _ _ e in let y = and_parts _ _ x.1 in let z = and_parts _ _ y.1 in
      (leb-true s most_words x.0, formed-true (with_variable q s c) t y.0, (has_qual-true (with_variable q s c) q t z.0, same_size (size_under (with_variable q s c) t) s z.1))

  pre-true : (c : Scope) (q : Qual) (p : Pre) → is_formed_pre c q p ≡ true → IsWellFormedPre c q p
  pre-true c q Unit e = tt
  pre-true c q I32 e = tt
  pre-true c q I64 e = tt
  pre-true c q (Tuple' m ts) e = parts-true c q ts e
  pre-true c q (Ref p l h) e = holds-true (memory_of c l) _ _ (λ m x. (let y = and_parts _ _ x in (may_refer-true q p m y.0, heap-true c m h y.1))) e
  pre-true c q (Ptr l) e = e
  pre-true c q (Cap p l h) e = let x = and_parts _ _ e in (own-true q (memory_of c l) x.0, heap-true c L h x.1)
  pre-true c q (Own l) e = own-true q (memory_of c l) e
  pre-true c q (Hidden' m a (more_of-Ty t end_of-Ty)) e = let x = and_parts _ _ e in (formed-true (with_location m c) t x.0, at_most-true (qual_under (with_location m c) t) q x.1)
  pre-true c q (Code' a (more_of-FunType bs m ps n rs end_of-FunType)) e = let x = and_parts _ _ e in (parts-true (within bs c) Lin ps x.0, parts-true (within bs c) Lin rs x.1)

  heap-true : (c : Scope) (m : Mem) (h : Heap) → is_formed_heap c m h ≡ true → IsWellFormedHeap c m h
  heap-true c m (Struct' n ss) e = let x = and_parts _ _ e in (leb-true _ _ x.0, slots-true c ss x.1)
  heap-true c m (Variant' n ts) e = let x = and_parts _ _ e in (leb-true _ _ x.0, parts-true c (content_qual m) ts x.1)
  heap-true c m (Array' a (more_of-Ty t end_of-Ty)) e = let x = and_parts _ _ e in let y = and_parts _ _ x.1 in (leb-true _ _ x.0, formed-true c t y.0, at_most-true (qual_under c t) Unr y.1)
  heap-true c m (Exist' q s a (more_of-Ty t end_of-Ty)) e =
      let x = and_parts _ _ e in let y = and_parts _ _ x.1 in
      (leb-true _ _ x.0, formed-true (with_variable q s c) t y.0, at_most-true (qual_under (with_variable q s c) t) (content_qual m) y.1)

  parts-true : {n : _} (c : Scope) (q : Qual) (ts : Row_of-Ty n) → is_row_of_parts c q ts ≡ true → IsRowOfParts c q ts
  parts-true c q end_of-Ty e = tt
  parts-true c q (more_of-Ty t ts) e = let x = and_parts _ _ e in let y = and_parts _ _ x.0 in (formed-true c t y.0, at_most-true (qual_under c t) q y.1, parts-true c q ts x.1)

  slots-true : {n : _} (c : Scope) (ss : Row_of-Slot n) → is_row_of_slots c ss ≡ true → IsRowOfSlots c ss
  slots-true c end_of-Slot e = tt
  slots-true c (more_of-Slot t s ss) e = let x = and_parts _ _ e in let y = and_parts _ _ x.0 in (formed-true c t y.0, leb-true _ _ y.1, slots-true c ss x.1)

mutual
  pub formed-from : (c : Scope) (t : Ty) → IsWellFormed c t → is_formed c t ≡ true
  formed-from c (Of q p) w = and_from _ _ (le-leb _ _ w.0) (pre-from c q p w.1)
  formed-from c (Var n) w = variable-from (variable_of c n) w
  formed-from c (Rec' q s a (more_of-Ty t end_of-Ty)) w = and_from _ _ (le-leb s most_words w.0) (and_from _ _ (formed-from (with_variable q s c) t w.1) (and_from _ _ (has_qual-from (with_variable q s c) q t w.2.0) (size_same (size_under (with_variable q s c) t) s w.2.1)))

  pre-from : (c : Scope) (q : Qual) (p : Pre) → IsWellFormedPre c q p → is_formed_pre c q p ≡ true
  pre-from c q Unit w = refl
  pre-from c q I32 w = refl
  pre-from c q I64 w = refl
  pre-from c q (Tuple' m ts) w = parts-from c q ts w
  pre-from c q (Ref p l h) w = holds-from (memory_of c l) _ _ (λ m x. and_from _ _ (may_refer-from q p m x.0) (heap-from c m h x.1)) w
  pre-from c q (Ptr l) w = w
  pre-from c q (Cap p l h) w = and_from _ _ (own-from q (memory_of c l) w.0) (heap-from c L h w.1)
  pre-from c q (Own l) w = own-from q (memory_of c l) w
  pre-from c q (Hidden' m a (more_of-Ty t end_of-Ty)) w = and_from _ _ (formed-from (with_location m c) t w.0) (at_most-from (qual_under (with_location m c) t) q w.1)
  pre-from c q (Code' a (more_of-FunType bs m ps n rs end_of-FunType)) w = and_from _ _ (parts-from (within bs c) Lin ps w.0) (parts-from (within bs c) Lin rs w.1)

  heap-from : (c : Scope) (m : Mem) (h : Heap) → IsWellFormedHeap c m h → is_formed_heap c m h ≡ true
  heap-from c m (Struct' n ss) w = and_from _ _ (le-leb _ _ w.0) (slots-from c ss w.1)
  heap-from c m (Variant' n ts) w = and_from _ _ (le-leb _ _ w.0) (parts-from c (content_qual m) ts w.1)
  heap-from c m (Array' a (more_of-Ty t end_of-Ty)) w = and_from _ _ (le-leb _ _ w.0) (and_from _ _ (formed-from c t w.1) (at_most-from (qual_under c t) Unr w.2))
  heap-from c m (Exist' q s a (more_of-Ty t end_of-Ty)) w = and_from _ _ (le-leb _ _ w.0) (and_from _ _ (formed-from (with_variable q s c) t w.1) (at_most-from (qual_under (with_variable q s c) t) (content_qual m) w.2))

  parts-from : {n : _} (c : Scope) (q : Qual) (ts : Row_of-Ty n) → IsRowOfParts c q ts → is_row_of_parts c q ts ≡ true
  parts-from c q end_of-Ty w = refl
  parts-from c q (more_of-Ty t ts) w = and_from _ _ (and_from _ _ (formed-from c t w.0) (at_most-from (qual_under c t) q w.1)) (parts-from c q ts w.2)

  slots-from : {n : _} (c : Scope) (ss : Row_of-Slot n) → IsRowOfSlots c ss → is_row_of_slots c ss ≡ true
  slots-from c end_of-Slot w = refl
  slots-from c (more_of-Slot t s ss) w = and_from _ _ (and_from _ _ (formed-from c t w.0) (le-leb _ _ w.1)) (slots-from c ss w.2)

-- lists
below_lin : (q : Qual) → IsAtMost q Lin
below_lin Unr = tt
below_lin Lin = tt

one_more : (c : Scope) (t : Ty) (ts : List Ty) (b : Bool) → is_formed c t ≡ b → cond b (first_ill_formed c ts) (Some t) ≡ None → (first_ill_formed c ts ≡ None → AreParts c Lin ts) → AreParts c Lin (t ∷ ts)
one_more c t ts true f e rest = (formed-true c t f, below_lin (qual_under c t), rest e)
one_more c t ts false f e rest = cc

pub all_formed-true : (c : Scope) (ts : List Ty) → first_ill_formed c ts ≡ None → AreParts c Lin ts
all_formed-true c [] e = tt
all_formed-true c (t ∷ ts) e = one_more c t ts (is_formed c t) refl e (all_formed-true c ts)

pub all_formed-from : (c : Scope) (ts : List Ty) → AreParts c Lin ts → first_ill_formed c ts ≡ None
all_formed-from c [] w = refl
all_formed-from c (t ∷ ts) w = ap (λ b. cond b (first_ill_formed c ts) (Some t)) (formed-from c t w.0) ∙ all_formed-from c ts w.2
