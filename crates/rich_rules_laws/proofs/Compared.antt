-- Types are told to be the same exactly where they are, by induction on both.
use Rattle.std.proofs.Common.{◌≡◌, ◌∙◌, List, [], ◌∷◌, true, refl, ap, sym}
use Rattle.std.proofs.lemmas.Bool.{and_parts, and_from, eqb-true, eq-eqb, false≢true}
use Rattle.rw_types.specs.declared.types.Binder.{Binder}
use Rattle.rw_types.specs.declared.types.Binder.TheVariants.{Loc, Kind}
use Rattle.rw_types.specs.declared.types.FunType.{FunType}
use Rattle.rw_types.specs.declared.types.Mem.{Mem}
use Rattle.rw_types.specs.declared.types.Mem.TheVariants.{L, U}
use Rattle.rw_types.specs.declared.types.Priv.{Priv}
use Rattle.rw_types.specs.declared.types.Priv.TheVariants.{Rw, R}
use Rattle.rw_types.specs.declared.types.Qual.{Qual}
use Rattle.rw_types.specs.declared.types.Qual.TheVariants.{Unr, Lin}
use Rattle.rw_types.specs.declared.types.Slot.{Slot}
use Rattle.rw_types.specs.declared.types.Ty.{Ty, Of, Var, Rec', Row_of-Ty, end_of-Ty, more_of-Ty, items-the_row-Ty}
use Rattle.rw_types.specs.declared.types.Ty.TheVariants.{Rec}
use Rattle.rw_types.specs.declared.types.Pre.{Pre, Unit, I32, I64, Tuple', Ref, Ptr, Cap, Own, Hidden', Code', end_of-FunType, more_of-FunType}
use Rattle.rw_types.specs.declared.types.Pre.TheVariants.{Tuple, Hidden, Code}
use Rattle.rw_types.specs.declared.types.Heap.{Heap, Struct', Variant', Array', Exist', Row_of-Slot, end_of-Slot, more_of-Slot, items-the_row-Slot}
use Rattle.rw_types.specs.declared.types.Heap.TheVariants.{Struct, Variant, Array, Exist}
use Rattle.rw_types.specs.declared.types.Heap.TheBlock.{hidden-the_row-Ty-2}
use Rattle.rich_types_laws.proofs.Unchanged.{whole-Tuple, whole-Code, whole-Struct, whole-Variant}
use Rattle.rich_rules.specs.Equality.{same, same_pre, same_heap, same_row, same_slot_row, same_qual, same_memory, same_privilege, same_binders, same_types, same_function}

quals : (q r : Qual) → same_qual q r ≡ true → q ≡ r
quals Unr Unr e = refl
quals Lin Lin e = refl
quals Unr Lin e = absurd (false≢true e)
quals Lin Unr e = absurd (false≢true e)

quals_refl : (q : Qual) → same_qual q q ≡ true
quals_refl Unr = refl
quals_refl Lin = refl

pub memories : (m n : Mem) → same_memory m n ≡ true → m ≡ n
memories L L e = refl
memories U U e = refl
memories L U e = absurd (false≢true e)
memories U L e = absurd (false≢true e)

pub memories_refl : (m : Mem) → same_memory m m ≡ true
memories_refl L = refl
memories_refl U = refl

privileges : (p r : Priv) → same_privilege p r ≡ true → p ≡ r
privileges Rw Rw e = refl
privileges R R e = refl
privileges Rw R e = absurd (false≢true e)
privileges R Rw e = absurd (false≢true e)

privileges_refl : (p : Priv) → same_privilege p p ≡ true
privileges_refl Rw = refl
privileges_refl R = refl

-- two parts are the same
both : {A B C : Type 0} (f : A → B → C) {a a' : A} {b b' : B} → a ≡ a' → b ≡ b' → f a b ≡ f a' b'
both f {a} {a'} {b} {b'} e g = ap (λ x. f x b) e ∙ ap (f a') g

three : {A B C D : Type 0} (f : A → B → C → D) {a a' : A} {b b' : B} {c c' : C} → a ≡ a' → b ≡ b' → c ≡ c' → f a b c ≡ f a' b' c'
three f {a} {a'} {b} {b'} {c} {c'} e g h = ap (λ x. f x b c) e ∙ ap (λ x. f a' x c) g ∙ ap (f a' b') h

binders : (bs cs : List Binder) → same_binders bs cs ≡ true → bs ≡ cs
binders [] [] e = refl
binders (Loc m ∷ bs) (Loc n ∷ cs) e = let p = and_parts _ _ e in both (λ x (l : List Binder). Loc x ∷ l) (memories m n p.0) (binders bs cs p.1)
binders (Kind q s ∷ bs) (Kind r n ∷ cs) e = let p = and_parts _ _ e in let k = and_parts _ _ p.0 in three (λ x y (l : List Binder). Kind x y ∷ l) (quals q r k.0) (eqb-true s n k.1) (binders bs cs p.1)
binders [] (c ∷ cs) e = absurd (false≢true e)
binders (Loc m ∷ bs) [] e = absurd (false≢true e)
binders (Kind q s ∷ bs) [] e = absurd (false≢true e)
binders (Loc m ∷ bs) (Kind r n ∷ cs) e = absurd (false≢true e)
binders (Kind q s ∷ bs) (Loc n ∷ cs) e = absurd (false≢true e)

binders_refl : (bs : List Binder) → same_binders bs bs ≡ true
binders_refl [] = refl
binders_refl (Loc m ∷ bs) = and_from _ _ (memories_refl m) (binders_refl bs)
binders_refl (Kind q s ∷ bs) = and_from _ _ (and_from _ _ (quals_refl q) (eq-eqb s s refl)) (binders_refl bs)

code : List Binder → List Ty → List Ty → Pre
code bs ps rs = Code (record { binders = bs; params = ps; results = rs })

mutual
  unfolding hidden-the_row-Ty-2 code denote.Hole.Carrier.hidden

  pub sound : (t u : Ty) → same t u ≡ true → t ≡ u
  sound (Of q p) (Of r o) e = let x = and_parts _ _ e in both Of (quals q r x.0) (sound_pre p o x.1)
  sound (Var n) (Var m) e = ap Var (eqb-true n m e)
  sound (Rec' q s a (more_of-Ty t end_of-Ty)) (Rec' r n b (more_of-Ty u end_of-Ty)) e = let x = and_parts _ _ e in let k = and_parts _ _ x.0 in three Rec (quals q r k.0) (eqb-true s n k.1) (sound t u x.1)
  sound (Of q p) (Var m) e = absurd (false≢true e)
  sound (Of q p) (Rec' r n b (more_of-Ty u end_of-Ty)) e = absurd (false≢true e)
  sound (Var n) (Of r o) e = absurd (false≢true e)
  sound (Var n) (Rec' r m b (more_of-Ty u end_of-Ty)) e = absurd (false≢true e)
  sound (Rec' q s a (more_of-Ty t end_of-Ty)) (Of r o) e = absurd (false≢true e)
  sound (Rec' q s a (more_of-Ty t end_of-Ty)) (Var m) e = absurd (false≢true e)

  sound_pre : (p o : Pre) → same_pre p o ≡ true → p ≡ o
  sound_pre Unit Unit e = refl
  sound_pre I32 I32 e = refl
  sound_pre I64 I64 e = refl
  sound_pre (Tuple' m ts) (Tuple' n us) e = sym (whole-Tuple m ts) ∙ ap Tuple (sound_row ts us e) ∙ whole-Tuple n us
  sound_pre (Ref p l h) (Ref r k g) e = let x = and_parts _ _ e in let y = and_parts _ _ x.0 in three Ref (privileges p r y.0) (eqb-true l k y.1) (sound_heap h g x.1)
  sound_pre (Ptr l) (Ptr k) e = ap Ptr (eqb-true l k e)
  sound_pre (Cap p l h) (Cap r k g) e = let x = and_parts _ _ e in let y = and_parts _ _ x.0 in three Cap (privileges p r y.0) (eqb-true l k y.1) (sound_heap h g x.1)
  sound_pre (Own l) (Own k) e = ap Own (eqb-true l k e)
  sound_pre (Hidden' m a (more_of-Ty t end_of-Ty)) (Hidden' n b (more_of-Ty u end_of-Ty)) e = let x = and_parts _ _ e in both Hidden (memories m n x.0) (sound t u x.1)
  sound_pre (Code' a (more_of-FunType bs m ps n rs end_of-FunType)) (Code' b (more_of-FunType cs i os j us end_of-FunType)) e =
      let x = and_parts _ _ e in let y = and_parts _ _ x.0 in
      sym (whole-Code a bs m ps n rs) ∙ three code (binders bs cs y.0) (sound_row ps os y.1) (sound_row rs us x.1) ∙ whole-Code b cs i os j us
  sound_pre _ _ e = absurd (false≢true e)

  sound_heap : (h g : Heap) → same_heap h g ≡ true → h ≡ g
  sound_heap (Struct' m ss) (Struct' n rs) e = sym (whole-Struct m ss) ∙ ap Struct (sound_slots ss rs e) ∙ whole-Struct n rs
  sound_heap (Variant' m ts) (Variant' n us) e = sym (whole-Variant m ts) ∙ ap Variant (sound_row ts us e) ∙ whole-Variant n us
  sound_heap (Array' a (more_of-Ty t end_of-Ty)) (Array' b (more_of-Ty u end_of-Ty)) e = ap Array (sound t u e)
  sound_heap (Exist' q s a (more_of-Ty t end_of-Ty)) (Exist' r n b (more_of-Ty u end_of-Ty)) e = let x = and_parts _ _ e in let k = and_parts _ _ x.0 in three Exist (quals q r k.0) (eqb-true s n k.1) (sound t u x.1)
  sound_heap _ _ e = absurd (false≢true e)

  sound_row : {m n : _} (ts : Row_of-Ty m) (us : Row_of-Ty n) → same_row ts us ≡ true → items-the_row-Ty _ ts ≡ items-the_row-Ty _ us
  sound_row end_of-Ty end_of-Ty e = refl
  sound_row (more_of-Ty t ts) (more_of-Ty u us) e = let x = and_parts _ _ e in both (λ y (l : List Ty). y ∷ l) (sound t u x.0) (sound_row ts us x.1)
  sound_row end_of-Ty (more_of-Ty u us) e = absurd (false≢true e)
  sound_row (more_of-Ty t ts) end_of-Ty e = absurd (false≢true e)

  sound_slots : {m n : _} (ss : Row_of-Slot m) (rs : Row_of-Slot n) → same_slot_row ss rs ≡ true → items-the_row-Slot _ ss ≡ items-the_row-Slot _ rs
  sound_slots end_of-Slot end_of-Slot e = refl
  sound_slots (more_of-Slot t s ss) (more_of-Slot u n rs) e = let x = and_parts _ _ e in let y = and_parts _ _ x.0 in three (λ v w (l : List Slot). record { ty = v; size = w } ∷ l) (sound t u y.0) (eqb-true s n y.1) (sound_slots ss rs x.1)
  sound_slots end_of-Slot (more_of-Slot u n rs) e = absurd (false≢true e)
  sound_slots (more_of-Slot t s ss) end_of-Slot e = absurd (false≢true e)

mutual
  pub reflexive : (t : Ty) → same t t ≡ true
  reflexive (Of q p) = and_from _ _ (quals_refl q) (reflexive_pre p)
  reflexive (Var n) = eq-eqb n n refl
  reflexive (Rec' q s a (more_of-Ty t end_of-Ty)) = and_from _ _ (and_from _ _ (quals_refl q) (eq-eqb s s refl)) (reflexive t)

  reflexive_pre : (p : Pre) → same_pre p p ≡ true
  reflexive_pre Unit = refl
  reflexive_pre I32 = refl
  reflexive_pre I64 = refl
  reflexive_pre (Tuple' m ts) = reflexive_row ts
  reflexive_pre (Ref p l h) = and_from _ _ (and_from _ _ (privileges_refl p) (eq-eqb l l refl)) (reflexive_heap h)
  reflexive_pre (Ptr l) = eq-eqb l l refl
  reflexive_pre (Cap p l h) = and_from _ _ (and_from _ _ (privileges_refl p) (eq-eqb l l refl)) (reflexive_heap h)
  reflexive_pre (Own l) = eq-eqb l l refl
  reflexive_pre (Hidden' m a (more_of-Ty t end_of-Ty)) = and_from _ _ (memories_refl m) (reflexive t)
  reflexive_pre (Code' a (more_of-FunType bs m ps n rs end_of-FunType)) = and_from _ _ (and_from _ _ (binders_refl bs) (reflexive_row ps)) (reflexive_row rs)

  reflexive_heap : (h : Heap) → same_heap h h ≡ true
  reflexive_heap (Struct' m ss) = reflexive_slots ss
  reflexive_heap (Variant' m ts) = reflexive_row ts
  reflexive_heap (Array' a (more_of-Ty t end_of-Ty)) = reflexive t
  reflexive_heap (Exist' q s a (more_of-Ty t end_of-Ty)) = and_from _ _ (and_from _ _ (quals_refl q) (eq-eqb s s refl)) (reflexive t)

  reflexive_row : {m : _} (ts : Row_of-Ty m) → same_row ts ts ≡ true
  reflexive_row end_of-Ty = refl
  reflexive_row (more_of-Ty t ts) = and_from _ _ (reflexive t) (reflexive_row ts)

  reflexive_slots : {m : _} (ss : Row_of-Slot m) → same_slot_row ss ss ≡ true
  reflexive_slots end_of-Slot = refl
  reflexive_slots (more_of-Slot t s ss) = and_from _ _ (and_from _ _ (reflexive t) (eq-eqb s s refl)) (reflexive_slots ss)

sound_list : (ts us : List Ty) → same_types ts us ≡ true → ts ≡ us
sound_list [] [] e = refl
sound_list (t ∷ ts) (u ∷ us) e = let x = and_parts _ _ e in both (λ y (l : List Ty). y ∷ l) (sound t u x.0) (sound_list ts us x.1)
sound_list [] (u ∷ us) e = absurd (false≢true e)
sound_list (t ∷ ts) [] e = absurd (false≢true e)

reflexive_list : (ts : List Ty) → same_types ts ts ≡ true
reflexive_list [] = refl
reflexive_list (t ∷ ts) = and_from _ _ (reflexive t) (reflexive_list ts)

pub sound_function : (f g : FunType) → same_function f g ≡ true → f ≡ g
sound_function f g e =
    let x = and_parts _ _ e in let y = and_parts _ _ x.0 in
    three (λ (bs : List Binder) (ps rs : List Ty). record { binders = bs; params = ps; results = rs }) (binders f.binders g.binders y.0) (sound_list f.params g.params y.1) (sound_list f.results g.results x.1)

pub reflexive_function : (f : FunType) → same_function f f ≡ true
reflexive_function f = and_from _ _ (and_from _ _ (binders_refl f.binders) (reflexive_list f.params)) (reflexive_list f.results)
