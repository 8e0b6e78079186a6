-- The stacks that fit what is known, and what taking operands makes of them: both ways.
use Rattle.std.proofs.Common.{◌≡◌, ◌∙◌, Bool, true, false, ◌&&◌, List, [], ◌∷◌, ◌++◌, map, refl, sym, ap, subst}
use Rattle.std.specs.Prelude.{Option, Some, None, Result, Ok, if◌then◌else◌}
use Rattle.wasm_ast.specs.declared.types.ValTy.{ValTy}
use Rattle.wasm_ast.specs.declared.types.ValTy.TheVariants.{I32, I64}
use Rattle.wasm_typing.specs.declared.rule.WRule.{WRule}
use Rattle.wasm_typing.specs.Signatures.{Slot, The, Same, Left, Gives, Anything, Signature}
use Rattle.wasm_ast.specs.SameTypes.{is_same_value_type}
use Rattle.wasm_typing.specs.Typing.{fill, IsLeft, Applies}
use Rattle.wasm_typing_laws.specs.Checking.{Seen, Taken, agrees, meet, take_one, took, take_slots, left_of, fits}

abbrev pub Is : Option ValTy → ValTy → Type 0
Is None t = Unit {0}
Is (Some u) t = u ≡ t

abbrev pub In : List (Option ValTy) → Bool → List ValTy → Type 0
In [] false st = st ≡ []
In [] true st = Unit {0}
In (k ∷ ks) any [] = ⊥
In (k ∷ ks) any (t ∷ st) = Is k t × In ks any st

pub same_type-self : (t : ValTy) → is_same_value_type t t ≡ true
same_type-self I32 = refl
same_type-self I64 = refl

pub same_type-true : (t u : ValTy) → is_same_value_type t u ≡ true → t ≡ u
same_type-true I32 I32 e = refl
same_type-true I64 I64 e = refl
same_type-true I32 I64 e = absurd (cc)
same_type-true I64 I32 e = absurd (cc)

pub same_type-from : (t u : ValTy) → t ≡ u → is_same_value_type t u ≡ true
same_type-from t u e = ap (is_same_value_type t) (sym e) ∙ same_type-self t

pub agrees-forth : (k : Option ValTy) (t : ValTy) → Is k t → agrees k t ≡ true
agrees-forth None t h = refl
agrees-forth (Some u) t h = same_type-from u t h

pub agrees-back : (k : Option ValTy) (t : ValTy) → agrees k t ≡ true → Is k t
agrees-back None t h = tt
agrees-back (Some u) t h = same_type-true u t h

-- a choice that came out with something
pub chosen : {A : Type 0} (b : Bool) (x y : A) → (if b then Some x else None) ≡ Some y → (b ≡ true) × (x ≡ y)
chosen true x y e = (refl, cc)
chosen false x y e = absurd (cc)

pub meet-forth : (v k : Option ValTy) (t : ValTy) → Is v t → Is k t → (now : Option ValTy) × (meet v k ≡ Some now) × Is now t
meet-forth None k t hv hk = (k, refl, hk)
meet-forth (Some u) None t hv hk = (Some u, refl, hv)
meet-forth (Some u) (Some v) t hv hk = (Some u, ap (λ (b : Bool). if b then Some (Some u) else None) (same_type-from u v (hv ∙ sym hk)), hv)

pub meet-back : (v k now : Option ValTy) (t : ValTy) → meet v k ≡ Some now → Is now t → Is v t × Is k t
meet-back None k now t e h = let q : now ≡ k = (cc) in (tt, subst (λ (x : Option ValTy). Is x t) q h)
meet-back (Some u) None now t e h = let q : now ≡ Some u = (cc) in (subst (λ (x : Option ValTy). Is x t) q h, tt)
meet-back (Some u) (Some v) now t e h =
    let p = chosen (is_same_value_type u v) (Some u) now e in
    let hu : u ≡ t = subst (λ (x : Option ValTy). Is x t) (sym p.1) h in
    (hu, sym (same_type-true u v p.0) ∙ hu)

pub one-forth : (s : Slot) (v k : Option ValTy) (t : ValTy) → Is v t → Is k (fill t s) → (now : Option ValTy) × (take_one s v k ≡ Some now) × Is now t
one-forth (The u) v k t hv hk = (v, ap (λ (b : Bool). if b then Some v else None) (agrees-forth k u hk), hv)
one-forth Same v k t hv hk = meet-forth v k t hv hk

pub one-back : (s : Slot) (v k now : Option ValTy) (t : ValTy) → take_one s v k ≡ Some now → Is now t → Is v t × Is k (fill t s)
one-back (The u) v k now t e h =
    let p = chosen (agrees k u) v now e in
    (subst (λ (x : Option ValTy). Is x t) (sym p.1) h, agrees-back k u p.0)
one-back Same v k now t e h = meet-back v k now t e h

pub took-back : {A : Type 0} (o : Option (Option ValTy)) (go : Option ValTy → Result A WRule) (r : A) → took o go ≡ Ok r → (now : Option ValTy) × (o ≡ Some now) × (go now ≡ Ok r)
took-back None go r e = absurd (cc)
took-back (Some now) go r e = (now, refl, e)

pub take-forth : (ss : List Slot) (v : Option ValTy) (ks : List (Option ValTy)) (any : Bool) (t : ValTy) (below : List ValTy) → Is v t → In ks any (map (fill t) ss ++ below) →
    (r : Taken) × (take_slots ss v ks any ≡ Ok r) × Is r.same t × In r.known any below
take-forth [] v ks any t below hv h = (record { same = v; known = ks }, refl, hv, h)
take-forth (s ∷ ss) v [] true t below hv h = take-forth ss v [] true t below hv tt
take-forth (s ∷ ss) v [] false t below hv h = absurd (cc)
take-forth (s ∷ ss) v (k ∷ ks) any t below hv h =
    let o = one-forth s v k t hv h.0 in
    let r = take-forth ss o.0 ks any t below o.2 h.1 in
    (r.0, ap (λ (x : Option (Option ValTy)). took x (λ now. take_slots ss now ks any)) o.1 ∙ r.1, r.2, r.3)

pub take-back : (ss : List Slot) (v : Option ValTy) (ks : List (Option ValTy)) (any : Bool) (r : Taken) (t : ValTy) (below : List ValTy) → take_slots ss v ks any ≡ Ok r → Is r.same t → In r.known any below →
    Is v t × In ks any (map (fill t) ss ++ below)
take-back [] v ks any r t below e hs h =
    let q : record { same = v; known = ks } ≡ r = (cc) in
    (subst (λ (x : Taken). Is x.same t) (sym q) hs, subst (λ (x : Taken). In x.known any below) (sym q) h)
take-back (s ∷ ss) v [] true r t below e hs h = ((take-back ss v [] true r t below e hs h).0, tt)
take-back (s ∷ ss) v [] false r t below e hs h = absurd (cc)
take-back (s ∷ ss) v (k ∷ ks) any r t below e hs h =
    let p = took-back (take_one s v k) (λ now. take_slots ss now ks any) r e in
    let i = take-back ss p.0 ks any r t below p.2 hs h in
    let o = one-back s v k p.0 t p.1 i.0 in
    (o.0, (o.1, i.1))

abbrev pub pick : Option ValTy → ValTy
pick None = I32
pick (Some u) = u

pub pick-is : (k : Option ValTy) → Is k (pick k)
pick-is None = tt
pick-is (Some u) = refl

-- some stack fits
pub some_in : (ks : List (Option ValTy)) (any : Bool) → In ks any (map pick ks)
some_in [] true = tt
some_in [] false = refl
some_in (k ∷ ks) any = (pick-is k, some_in ks any)

abbrev pub InSeen : Seen → List ValTy → Type 0
InSeen s st = In s.known s.any st

pub left-forth : (l : Left) (r : Taken) (any : Bool) (t : ValTy) (below after : List ValTy) → Is r.same t → In r.known any below → IsLeft t l below after → InSeen (left_of l r any) after
left-forth (Gives None) r any t below after hs h e = subst (λ (st : List ValTy). In r.known any st) (sym e) h
left-forth (Gives (Some (The u))) r any t below after hs h e = subst (λ (st : List ValTy). In (Some u ∷ r.known) any st) (sym e) (refl, h)
left-forth (Gives (Some Same)) r any t below after hs h e = subst (λ (st : List ValTy). In (r.same ∷ r.known) any st) (sym e) (hs, h)
left-forth Anything r any t below after hs h e = tt

pub left-back : (l : Left) (r : Taken) (any : Bool) (after : List ValTy) → InSeen (left_of l r any) after →
    (t : ValTy) × (below : List ValTy) × Is r.same t × In r.known any below × IsLeft t l below after
left-back (Gives None) r any after h = (pick r.same, after, pick-is r.same, h, refl)
left-back (Gives (Some s)) r any [] h = absurd h
left-back (Gives (Some (The u))) r any (x ∷ st) h = (pick r.same, st, pick-is r.same, h.1, ap (λ (y : ValTy). y ∷ st) (sym h.0))
left-back (Gives (Some Same)) r any (x ∷ st) h = (x, st, h.0, h.1, refl)
left-back Anything r any after h = (pick r.same, map pick r.known, pick-is r.same, some_in r.known any, tt)

-- an instruction of this signature, both ways
pub applies-forth : (s : Signature) (seen : Seen) (before after : List ValTy) → InSeen seen before → Applies s before after →
    (r : Taken) × (take_slots s.takes None seen.known seen.any ≡ Ok r) × InSeen (left_of s.left r seen.any) after
applies-forth s seen before after h a =
    let i = take-forth s.takes None seen.known seen.any a.at a.below tt (subst (λ (st : List ValTy). In seen.known seen.any st) a.taken h) in
    (i.0, i.1, left-forth s.left i.0 seen.any a.at a.below after i.2 i.3 a.left)

pub applies-back : (s : Signature) (seen : Seen) (r : Taken) (after : List ValTy) → take_slots s.takes None seen.known seen.any ≡ Ok r → InSeen (left_of s.left r seen.any) after →
    (before : List ValTy) × InSeen seen before × Applies s before after
applies-back s seen r after e h =
    let b = left-back s.left r seen.any after h in
    let i = take-back s.takes None seen.known seen.any r b.0 b.1 e b.2 b.3 in
    (map (fill b.0) s.takes ++ b.1, i.1, record { at = b.0; below = b.1; taken = refl; «left» = b.4 })

pub both : (a b : Bool) → (a && b) ≡ true → (a ≡ true) × (b ≡ true)
both true b e = (refl, e)
both false b e = absurd (cc)

pub fits-forth : (ts : List ValTy) (ks : List (Option ValTy)) (any : Bool) → In ks any ts → fits ts ks any ≡ true
fits-forth [] [] any h = refl
fits-forth [] (k ∷ ks) any h = absurd h
fits-forth (t ∷ ts) [] true h = refl
fits-forth (t ∷ ts) [] false h = absurd (cc)
fits-forth (t ∷ ts) (k ∷ ks) any h = ap (λ (b : Bool). b && fits ts ks any) (agrees-forth k t h.0) ∙ fits-forth ts ks any h.1

pub fits-back : (ts : List ValTy) (ks : List (Option ValTy)) (any : Bool) → fits ts ks any ≡ true → In ks any ts
fits-back [] [] true e = tt
fits-back [] [] false e = refl
fits-back [] (k ∷ ks) any e = absurd (cc)
fits-back (t ∷ ts) [] true e = tt
fits-back (t ∷ ts) [] false e = absurd (cc)
fits-back (t ∷ ts) (k ∷ ks) any e = let p = both (agrees k t) (fits ts ks any) e in (agrees-back k t p.0, fits-back ts ks any p.1)

-- the result of a list goes onto what is known, both ways
pub onto-forth : (ts : List ValTy) (ks : List (Option ValTy)) (any : Bool) (st : List ValTy) → In ks any st → In (map (λ u. Some u) ts ++ ks) any (ts ++ st)
onto-forth [] ks any st h = h
onto-forth (t ∷ ts) ks any st h = (refl, onto-forth ts ks any st h)

pub onto-back : (ts : List ValTy) (ks : List (Option ValTy)) (any : Bool) (st : List ValTy) → In (map (λ u. Some u) ts ++ ks) any st → (below : List ValTy) × (st ≡ ts ++ below) × In ks any below
onto-back [] ks any st h = (st, refl, h)
onto-back (t ∷ ts) ks any [] h = absurd h
onto-back (t ∷ ts) ks any (x ∷ st) h =
    let i = onto-back ts ks any st h.1 in
    (i.0, ap (λ (y : ValTy). y ∷ st) (sym h.0) ∙ ap (λ (l : List ValTy). t ∷ l) i.1, i.2)
